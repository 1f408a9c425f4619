-- One dispatch: the client's oldest request is taken out, and its grains are charged to the supplier and to every node
-- above it. Nothing else changes but the entries, and where the supplier stands the grains above its floor, every
-- floor is kept.
use Prim.Native.Nat.{ℕ, ◌+◌, ◌<◌}
use mathlib.Core.Path.{◌≡◌, sym, ◌∙◌, subst, fun_ext}
use mathlib.Core.Bool.{true, false, cond}
use mathlib.Core.List.{List}
use native.Mathlib.Omega.{arith}
use borrow.Author.Tests.{eqb-true, eqb-false}
use lib.Dec.{eqb}
use lib.ListN.{length, length-append}
use lib.IntN.{ℤ, pos, ◌-ℤ◌}
use lib.Signed.{le_z}
use Rattle.numbers.specs.Whole.{plus, minus}
use Rattle.numbers.proofs.Tests.{by_test, true_false}
use Rattle.numbers.proofs.Parts.{zarith, sub_parts, one_is_zero}
use Rattle.definitions.specs.Limits.{table_length, nodes, entry_length}
use Rattle.definitions.specs.Places.{balance, count, waiting, size}
use Rattle.definitions.specs.Tree.{Tree, tree_of, there, at_or_above}
use Rattle.definitions.specs.Tick.{State, grains, charge, taken_out, dispatched}
use Rattle.definitions.proofs.Facts.{InOrder}
use Rattle.treelaws.proofs.Floors.{Room, Floor, Under}
use Rattle.treelaws.proofs.Way.{Ways, ways_of, At, above_there}
use Rattle.ticklaws.proofs.Frame.{Frame, frame_trans, frame_tree, OnlyBalances, only_frame}
use Rattle.ticklaws.proofs.Queues.{Shifted, only_shifted, shifted_trans, queues_shifted}
use Rattle.ticklaws.proofs.Reached.{Reached, reached_long}
use Rattle.ticklaws.proofs.Charge.{charge_only, charge_on, charge_off, charge_floor}
use Rattle.ticklaws.proofs.TakenOut.{taken_frame, taken_balance, taken_own, taken_other}

-- What a dispatch of client k's oldest request with node s as supplier does to a table.
pub record Dispatch (tree : Tree) (t u : List ℤ) (k s : ℕ) : Type 0 where
  pub frame : Frame t u
  pub own : Shifted t u k 1
  pub other : (j : ℕ) → (j ≡ k → ⊥) → Shifted t u j 0
  pub on : (j : ℕ) → at_or_above tree s j ≡ true → balance u j ≡ balance t j -ℤ pos (grains (size t k 0))
  pub off : (j : ℕ) → at_or_above tree s j ≡ false → balance u j ≡ balance t j

-- The grains of the request charged, and then the request taken out.
paid : List ℤ → ℕ → ℕ → List ℤ
paid t k s = charge t (grains (size t k 0)) ((tree_of t).level s) s

gone : List ℤ → ℕ → ℕ → List ℤ
gone t k s = taken_out (paid t k s) k

module _ (t : List ℤ) (k s : ℕ) where
  paid_only : OnlyBalances t (paid t k s)
  unfolding paid
  paid_only = charge_only ((tree_of t).level s) t (grains (size t k 0)) s

module _ (tree : Tree) (w : Ways tree) (t : List ℤ) (n : length t ≡ table_length) (e : tree_of t ≡ tree) (k : ℕ) (hk : k < nodes) (s : ℕ) (at : At tree (tree.level s) s) where
  gone_balance : (j : ℕ) → balance (gone t k s) j ≡ balance (paid t k s) j
  unfolding gone
  gone_balance j = taken_balance (paid t k s) ((paid_only t k s).long ∙ n) k hk j

  gone_dispatch : 0 < waiting t k → Dispatch tree t (gone t k s) k s
  unfolding paid gone at_or_above
  gone_dispatch waits =
      let c : List ℤ = charge t (grains (size t k 0)) ((tree_of t).level s) s in
      let only : OnlyBalances t c = paid_only t k s in
      let long : length c ≡ table_length = only.long ∙ n in
      let still = only_shifted t c only in
      record {
        frame = frame_trans (only_frame only) (taken_frame c long k hk);
        own = shifted_trans t c (taken_out c k) k 0 1 (still k) (taken_own c long k hk (omega (arith, still k)));
        other = λ j ne. shifted_trans t c (taken_out c k) j 0 0 (still j) (taken_other c long k hk j ne);
        on = λ j on. gone_balance j ∙ rw e (charge_on tree w (grains (size t k 0)) (tree.level s) t n e s j at on);
        off = λ j off. gone_balance j ∙ rw e (charge_off tree w (grains (size t k 0)) (tree.level s) t e s j off);
      }

  gone_floor : Floor tree (balance t) → Room tree (balance t) (grains (size t k 0)) s → Floor tree (balance (gone t k s))
  unfolding paid
  gone_floor f r =
      subst (Floor tree) (sym (fun_ext gone_balance)) (rw e (charge_floor tree w (grains (size t k 0)) (tree.level s) t n e s at f r))

-- No balance rises.
pub dispatch_falls : (tree : Tree) (t u : List ℤ) (k s : ℕ) → Dispatch tree t u k s → (j : ℕ) → le_z (balance u j) (balance t j) ≡ true
unfolding plus minus
dispatch_falls tree t u k s d j =
    by_test (at_or_above tree s j)
    (λ on. omega (arith, zarith, d.on j on, sub_parts (balance t j) (pos (grains (size t k 0)))))
    (λ off. omega (arith, zarith, d.off j off))

pub dispatch_under : (tree : Tree) (t u : List ℤ) (k s : ℕ) → Dispatch tree t u k s → Under tree (balance t) → Under tree (balance u)
dispatch_under tree t u k s d f =
    record { most = λ j hj h. omega (arith, zarith, f.most j hj h, dispatch_falls tree t u k s d j, one_is_zero (balance u j)) }

-- How many requests of node j a dispatch for client k takes out.
unfoldable pub takes : ℕ → ℕ → ℕ
takes k j = cond (eqb j k) 1 0

pub dispatch_shifted : (tree : Tree) (t u : List ℤ) (k s : ℕ) → Dispatch tree t u k s → (j : ℕ) → Shifted t u j (takes k j)
unfolding takes
dispatch_shifted tree t u k s d j =
    by_test (eqb j k)
    (λ e. rw (e, eqb-true j k e) d.own)
    (λ e. rw e (d.other j (eqb-false j k e)))

-- A dispatch on the way from t, at a table that is reached.
module _ (t : List ℤ) (f : InOrder t) (st : State) (r : Reached t st.table) (k : ℕ) (hk : k < nodes) (waits : 0 < waiting st.table k) (s : ℕ) (at : At (tree_of t) ((tree_of t).level s) s) where
  pub dispatch : Dispatch (tree_of t) st.table (dispatched st k s).table k s
  unfolding dispatched gone paid
  dispatch = gone_dispatch (tree_of t) (ways_of t f) st.table (reached_long t st.table f r) (frame_tree t st.table r.frame) k hk s at waits

  pub dispatch_reached : Room (tree_of t) (balance st.table) (grains (size st.table k 0)) s → Reached t (dispatched st k s).table
  unfolding dispatched gone paid
  dispatch_reached room =
      let u = st.table in
      let tree = tree_of t in
      let v = (dispatched st k s).table in
      let d = dispatch in
      record {
        frame = frame_trans r.frame d.frame;
        queues = queues_shifted tree (count t) u v (takes k) (λ j hj. dispatch_shifted tree u v k s d j) r.queues;
        floor = gone_floor tree (ways_of t f) u (reached_long t u f r) (frame_tree t u r.frame) k hk s at r.floor room;
        vacant = record { zero = λ j hj h. d.off j (off_way j h) ∙ r.vacant.zero j hj h };
      }
    where
      off_way : (j : ℕ) → there (tree_of t) j ≡ false → at_or_above (tree_of t) s j ≡ false
      off_way j h =
          by_test (at_or_above (tree_of t) s j)
          (λ on. absurd (true_false (above_there (tree_of t) (ways_of t f) s j at on).there h))
          (λ off. off)

-- There is one entry more.
pub dispatch_entry : (st : State) (k s : ℕ) → length (dispatched st k s).entries ≡ length st.entries + entry_length
unfolding dispatched
dispatch_entry st k s = length-append st.entries _
