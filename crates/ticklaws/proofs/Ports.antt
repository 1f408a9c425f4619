-- Ports in a tick: they stay as they are, and at each port the entries written and the requests still waiting make up all that
-- waited.
use Prim.Native.Nat.{ℕ, ◌+◌, ◌*◌, ◌≤◌, ◌<◌}
use mathlib.Core.Path.{◌≡◌, sym, ap, ◌∙◌}
use mathlib.Core.Bool.{true, false}
use mathlib.Core.List.{List, [], ◌∷◌, ◌++◌}
use native.Mathlib.Omega.{arith}
use borrow.Author.Tests.{eqb-true, eqb-false, eq-eqb, ne_eqb}
use lib.Dec.{eqb}
use lib.ListN.{length, length-append}
use lib.IntN.{ℤ, pos}
use Rattle.numbers.specs.Whole.{plus}
use Rattle.numbers.specs.Below.{sum_below}
use Rattle.numbers.proofs.Tests.{by_test, cond_true, cond_false}
use Rattle.numbers.proofs.Sums.{sum_zero, sum_cong, sum_mono, sum_add, sum_changed}
use Rattle.definitions.specs.Limits.{nodes, entry_length, first_port, second_port}
use Rattle.definitions.specs.Places.{port, waiting, tag, size}
use Rattle.definitions.specs.Tree.{Tree, tree_of, count_if}
use Rattle.definitions.specs.Tick.{State, grown, cut, all_waiting, dispatched, step_two, step_three, ticked, of_port, port_entries, port_waiting}
use Rattle.definitions.proofs.Facts.{InOrder}
use Rattle.definitions.proofs.Ports.{ports_small, by_port, whole, whole_of, port_none, port_gets, port_stays, ports_all}
use Rattle.treelaws.proofs.Children.{counted, uncounted}
use Rattle.ticklaws.specs.Ports.{gets}
use Rattle.ticklaws.proofs.Frame.{OnlyBalances, only_frame, frame_port}
use Rattle.ticklaws.proofs.Queues.{only_shifted}
use Rattle.ticklaws.proofs.Reached.{reached_long}
use Rattle.ticklaws.proofs.Grown.{grown_swept, grown_reached}
use Rattle.ticklaws.proofs.Cut.{cut_swept}
use Rattle.ticklaws.proofs.Dispatch.{Dispatch, dispatch_entry}
use Rattle.ticklaws.proofs.Served.{served_all_with}
use Rattle.ticklaws.proofs.Lent.{lent_with}
use Rattle.ticklaws.proofs.Keeps.{two_reached, three_settled}

-- Where ports and waiting counts stay, so do the requests that wait at a port.
pub same_waiting : (t u : List ℤ) (p : ℕ) → ((k : ℕ) → port u k ≡ port t k) → ((k : ℕ) → waiting u k ≡ waiting t k) → port_waiting u p ≡ port_waiting t p
unfolding port_waiting
same_waiting t u p ports waits =
    sum_cong nodes (λ k. count_if (eqb (port u k) p) (waiting u) k) (λ k. count_if (eqb (port t k) p) (waiting t) k)
    (λ k hk.
    by_test (eqb (port t k) p)
    (λ e. counted (eqb (port u k) p) (waiting u) k (ap (λ (q : ℕ). eqb q p) (ports k) ∙ e) ∙ waits k ∙ counted_back t p k e)
    (λ e. uncounted (eqb (port u k) p) (waiting u) k (ap (λ (q : ℕ). eqb q p) (ports k) ∙ e) ∙ uncounted_back t p k e))
  where
    counted_back : (t : List ℤ) (p k : ℕ) → eqb (port t k) p ≡ true → waiting t k ≡ count_if (eqb (port t k) p) (waiting t) k
    counted_back t p k e = sym (counted (eqb (port t k) p) (waiting t) k e)

    uncounted_back : (t : List ℤ) (p k : ℕ) → eqb (port t k) p ≡ false → 0 ≡ count_if (eqb (port t k) p) (waiting t) k
    uncounted_back t p k e = sym (uncounted (eqb (port t k) p) (waiting t) k e)

-- No more wait at a port than at all.
pub port_most : (t : List ℤ) (p : ℕ) → port_waiting t p ≤ all_waiting t
unfolding port_waiting all_waiting
port_most t p =
    sum_mono nodes _ (waiting t)
    (λ k hk.
    by_test (eqb (port t k) p)
    (λ e. omega (arith, counted (eqb (port t k) p) (waiting t) k e))
    (λ e. omega (arith, uncounted (eqb (port t k) p) (waiting t) k e)))

-- What waits at the two ports is all that waits, node by node and in sum.
pub waits_both : (t : List ℤ) → InOrder t → (k : ℕ) → count_if (eqb (port t k) first_port) (waiting t) k + count_if (eqb (port t k) second_port) (waiting t) k ≡ waiting t k
waits_both t f k =
    by_port (port t) (ports_small t f) k
    (λ here other. omega (arith, counted _ (waiting t) k (eq-eqb (port t k) first_port here), uncounted _ (waiting t) k (ne_eqb (port t k) second_port other)))
    (λ other here. omega (arith, uncounted _ (waiting t) k (ne_eqb (port t k) first_port other), counted _ (waiting t) k (eq-eqb (port t k) second_port here)))

pub port_both : (t : List ℤ) → InOrder t → port_waiting t first_port + port_waiting t second_port ≡ all_waiting t
unfolding port_waiting all_waiting
port_both t f = sym (sum_add nodes _ _) ∙ sum_cong nodes _ (waiting t) (λ k hk. waits_both t f k)

-- Nothing waits at a port that no client is on.
pub none_waiting : (t : List ℤ) (p : ℕ) → ((k : ℕ) → port t k ≡ p → ⊥) → port_waiting t p ≡ 0
unfolding port_waiting
none_waiting t p nobody = sum_zero nodes _ (λ k hk. uncounted (eqb (port t k) p) (waiting t) k (ne_eqb (port t k) p (nobody k)))

pub only_ports : (t u : List ℤ) → OnlyBalances t u → (k : ℕ) → port u k ≡ port t k
only_ports t u only = frame_port t u (only_frame only)

pub only_port_waiting : (t u : List ℤ) (p : ℕ) → OnlyBalances t u → port_waiting u p ≡ port_waiting t p
only_port_waiting t u p only = same_waiting t u p (only_ports t u only) (λ k. omega (arith, only_shifted t u only k))

-- A dispatch takes one request out at its client's port.
pub port_falls : (tree : Tree) (t u : List ℤ) (k s : ℕ) → k < nodes → Dispatch tree t u k s → (p : ℕ) → port_waiting u p + gets p (port t k) ≡ port_waiting t p
unfolding port_waiting gets
port_falls tree t u k s hk d p =
    let at : ℕ → ℕ = λ j. count_if (eqb (port t j) p) (waiting t) j in
    let after : ℕ → ℕ = λ j. count_if (eqb (port u j) p) (waiting u) j in
    let changed : sum_below nodes after + at k ≡ sum_below nodes at + after k = sum_changed nodes k after at hk others in
    by_test (eqb (port t k) p)
    (λ e. omega (arith, changed, cond_true {A = ℕ} (eqb (port t k) p) 1 0 e, counted (eqb (port t k) p) (waiting t) k e, counted (eqb (port u k) p) (waiting u) k (ap (λ (q : ℕ). eqb q p) (ports k) ∙ e), d.own))
    (λ e. omega (arith, changed, cond_false {A = ℕ} (eqb (port t k) p) 1 0 e, uncounted (eqb (port t k) p) (waiting t) k e, uncounted (eqb (port u k) p) (waiting u) k (ap (λ (q : ℕ). eqb q p) (ports k) ∙ e)))
  where
    ports : (j : ℕ) → port u j ≡ port t j
    ports = frame_port t u d.frame

    others : (j : ℕ) → j < nodes → (j ≡ k → ⊥) → count_if (eqb (port u j) p) (waiting u) j ≡ count_if (eqb (port t j) p) (waiting t) j
    others j hj ne =
        by_test (eqb (port t j) p)
        (λ e. omega (arith, counted (eqb (port t j) p) (waiting t) j e, counted (eqb (port u j) p) (waiting u) j (ap (λ (q : ℕ). eqb q p) (ports j) ∙ e), d.other j ne))
        (λ e. omega (arith, uncounted (eqb (port t j) p) (waiting t) j e, uncounted (eqb (port u j) p) (waiting u) j (ap (λ (q : ℕ). eqb q p) (ports j) ∙ e)))

-- A state on the way from a table whose clients' ports port_of gives: at port p its entries and the requests that still wait, four
-- numbers for each, make n in all.
record Counted (port_of : ℕ → ℕ) (p n : ℕ) (st : State) : Type 0 where
  ports : (k : ℕ) → port st.table k ≡ port_of k
  whole : whole st.entries
  sum : length (of_port port_of p st.entries) + entry_length * port_waiting st.table p ≡ n

-- One entry more, at a port.
module _ (port_of : ℕ → ℕ) (p : ℕ) (st : State) (k s : ℕ) (w : whole st.entries) where
  pub entry_here : port_of k ≡ p → of_port port_of p (dispatched st k s).entries ≡ of_port port_of p st.entries ++ (pos k ∷ tag st.table k 0 ∷ pos (size st.table k 0) ∷ pos s ∷ [])
  unfolding dispatched plus
  entry_here e = port_gets port_of p _ _ _ _ st.entries w e

  pub entry_other : (port_of k ≡ p → ⊥) → of_port port_of p (dispatched st k s).entries ≡ of_port port_of p st.entries
  unfolding dispatched plus
  entry_other ne = port_stays port_of p _ _ _ _ st.entries w ne

  pub entry_length_law : length (of_port port_of p (dispatched st k s).entries) ≡ length (of_port port_of p st.entries) + entry_length * gets p (port_of k)
  unfolding gets
  entry_length_law =
      by_test (eqb (port_of k) p)
      (λ e. omega (arith, ap length (entry_here (eqb-true _ p e)), length-append (of_port port_of p st.entries) (pos k ∷ tag st.table k 0 ∷ pos (size st.table k 0) ∷ pos s ∷ []), cond_true {A = ℕ} (eqb (port_of k) p) 1 0 e))
      (λ e. omega (arith, ap length (entry_other (eqb-false _ p e)), cond_false {A = ℕ} (eqb (port_of k) p) 1 0 e))

pub entry_whole : (st : State) (k s : ℕ) → whole st.entries → whole (dispatched st k s).entries
unfolding whole
entry_whole st k s w = omega (arith, dispatch_entry st k s)

one_counted : (port_of : ℕ → ℕ) (p n : ℕ) (t : List ℤ) (st : State) (k s : ℕ) → k < nodes → Dispatch (tree_of t) st.table (dispatched st k s).table k s → Counted port_of p n st → Counted port_of p n (dispatched st k s)
one_counted port_of p n t st k s hk d c =
    record {
      ports = λ j. frame_port st.table _ d.frame j ∙ c.ports j;
      whole = entry_whole st k s c.whole;
      sum =
          omega (
            arith,
            c.sum,
            entry_length_law port_of p st k s c.whole,
            port_falls (tree_of t) st.table (dispatched st k s).table k s hk d p,
            ap (gets p) (c.ports k),
          );
    }

module _ (t : List ℤ) (f : InOrder t) (p : ℕ) where
  two_counted : Counted (port t) p (entry_length * port_waiting t p) (step_two t)
  unfolding step_two
  two_counted =
      let only = (grown_swept t f.long).only in
      served_all_with t f (Counted (port t) p (entry_length * port_waiting t p))
      (λ k st hk r e d. one_counted (port t) p (entry_length * port_waiting t p) t st k k hk d)
      (record { table = grown t; entries = [] }) (grown_reached t f)
      (record {
        ports = only_ports t (grown t) only;
        whole = whole_of 0 [] (omega arith);
        sum = omega (arith, ap length (port_none (port t) p), only_port_waiting t (grown t) p only);
      })

  three_counted : Counted (port t) p (entry_length * port_waiting t p) (step_three t)
  unfolding step_three
  three_counted =
      let u = (step_two t).table in
      let only = (cut_swept u (reached_long t u f (two_reached t f))).only in
      record {
        ports = λ k. only_ports u (cut u) only k ∙ two_counted.ports k;
        whole = two_counted.whole;
        sum = omega (arith, two_counted.sum, only_port_waiting u (cut u) p only);
      }

  four_counted : Counted (port t) p (entry_length * port_waiting t p) (ticked t)
  unfolding ticked
  four_counted =
      lent_with t f (Counted (port t) p (entry_length * port_waiting t p))
      (λ st r k hk s d. one_counted (port t) p (entry_length * port_waiting t p) t st k _ hk d)
      (all_waiting (step_three t).table) (step_three t) (three_settled t f) three_counted

  pub port_entries_law : length (port_entries t p) + entry_length * port_waiting (ticked t).table p ≡ entry_length * port_waiting t p
  unfolding port_entries
  port_entries_law = four_counted.sum

  pub ticked_whole : whole (ticked t).entries
  ticked_whole = four_counted.whole

-- The two ports' entries together are all.
pub both_entries : (t : List ℤ) → InOrder t → length (port_entries t first_port) + length (port_entries t second_port) ≡ length (ticked t).entries
unfolding port_entries
both_entries t f = ports_all (port t) (ports_small t f) (ticked t).entries (ticked_whole t f first_port)

-- So a tick writes four numbers for each request that no longer waits.
pub ticked_entries : (t : List ℤ) → InOrder t → InOrder (ticked t).table → length (ticked t).entries + entry_length * all_waiting (ticked t).table ≡ entry_length * all_waiting t
ticked_entries t f g =
    omega (
      arith,
      both_entries t f,
      port_entries_law t f first_port,
      port_entries_law t f second_port,
      port_both t f,
      port_both (ticked t).table g,
    )
