-- The dispatches of a tick, followed by what its entries tell: at each client the requests that wait fall by the entries for
-- it, at each node the balance falls by the grains charged to it, and a client is charged for its own requests only, since
-- strictly above any node stand only classes.
use Prim.Native.Nat.{ℕ, ◌+◌, ◌≤◌}
use mathlib.Core.Path.{◌≡◌, refl, sym, ◌∙◌}
use mathlib.Core.Bool.{true}
use mathlib.Core.List.{List}
use native.Mathlib.Omega.{arith}
use native.Mathlib.Decide.{ℕ_discrete}
use borrow.Author.Tests.{eq-eqb}
use lib.Dec.{eqb}
use lib.IntN.{ℤ, pos}
use Rattle.numbers.specs.Whole.{plus, minus}
use Rattle.numbers.proofs.Tests.{by_test, true_false, cond_true, cond_false}
use Rattle.numbers.proofs.Parts.{zarith, sub_parts}
use Rattle.definitions.specs.Limits.{root}
use Rattle.definitions.specs.Tree.{Tree, is_client, at_or_above}
use Rattle.definitions.specs.Places.{balance, waiting, size}
use Rattle.definitions.specs.Tick.{State, grains, dispatched}
use Rattle.treelaws.proofs.Sorts.{client_class}
use Rattle.treelaws.proofs.Way.{Ways, At, way_class, above_there, above_root}
use Rattle.ticklaws.proofs.Dispatch.{Dispatch, takes, dispatch_shifted}
use Rattle.bounds.specs.Observer.{entries_for}
use Rattle.bounds.specs.Counts.{entry_grains, grains_for_client, grains_to_node, sum_over}
use Rattle.definitions.proofs.Ports.{whole}
use Rattle.ticklaws.proofs.Ports.{entry_whole}
use Rattle.bounds.proofs.Decoded.{told}
use Rattle.bounds.proofs.Dispatched.{eqb_swap, sent_more, all_more, grains_more, charged_more}

-- What the dispatches from one state to another did.
pub record Followed (tree : Tree) (from to : State) : Type 0 where
  pub waits :
      (k : ℕ)
      → waiting to.table k + entries_for k (told to.entries) ≡ waiting from.table k + entries_for k (told from.entries)
  pub fewer : (k : ℕ) → waiting to.table k ≤ waiting from.table k
  pub balances :
      (x : ℕ)
      → plus (balance to.table x) + minus (balance from.table x) + sum_over (grains_to_node tree x) (told to.entries)
      ≡ minus (balance to.table x) + plus (balance from.table x) + sum_over (grains_to_node tree x) (told from.entries)

pub followed_first : (tree : Tree) (st : State) → Followed tree st st
followed_first tree st = record { waits = λ k. refl; fewer = λ k. omega arith; balances = λ x. omega arith }

-- A list that holds entries only, in which a client is charged at most what is dispatched for it, and the root everything.
pub record Fair (tree : Tree) (list : List ℤ) : Type 0 where
  pub whole : whole list
  pub own : (k : ℕ) → is_client tree k ≡ true → sum_over (grains_to_node tree k) (told list) ≤ sum_over (grains_for_client k) (told list)
  pub root : sum_over (grains_to_node tree root) (told list) ≡ sum_over entry_grains (told list)

module _ (tree : Tree) (st : State) (k s : ℕ) (d : Dispatch tree st.table (dispatched st k s).table k s) (w : whole st.entries) where
  one_waits : (j : ℕ) → waiting (dispatched st k s).table j + entries_for j (told (dispatched st k s).entries) ≡ waiting st.table j + entries_for j (told st.entries)
  unfolding takes
  one_waits j =
      omega (
        arith,
        rw (eqb_swap k j) at (sent_more st k s w j),
        (dispatch_shifted tree st.table (dispatched st k s).table k s d j).waits,
      )

  one_balance :
      (x : ℕ)
      → plus (balance (dispatched st k s).table x) + minus (balance st.table x) + sum_over (grains_to_node tree x) (told (dispatched st k s).entries)
      ≡ minus (balance (dispatched st k s).table x) + plus (balance st.table x) + sum_over (grains_to_node tree x) (told st.entries)
  unfolding plus minus
  one_balance x =
      let g = grains (size st.table k 0) in
      by_test (at_or_above tree s x)
      (λ on. omega (arith, zarith, charged_more st k s w tree x, cond_true (at_or_above tree s x) g 0 on, d.on x on, sub_parts (balance st.table x) (pos g)))
      (λ off. omega (arith, zarith, charged_more st k s w tree x, cond_false (at_or_above tree s x) g 0 off, d.off x off))

  pub followed_next : (from : State) → Followed tree from st → Followed tree from (dispatched st k s)
  followed_next from f =
      record {
        waits = λ j. one_waits j ∙ f.waits j;
        fewer = λ j. omega (arith, f.fewer j, (dispatch_shifted tree st.table (dispatched st k s).table k s d j).waits);
        balances = λ x. omega (arith, one_balance x, f.balances x);
      }

-- A client at or above a supplier that is at or above client k is k.
own_supplier : (tree : Tree) → Ways tree → (k s x : ℕ) → At tree (tree.level k) k → at_or_above tree k s ≡ true → at_or_above tree s x ≡ true → is_client tree x ≡ true → x ≡ k
unfolding at_or_above
own_supplier tree w k s x at way on client =
    let first = alone s (above_there tree w k s at way) on in
    alone k at (rw first way)
  where
    alone : (j : ℕ) → At tree (tree.level j) j → at_or_above tree j x ≡ true → x ≡ j
    alone j a h =
        elim (ℕ_discrete x j) [
          | yes e ↦ e
          | no ne ↦ absurd (true_false (way_class tree w (tree.level j) j x a h ne) (client_class tree x client))
        ]

pub fair_next : (tree : Tree) → Ways tree → (st : State) (k s : ℕ) → At tree (tree.level k) k → at_or_above tree k s ≡ true → Fair tree st.entries → Fair tree (dispatched st k s).entries
fair_next tree w st k s at way f =
    record {
      whole = entry_whole st k s f.whole;
      own = λ x client.
          let g = grains (size st.table k 0) in
          by_test (at_or_above tree s x)
          (λ on.
          let own = eq-eqb k x (sym (own_supplier tree w k s x at way on client)) in
          omega (
            arith,
            f.own x client,
            charged_more st k s f.whole tree x,
            grains_more st k s f.whole x,
            cond_true (at_or_above tree s x) g 0 on,
            cond_true (eqb k x) g 0 own,
          ))
          (λ off.
          omega (
            arith,
            f.own x client,
            charged_more st k s f.whole tree x,
            grains_more st k s f.whole x,
            cond_false (at_or_above tree s x) g 0 off,
          ));
      root =
          let g = grains (size st.table k 0) in
          omega (
            arith,
            f.root,
            charged_more st k s f.whole tree root,
            all_more st k s f.whole,
            cond_true (at_or_above tree s root) g 0 (above_root tree w s (above_there tree w k s at way)),
          );
    }
