-- The laws of step 4's choice. In a table in order no two requests share an arrival number, and a client's rise; and every table
-- that step 4 passes through is in order.
use Prim.Native.Nat.{ℕ, zero, suc, ◌-◌, ◌≤◌, ◌<◌}
use mathlib.Core.Path.{◌≡◌, sym}
use mathlib.Core.Bool.{true}
use mathlib.Core.List.{List}
use native.Mathlib.Omega.{arith}
use native.Mathlib.Decide.{ℕ_discrete}
use lib.IntN.{ℤ}
use Rattle.numbers.proofs.All.{by_order}
use Rattle.definitions.specs.Limits.{nodes}
use Rattle.definitions.specs.Places.{count, waiting, arrival}
use Rattle.definitions.specs.Tree.{tree_of, is_client}
use Rattle.definitions.specs.Order.{in_order}
use Rattle.definitions.specs.Tick.{nobody, State, dispatched, supplier, next, lent, step_three}
use Rattle.definitions.proofs.Facts.{InOrder, facts, from_facts}
use Rattle.definitions.proofs.Choice.{next_none, next_goes, any_order}
use Rattle.ticklaws.specs.StepFour.{Choices, StepFour}
use Rattle.ticklaws.proofs.Reached.{reached_first, in_order_again}
use Rattle.ticklaws.proofs.Queues.{waiting_client}
use Rattle.ticklaws.proofs.Lent.{lent_again, lent_done, lent_reached}
use Rattle.ticklaws.proofs.Keeps.{three_settled}

module _ (t : List ℤ) (f : InOrder t) where
  first_lowest : (k : ℕ) → k < nodes → is_client (tree_of t) k ≡ true → (i : ℕ) → i < waiting t k → arrival t k 0 ≤ arrival t k i
  first_lowest k hk c zero h = omega arith
  first_lowest k hk c (suc i) h =
      let less : suc i - 1 ≡ i = omega arith in
      omega (arith, first_lowest k hk c i (omega arith), rw less at ((f.requests k hk c (suc i) h).rising (λ e. omega arith)))

  one_client : (k j : ℕ) → k < nodes → j < nodes → 0 < waiting t k → 0 < waiting t j → arrival t k 0 ≡ arrival t j 0 → k ≡ j
  one_client k j hk hj wk wj e =
      by_order k j
      (λ l. absurd (f.differ j hj 0 wj k l 0 wk (sym e)))
      (λ l. absurd (f.differ k hk 0 wk j l 0 wj e))
      (λ d. d)

  pub choices : Choices t
  choices =
      record {
        goes = next_goes t;
        oldest = λ ne.
            let g = next_goes t ne in
            first_lowest (next t) g.low (waiting_client (tree_of t) (count t) t (reached_first t f).queues (next t) 0 g.low g.has.waits);
        none = next_none t;
        any_order = any_order t one_client;
      }

-- The last of n + 1 dispatches.
lent_last : (n : ℕ) (st : State) → (next (lent n st).table ≡ nobody → ⊥) → lent (suc n) st ≡ dispatched (lent n st) (next (lent n st).table) (supplier (lent n st).table (next (lent n st).table))
unfolding lent
lent_last zero st ne = lent_again 0 st ne
lent_last (suc n) st ne =
    elim (ℕ_discrete (next st.table) nobody) [
      | yes e ↦ absurd (ne (rw (lent_done n st e) e))
      | no more ↦
          rw (lent_again (suc n) st more, lent_again n st more) (lent_last n (dispatched st (next st.table) (supplier st.table (next st.table))) (rw (lent_again n st more) at ne))
    ]

pub step_four : (t : List ℤ) → in_order t ≡ true → StepFour t
step_four t h =
    record { order = λ n. from_facts _ (there n); choices = λ n. choices _ (there n); each = λ n ne. record { client = _; goes = next_goes _ ne; made = lent_last n (step_three t) ne } }
  where
    there : (n : ℕ) → InOrder (lent n (step_three t)).table
    there n =
        let s = lent_reached t (facts t h) n (step_three t) (three_settled t (facts t h)) in
        in_order_again t (lent n (step_three t)).table (facts t h) s.reached s.under
