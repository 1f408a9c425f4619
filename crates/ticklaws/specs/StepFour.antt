-- Step 4 of a tick: what its choice amounts to in a table in order, and that each dispatch is a choice of its own. Document 02, (c).
use Rattle.std.specs.Prelude.{ℕ, suc, ◌≤◌, ◌<◌, ◌≡◌, true, false, List, ℤ}
use Rattle.numbers.specs.Below.{for_below}
use Rattle.definitions.specs.Limits.{nodes}
use Rattle.definitions.specs.Places.{waiting, arrival}
use Rattle.definitions.specs.Order.{in_order}
use Rattle.definitions.specs.Tick.{nobody, State, dispatched, supplier, supplied, choice, next, lent, step_three}
use Rattle.definitions.specs.Choice.{GoesNext, SeenIn}

pub record Choices (t : List ℤ) : Type 0 where
  -- The next client's oldest request goes next, and no request of that client arrived before it.
  pub goes : (next t ≡ nobody → ⊥) → GoesNext t (next t)
  pub oldest : (next t ≡ nobody → ⊥) → (i : ℕ) → i < waiting t (next t) → arrival t (next t) 0 ≤ arrival t (next t) i
  -- Where there is no next client, no request has a supplier.
  pub none : next t ≡ nobody → (k : ℕ) → k < nodes → supplied t k ≡ false
  -- The clients may be looked at in any order, and more than once; only those whose oldest request has a supplier must be.
  pub any_order :
      (n : ℕ) (order : ℕ → ℕ) → ((i : ℕ) → i < n → order i < nodes) → ((k : ℕ) → k < nodes → supplied t k ≡ true → SeenIn n order k)
      → for_below n (λ i best. choice t (order i) best) nobody ≡ next t

-- Dispatch n of step 4, counted from 0, is made by a choice in the table that the n before it left.
pub record Chooses (st : State) (n : ℕ) : Type 0 where
  pub client : ℕ
  pub goes : GoesNext (lent n st).table client
  pub made : lent (suc n) st ≡ dispatched (lent n st) client (supplier (lent n st).table client)

pub record StepFour (t : List ℤ) : Type 0 where
  -- Every table that step 4 passes through is in order, so the laws on its choice hold there.
  pub order : (n : ℕ) → in_order (lent n (step_three t)).table ≡ true
  pub choices : (n : ℕ) → Choices (lent n (step_three t)).table
  -- Every dispatch is chosen anew.
  pub each : (n : ℕ) → (next (lent n (step_three t)).table ≡ nobody → ⊥) → Chooses (step_three t) n
