-- Reading a plan as calls: an open and a join for each entry. So demand 3 holds of what is called on a table that was read from a plan.
use Rattle.std.specs.Prelude.{ℕ, zero, suc, ◌<◌, ◌≡◌, List, [], ◌∷◌, ◌++◌, ℤ, pos}
use Rattle.definitions.specs.Calls.{open_refusal}
use Rattle.treelaws.specs.Joins.{Join}
use Rattle.runs.specs.Runs.{Call, join, events, table_after_all}
use Rattle.bounds.specs.Observer.{start, observed_all}
use Rattle.bounds.specs.Demand.{Bounds}
use Rattle.planformat.specs.Format.{Plan, plan_in}
use Rattle.planlaws.specs.Reading.{join_of, entry_refusal, after_entries, opened_for, plan_refusal, plan_table}

-- A join with these arguments, as a call.
unfoldable pub called : Join → Call
called j = join j.node j.parent j.sort j.kind j.share j.depth j.port

-- The joins of the first n entries of plan p, and of all.
unfoldable pub first_joins : Plan → ℕ → List Call
first_joins p zero = []
first_joins p (suc n) = first_joins p n ++ called (join_of (p.entry n)) ∷ []

unfoldable pub joins_of : Plan → List Call
joins_of p = first_joins p p.count

-- An accepted plan: open with its rate and depth is accepted, so is each join in turn, and reading leaves the table that these calls leave.
pub record AsCalls (t : List ℤ) (s : List ℕ) : Type 0 where
  pub opening : open_refusal t (pos (plan_in s).rate) (pos (plan_in s).depth) ≡ 0
  pub joining : (i : ℕ) → i < (plan_in s).count → entry_refusal (after_entries (opened_for t (plan_in s)) (plan_in s) i) ((plan_in s).entry i) ≡ 0
  pub table : plan_table t s ≡ table_after_all (opened_for t (plan_in s)) (joins_of (plan_in s))

-- Demand 3 of a table that was read from a plan: reading counts as its open and its joins, and any calls may follow before the stretch.
unfoldable pub ReadDemand3 : Type 0
ReadDemand3 =
    (t : List ℤ) (s : List ℕ) (before stretch : List Call) → plan_refusal t s ≡ 0
    → Bounds (observed_all (start (pos (plan_in s).rate) (pos (plan_in s).depth)) (events (opened_for t (plan_in s)) (joins_of (plan_in s) ++ before)))
    (events (table_after_all (plan_table t s) before) stretch)
