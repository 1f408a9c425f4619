-- Reading an accepted plan leaves the table of an open and of the entries' joins; demand 3 follows with these joins as its first calls.
use Prim.Native.Nat.{ℕ, zero, suc}
use mathlib.Core.Path.{◌≡◌, refl, sym, ap, ◌∙◌}
use mathlib.Core.List.{List, [], ◌∷◌, ◌++◌}
use lib.IntN.{ℤ, pos}
use Rattle.treelaws.specs.Joins.{Join, after_join}
use Rattle.runs.specs.Runs.{Call, after, events, table_after_all}
use Rattle.runs.proofs.Divided.{table_divided}
use Rattle.bounds.specs.Observer.{start, observed_all}
use Rattle.bounds.specs.Demand.{Bounds, Demand3}
use Rattle.bounds.proofs.Theorem.{demand_3}
use Rattle.planformat.specs.Format.{Plan, plan_in}
use Rattle.planlaws.specs.Reading.{join_of, after_entry, after_entries, opened_for, joined_for, plan_refusal, plan_table}
use Rattle.bounds.specs.AsCalls.{called, first_joins, joins_of, AsCalls, ReadDemand3}
use Rattle.planlaws.proofs.Accepted.{after_none, after_suc, entries_each, plan_accepted, plan_table_law}

call_joins : (t : List ℤ) (j : Join) → table_after_all t (called j ∷ []) ≡ after_join t j
unfolding called after_join table_after_all after
call_joins t j = refl

calls_join : (t : List ℤ) (p : Plan) (n : ℕ) → after_entries t p n ≡ table_after_all t (first_joins p n)
unfolding first_joins table_after_all after_entry
calls_join t p zero = after_none t p
calls_join t p (suc n) =
    after_suc t p n
    ∙ ap (λ (u : List ℤ). after_join u (join_of (p.entry n))) (calls_join t p n)
    ∙ sym (call_joins (table_after_all t (first_joins p n)) (join_of (p.entry n)))
    ∙ sym (table_divided t (first_joins p n) (called (join_of (p.entry n)) ∷ []))

pub read_as_calls : (t : List ℤ) (s : List ℕ) → plan_refusal t s ≡ 0 → AsCalls t s
unfolding joined_for joins_of
read_as_calls t s h =
    let a = plan_accepted t s h in
    record {
      opening = a.opening;
      joining = entries_each (opened_for t (plan_in s)) (plan_in s) (plan_in s).count a.joining;
      table = plan_table_law t s h ∙ calls_join (opened_for t (plan_in s)) (plan_in s) (plan_in s).count;
    }

pub read_demand_3 : ReadDemand3
unfolding ReadDemand3 Demand3 opened_for
read_demand_3 t s before stretch h =
    let c = read_as_calls t s h in
    let joins = joins_of (plan_in s) in
    rw (c.table, ← table_divided (opened_for t (plan_in s)) joins before)
    (demand_3 t (pos (plan_in s).rate) (pos (plan_in s).depth) (joins ++ before) stretch c.opening)
