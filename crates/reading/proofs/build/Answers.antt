-- Stage by stage, the first refusal counts.
use Rattle.std.proofs.Common.{◌≡◌, ℕ, List, ℤ, sym, ◌∙◌, arith}
use Rattle.std.proofs.lemmas.Result.{err_from_is_err_and}
use Rattle.answers.specs.declared.Refusal.{Refusal}
use Rattle.answers.specs.Answers.{number_of, number_in}
use Rattle.answers.proofs.Answers.{numbered, err_number, ok_number}
use Rattle.planformat.specs.Format.{count_in, plan_in}
use Rattle.planlaws.specs.Reading.{opened_for, entries_refusal}
use Rattle.planlaws.proofs.Accepted.{accepted_plan}
use Rattle.planlaws.proofs.Stages.{plan_count, wrong_form, wrong_open, wrong_join, wrong_order, joined_for_law, joined_entries}
use Rattle.reading.proofs.build.Goals as goal

-- A refusal is not 0.
some : (why : Refusal) {n : ℕ} → n ≡ number_of why → n ≡ 0 → ⊥
some why e z = absurd (omega (arith, e, z, numbered why))

-- What the joins give for the plan that the bytes say.
joining : (t u : List ℤ) (s : List ℕ) (n : ℕ) {r : ℕ} → u ≡ opened_for t (plan_in s) → n ≡ count_in s → r ≡ entries_refusal u (plan_in s) n → r ≡ entries_refusal (opened_for t (plan_in s)) (plan_in s) (plan_in s).count
joining t u s n opened counted joins = cc (plan_count s)

pub returns-in_err-view-clause-number : goal.returns-in_err-view-clause-number
unfolding number_in
returns-in_err-view-clause-number c =
    let r = err_from_is_err_and c.from_residual.result c.from_residual.ensures.1 in
    rw (r.1, r.2, c.in_err-view.ensures.0) (sym (wrong_form _ _ c.told-table c.in_err-view.ensures.1))

pub returns-in_err-open_plan-clause-number : goal.returns-in_err-open_plan-clause-number
unfolding number_in
returns-in_err-open_plan-clause-number c =
    let why = c.in_err-open_plan.field-0.0 in
    let here = err_number why c.open_plan.ensures.number c.in_err-open_plan.was in
    let r = err_from_is_err_and c.from_residual-in_err-open_plan.result c.from_residual-in_err-open_plan.ensures.1 in
    rw (r.1, r.2, ← c.in_ok-view.ensures) (sym (wrong_open _ _ c.told-table c.in_ok-view.view.views.right (some why here) ∙ here))

pub returns-in_err-join_entries-clause-number : goal.returns-in_err-join_entries-clause-number
unfolding number_in
returns-in_err-join_entries-clause-number c =
    let v = c.in_ok-view.view in
    let why = c.in_err-join_entries.field-0.0 in
    let opens = ok_number _ c.open_plan.ensures.number c.in_ok-open_plan.was in
    let here = err_number why (joining c.args.table.now _ v.bytes.now v.count c.open_plan.ensures.table v.views.counted c.join_entries.ensures.number) c.in_err-join_entries.was in
    let r = err_from_is_err_and c.from_residual-in_err-join_entries.result c.from_residual-in_err-join_entries.ensures.1 in
    rw (r.1, r.2, ← c.in_ok-view.ensures) (sym (wrong_join _ _ c.told-table v.views.right opens (some why here) ∙ here))

pub rising-requires : goal.rising-requires
rising-requires c =
    joined_entries _ _ _ _ _
    (ok_number _ c.open_plan.ensures.number c.in_ok-open_plan.was)
    c.open_plan.ensures.table
    c.in_ok-join_entries.ensures.table
    (ok_number _ c.join_entries.ensures.number c.in_ok-join_entries.was)

pub returns-then-rising : goal.returns-then-rising
unfolding number_in
returns-then-rising c =
    let v = c.in_ok-view.view in
    let t = c.args.table.now in
    let opens = ok_number _ c.open_plan.ensures.number c.in_ok-open_plan.was in
    let joins = ok_number _ (joining t _ v.bytes.now v.count c.open_plan.ensures.table v.views.counted c.join_entries.ensures.number) c.in_ok-join_entries.was in
    let table = joined_for_law _ _ _ _ _ c.open_plan.ensures.table c.in_ok-join_entries.ensures.table v.views.counted in
    rw (← c.in_ok-view.ensures)
    record {
      number = sym (accepted_plan _ _ record { long = c.told-table; formed = v.views.right; opening = opens; joining = joins; rising = rw table at (sym c.rising.ensures ∙ c.if-rising.true) });
      table = table;
    }

pub returns-else-rising-clause-number : goal.returns-else-rising-clause-number
unfolding number_in
returns-else-rising-clause-number c =
    let v = c.in_ok-view.view in
    let t = c.args.table.now in
    let opens = ok_number _ c.open_plan.ensures.number c.in_ok-open_plan.was in
    let joins = ok_number _ (joining t _ v.bytes.now v.count c.open_plan.ensures.table v.views.counted c.join_entries.ensures.number) c.in_ok-join_entries.was in
    let table = joined_for_law _ _ _ _ _ c.open_plan.ensures.table c.in_ok-join_entries.ensures.table v.views.counted in
    rw (← c.in_ok-view.ensures) (sym (wrong_order _ _ c.told-table v.views.right opens joins (rw table at (sym c.rising.ensures ∙ c.if-rising.false))))
