-- The causes in turn; accepted, every node but the root has its kind and share, and every rate is renewed.
use Rattle.std.proofs.Common.{◌≡◌, sym, ap, ◌∙◌, ℕ, ℤ, List, arith}
use Rattle.std.proofs.lemmas.Result.{err_from_is_err_and}
use mir.Syntax.{w64}
use mir.ValLaws.{to_z-of_z}
use Rattle.numbers.specs.Whole.{plus}
use Rattle.definitions.specs.Order.{in_order}
use Rattle.definitions.specs.Refusals.{kept}
use Rattle.definitions.specs.Calls.{blank}
use Rattle.definitions.proofs.Facts.{from_facts}
use Rattle.definitions.proofs.Refusals.{natural_of}
use Rattle.answers.specs.declared.Refusal.{Refusal}
use Rattle.answers.specs.declared.Refusal.TheVariants.{NotInOrder}
use Rattle.answers.specs.Answers.{number_of}
use Rattle.answers.proofs.Answers.{numbered, err_number, ok_number, refused_tells, refused_keeps, accepted_tells}
use Rattle.order.proofs.Length.{length_first}
use Rattle.planlaws.specs.Reading.{check_answer}
use Rattle.hourlaws.specs.SetMinute.{planned, timetable_refusal, minute_table, set_minute_refusal, set_minute_table, set_minute_answer}
use Rattle.hourlaws.proofs.Passed.{planned_in_order}
use Rattle.hourlaws.proofs.Kept.{minute_below}
use Rattle.setting.proofs.Asked.{early, Early, early_refused, early_passed, plan_refused, plan_passed}
use Rattle.setting.proofs.set_minute.Goals as goal

-- The number of the refusal, by the stage that refuses; and what setting by the plan's table leaves.
module _ (t : List ℤ) (s : List ℕ) (ws : List ℤ) (minute : ℤ) where
  early_number : (why : Refusal) → early t s ws minute ≡ number_of why → set_minute_refusal t s ws minute ≡ number_of why
  early_number why e = early_refused t s ws minute (λ z. absurd (omega (arith, numbered why))) ∙ e

  plan_number : (why : Refusal) → Early t s ws minute → check_answer s ≡ number_of why → set_minute_refusal t s ws minute ≡ number_of why
  plan_number why f e = plan_refused t s ws minute f (λ z. absurd (omega (arith, numbered why))) ∙ e

  timetable_number : (u p : List ℤ) (n : ℕ) → Early t s ws minute → check_answer s ≡ 0 → u ≡ t → p ≡ planned s → timetable_refusal u p ws ≡ n → set_minute_refusal t s ws minute ≡ n
  timetable_number u p n f h same plan e = plan_passed t s ws minute f h ∙ rw (same, plan) at e

  written : (u p v : List ℤ) (m : ℕ) → Early t s ws minute → check_answer s ≡ 0 → u ≡ t → p ≡ planned s → m ≡ plus minute → v ≡ kept (timetable_refusal u p ws) (minute_table u p ws m) u → v ≡ set_minute_table t s ws minute
  unfolding set_minute_table
  written u p v m f h same plan time e =
      rw (same, plan, time, sym (plan_passed t s ws minute f h)) at e

pub returns-in_default-clause-answer : goal.returns-in_default-clause-answer
unfolding set_minute_answer set_minute_refusal
returns-in_default-clause-answer c = refused_tells NotInOrder _ _ (length_first _ _ c.in_default.ensures.cases)

pub returns-in_default-clause-table : goal.returns-in_default-clause-table
unfolding set_minute_table set_minute_refusal
returns-in_default-clause-table c = refused_keeps NotInOrder _ _ _ (length_first _ _ c.in_default.ensures.cases)

pub returns-in_err-early_refusal-clause-answer : goal.returns-in_err-early_refusal-clause-answer
unfolding set_minute_answer
returns-in_err-early_refusal-clause-answer c =
    let first = rw (c.in-Some.ensures.cases.same, to_z-of_z w64 _ c.ranges.minute) at c.early_refusal.ensures.first in
    let p = err_from_is_err_and c.from_residual.result c.from_residual.ensures.1 in
    rw (p.1, p.2) (refused_tells _ _ _ (early_number _ _ _ _ _ (err_number _ first c.in_err-early_refusal.was)))

pub returns-in_err-early_refusal-clause-table : goal.returns-in_err-early_refusal-clause-table
unfolding set_minute_table
returns-in_err-early_refusal-clause-table c =
    let first = rw (c.in-Some.ensures.cases.same, to_z-of_z w64 _ c.ranges.minute) at c.early_refusal.ensures.first in
    c.in-Some.ensures.cases.same ∙ refused_keeps _ _ _ _ (early_number _ _ _ _ _ (err_number _ first c.in_err-early_refusal.was))

pub returns-in_err-build-clause-answer : goal.returns-in_err-build-clause-answer
unfolding set_minute_answer check_answer blank
returns-in_err-build-clause-answer c =
    let first = rw (c.in-Some.ensures.cases.same, to_z-of_z w64 _ c.ranges.minute) at c.early_refusal.ensures.first in
    let passed = early_passed c.args.table.now c.args.plan.now c.args.windows.now c.args.minute (ok_number _ first c.in_ok-early_refusal.was) in
    let p = err_from_is_err_and c.from_residual-in_err-build.result c.from_residual-in_err-build.ensures.1 in
    rw (p.1, p.2) (refused_tells _ _ _ (plan_number _ _ _ _ _ passed (err_number _ c.build.ensures.number c.in_err-build.was)))

pub returns-in_err-build-clause-table : goal.returns-in_err-build-clause-table
unfolding set_minute_table check_answer blank
returns-in_err-build-clause-table c =
    let first = rw (c.in-Some.ensures.cases.same, to_z-of_z w64 _ c.ranges.minute) at c.early_refusal.ensures.first in
    let passed = early_passed c.args.table.now c.args.plan.now c.args.windows.now c.args.minute (ok_number _ first c.in_ok-early_refusal.was) in
    c.in-Some.ensures.cases.same ∙ refused_keeps _ _ _ _ (plan_number _ _ _ _ _ passed (err_number _ c.build.ensures.number c.in_err-build.was))

pub invariant_of-set_by : goal.invariant_of-set_by
unfolding check_answer planned blank
invariant_of-set_by c =
    let checked : check_answer c.args.plan.now ≡ 0 = ok_number _ c.build.ensures.number c.in_ok-build.was in
    let plan : c.build.new.table ≡ planned c.args.plan.now = c.in_ok-build.ensures.table in
    record { in_order = ap in_order plan ∙ from_facts _ (planned_in_order _ checked) }

pub set_by-requires : goal.set_by-requires
set_by-requires c =
    let first = rw (c.in-Some.ensures.cases.same, to_z-of_z w64 _ c.ranges.minute) at c.early_refusal.ensures.first in
    let passed = early_passed c.args.table.now c.args.plan.now c.args.windows.now c.args.minute (ok_number _ first c.in_ok-early_refusal.was) in
    (ap in_order c.in-Some.ensures.cases.same ∙ passed.order, omega (arith, natural_of c.natural.ensures c.ranges.minute, minute_below _ passed.minutes))

pub returns-in_err-set_by-clause-answer : goal.returns-in_err-set_by-clause-answer
unfolding set_minute_answer check_answer planned blank
returns-in_err-set_by-clause-answer c =
    let same = c.in-Some.ensures.cases.same in
    let first = rw (same, to_z-of_z w64 _ c.ranges.minute) at c.early_refusal.ensures.first in
    let passed = early_passed c.args.table.now c.args.plan.now c.args.windows.now c.args.minute (ok_number _ first c.in_ok-early_refusal.was) in
    let checked : check_answer c.args.plan.now ≡ 0 = ok_number _ c.build.ensures.number c.in_ok-build.was in
    let plan : c.build.new.table ≡ planned c.args.plan.now = c.in_ok-build.ensures.table in
    let p = err_from_is_err_and c.from_residual-in_err-set_by.result c.from_residual-in_err-set_by.ensures.1 in
    rw (p.1, p.2) (refused_tells _ _ _ (timetable_number _ _ _ _ _ _ _ passed checked same plan (err_number _ c.set_by.ensures.number c.in_err-set_by.was)))

pub returns-in_err-set_by-clause-table : goal.returns-in_err-set_by-clause-table
unfolding check_answer planned blank
returns-in_err-set_by-clause-table c =
    let same = c.in-Some.ensures.cases.same in
    let first = rw (same, to_z-of_z w64 _ c.ranges.minute) at c.early_refusal.ensures.first in
    let passed = early_passed c.args.table.now c.args.plan.now c.args.windows.now c.args.minute (ok_number _ first c.in_ok-early_refusal.was) in
    let checked : check_answer c.args.plan.now ≡ 0 = ok_number _ c.build.ensures.number c.in_ok-build.was in
    let plan : c.build.new.table ≡ planned c.args.plan.now = c.in_ok-build.ensures.table in
    written _ _ _ _ _ _ _ _ passed checked same plan (natural_of c.natural.ensures c.ranges.minute) c.set_by.ensures.table

pub returns-clause-answer : goal.returns-clause-answer
unfolding set_minute_answer check_answer planned blank
returns-clause-answer c =
    let same = c.in-Some.ensures.cases.same in
    let first = rw (same, to_z-of_z w64 _ c.ranges.minute) at c.early_refusal.ensures.first in
    let passed = early_passed c.args.table.now c.args.plan.now c.args.windows.now c.args.minute (ok_number _ first c.in_ok-early_refusal.was) in
    let checked : check_answer c.args.plan.now ≡ 0 = ok_number _ c.build.ensures.number c.in_ok-build.was in
    let plan : c.build.new.table ≡ planned c.args.plan.now = c.in_ok-build.ensures.table in
    accepted_tells _ _ (timetable_number _ _ _ _ _ _ _ passed checked same plan (ok_number _ c.set_by.ensures.number c.in_ok-set_by.was))

pub returns-clause-table : goal.returns-clause-table
unfolding check_answer planned blank
returns-clause-table c =
    let same = c.in-Some.ensures.cases.same in
    let first = rw (same, to_z-of_z w64 _ c.ranges.minute) at c.early_refusal.ensures.first in
    let passed = early_passed c.args.table.now c.args.plan.now c.args.windows.now c.args.minute (ok_number _ first c.in_ok-early_refusal.was) in
    let checked : check_answer c.args.plan.now ≡ 0 = ok_number _ c.build.ensures.number c.in_ok-build.was in
    let plan : c.build.new.table ≡ planned c.args.plan.now = c.in_ok-build.ensures.table in
    written _ _ _ _ _ _ _ _ passed checked same plan (natural_of c.natural.ensures c.ranges.minute) c.set_by.ensures.table
