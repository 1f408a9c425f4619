-- An accepted plan is built in a table of its own and copied.
use Rattle.std.proofs.Common.{◌≡◌, ℕ, List, ℤ, pos, Ok, length, sym, ap, ◌∙◌}
use Rattle.std.proofs.lemmas.Result.{err_from_is_err_and}
use lib.ListN.{length-replicate}
use borrow.Author.Rules.{sfits_of}
use mir.Syntax.{w64}
use mir.ValLaws.{to_z-of_z}
use Rattle.definitions.specs.Limits.{table_length}
use Rattle.definitions.specs.Calls.{blank}
use Rattle.answers.specs.declared.Refusal.TheVariants.{NotInOrder}
use Rattle.answers.specs.Answers.{told}
use Rattle.answers.proofs.Answers.{err_number, ok_number, refused_tells, refused_keeps, accepted_tells}
use Rattle.planformat.specs.Format.{edition_number, plan_in}
use Rattle.planlaws.specs.Reading.{joined_for, plan_refusal, plan_table, plan_answer, check_answer}
use Rattle.planlaws.proofs.Accepted.{plan_table_law, plan_table_any}
use Rattle.planlaws.proofs.Stages.{wrong_length, check_any}
use Rattle.reading.proofs.read.Goals as goal

-- The table of zeros gives the number of a table of right length.
any : (t : List ℤ) (s : List ℕ) {r : ℕ} → length t ≡ table_length → r ≡ plan_refusal blank s → r ≡ plan_refusal t s
unfolding check_answer
any t s long here = here ∙ check_any t s long

-- What is built in a table of zeros is what an accepted plan leaves.
built : (t : List ℤ) (s : List ℕ) {u : List ℤ} → length t ≡ table_length → plan_refusal blank s ≡ 0 → plan_refusal t s ≡ 0 → u ≡ joined_for blank (plan_in s) → u ≡ plan_table t s
unfolding blank
built t s long none_blank none joined =
    joined ∙ sym (plan_table_law blank s none_blank) ∙ sym (plan_table_any t blank s (long ∙ sym (length-replicate table_length (pos 0))) none)

pub returns-in_default-clause-answer : goal.returns-in_default-clause-answer
unfolding plan_answer
returns-in_default-clause-answer c = refused_tells NotInOrder _ _ (wrong_length _ _ c.in_default.ensures.cases)

pub returns-in_default-clause-table : goal.returns-in_default-clause-table
unfolding plan_table
returns-in_default-clause-table c = refused_keeps NotInOrder _ _ _ (wrong_length _ _ c.in_default.ensures.cases)

pub returns-in_err-build-clause-answer : goal.returns-in_err-build-clause-answer
unfolding plan_answer blank
returns-in_err-build-clause-answer c =
    let why = c.in_err-build.field-0.0 in
    let number = any c.args.table.now c.args.s.now c.in-Some.ensures.cases.long c.build.ensures.number in
    let r = err_from_is_err_and c.from_residual.result c.from_residual.ensures.1 in
    rw (r.1, r.2) (refused_tells why _ _ (err_number why number c.in_err-build.was))

pub returns-in_err-build-clause-table : goal.returns-in_err-build-clause-table
unfolding plan_table blank
returns-in_err-build-clause-table c =
    let why = c.in_err-build.field-0.0 in
    let number = any c.args.table.now c.args.s.now c.in-Some.ensures.cases.long c.build.ensures.number in
    c.in-Some.ensures.cases.same ∙ refused_keeps why _ _ _ (err_number why number c.in_err-build.was)

pub returns-clause-answer : goal.returns-clause-answer
unfolding plan_answer blank
returns-clause-answer c =
    let number = any c.args.table.now c.args.s.now c.in-Some.ensures.cases.long c.build.ensures.number in
    let edition = c.from.ensures.number ∙ ap (λ e. pos (edition_number e)) c.edition_in.ensures in
    ap (λ (z : ℤ). told (Ok z)) (to_z-of_z w64 _ (sfits_of c.from.type_inv) ∙ edition) ∙ accepted_tells _ _ (ok_number _ number c.in_ok-build.was)

pub returns-clause-table : goal.returns-clause-table
unfolding blank
returns-clause-table c =
    let number = any c.args.table.now c.args.s.now c.in-Some.ensures.cases.long c.build.ensures.number in
    built c.args.table.now c.args.s.now c.in-Some.ensures.cases.long
    (ok_number _ c.build.ensures.number c.in_ok-build.was)
    (ok_number _ number c.in_ok-build.was)
    c.in_ok-build.ensures.table
