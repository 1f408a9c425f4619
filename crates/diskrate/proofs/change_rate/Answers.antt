-- Refused, nothing is written; accepted, the disk's rate is written and the rates below the root are renewed, which renews everything.
use Rattle.std.proofs.Common.{◌≡◌, ℕ, ℤ, List, true, sym, ap, ◌∙◌, subst}
use Rattle.std.proofs.lemmas.Result.{err_from_is_err_and}
use mir.Syntax.{w64}
use mir.Val.{SFits, of_z, to_z}
use mir.ValLaws.{to_z-of_z}
use Rattle.definitions.specs.Limits.{root, rate_at}
use Rattle.definitions.specs.Places.{put}
use Rattle.definitions.specs.Order.{in_order}
use Rattle.definitions.specs.Renewal.{renewed_below}
use Rattle.definitions.specs.Calls.{change_rate_refusal, change_rate_table, change_rate_answer}
use Rattle.definitions.proofs.Refusals.{kept_new}
use Rattle.calllaws.proofs.ChangeRate.{change_rate_keeps, change_rate_renews_below}
use Rattle.sums.specs.Rated.{Rated}
use Rattle.sums.proofs.Rated.{rated_before}
use Rattle.order.proofs.Length.{length_first}
use Rattle.answers.specs.Answers.{number_in}
use Rattle.answers.specs.declared.Refusal.TheVariants.{NotInOrder}
use Rattle.answers.proofs.Answers.{refused_tells, refused_keeps, accepted_tells, accepted_leaves}
use Rattle.diskrate.proofs.change_rate.Goals as goal

-- The number that the code found, of the table and the rate as they came.
number : (t u : List ℤ) (z : ℤ) {n : ℕ} → SFits w64 z → u ≡ t → n ≡ change_rate_refusal u (to_z w64 (of_z w64 z)) → change_rate_refusal t z ≡ n
number t u z f same e = sym (rw (to_z-of_z w64 z f, same) at e)

-- What is written, and its rates as the renewal leaves them.
written : (t u : List ℤ) (z : ℤ) {v : List ℤ} → SFits w64 z → u ≡ t → v ≡ put u root rate_at (to_z w64 (of_z w64 z)) → v ≡ put t root rate_at z
written t u z f same e = rw (to_z-of_z w64 z f, same) at e

rated : (t : List ℤ) (z : ℤ) {v : List ℤ} → change_rate_refusal t z ≡ 0 → v ≡ put t root rate_at z → Rated v root
unfolding change_rate_table
rated t z zero is =
    let r = change_rate_renews_below t z zero in
    let keeps = subst (λ (u : List ℤ). in_order u ≡ true) (kept_new _ _ _ zero) (change_rate_keeps t z zero) in
    rw is (rated_before _ _ keeps r.low r.there r.small)

pub returns-in_default-clause-answer : goal.returns-in_default-clause-answer
unfolding change_rate_answer change_rate_refusal
returns-in_default-clause-answer c = refused_tells NotInOrder _ _ (length_first _ _ c.in_default.ensures.cases)

pub returns-in_default-clause-table : goal.returns-in_default-clause-table
unfolding change_rate_table change_rate_refusal
returns-in_default-clause-table c = refused_keeps NotInOrder _ _ _ (length_first _ _ c.in_default.ensures.cases)

pub returns-in_err-change_rate_refusal-clause-answer : goal.returns-in_err-change_rate_refusal-clause-answer
unfolding change_rate_answer number_in
returns-in_err-change_rate_refusal-clause-answer c =
    let p = err_from_is_err_and c.from_residual.result c.from_residual.ensures.1 in
    rw (p.1, p.2) (refused_tells _ _ _ (number _ _ _ c.ranges.rate c.in-Some.ensures.cases.same c.in_err-change_rate_refusal.ensures.first))

pub returns-in_err-change_rate_refusal-clause-table : goal.returns-in_err-change_rate_refusal-clause-table
unfolding change_rate_table number_in
returns-in_err-change_rate_refusal-clause-table c =
    c.in-Some.ensures.cases.same ∙ refused_keeps _ _ _ _ (number _ _ _ c.ranges.rate c.in-Some.ensures.cases.same c.in_err-change_rate_refusal.ensures.first)

pub renew_below-requires : goal.renew_below-requires
unfolding number_in
renew_below-requires c =
    rated _ _ (number _ _ _ c.ranges.rate c.in-Some.ensures.cases.same c.in_ok-change_rate_refusal.ensures.first)
    (written _ _ _ c.ranges.rate c.in-Some.ensures.cases.same c.put.ensures)

pub returns-clause-answer : goal.returns-clause-answer
unfolding change_rate_answer number_in
returns-clause-answer c =
    accepted_tells _ _ (number _ _ _ c.ranges.rate c.in-Some.ensures.cases.same c.in_ok-change_rate_refusal.ensures.first)

pub returns-clause-table : goal.returns-clause-table
unfolding change_rate_table number_in
returns-clause-table c =
    let zero = number _ _ _ c.ranges.rate c.in-Some.ensures.cases.same c.in_ok-change_rate_refusal.ensures.first in
    c.renew_below.ensures
    ∙ ap (λ (u : List ℤ). renewed_below u root) (written _ _ _ c.ranges.rate c.in-Some.ensures.cases.same c.put.ensures)
    ∙ (change_rate_renews_below _ _ zero).all
    ∙ accepted_leaves _ _ _ zero
