use Rattle.std.proofs.Common.{◌≡◌, sym, ap, ◌∙◌, not, ℤ, Bool}
use Rattle.std.proofs.lemmas.Result.{err_from_is_err_and}
use mir.Syntax.{w64}
use mir.Val.{SFits, of_z, to_z}
use mir.ValLaws.{to_z-of_z}
use Rattle.numbers.specs.Whole.{within_ℤ}
use Rattle.definitions.proofs.Refusals.{first_here, first_past, first_end}
use Rattle.answers.specs.Answers.{number_in}
use Rattle.hourlaws.specs.Windows.{last_minute}
use Rattle.setting.proofs.early_refusal.Goals as goal

-- What the test of the minute answers, in the caller's own number.
tested : {b : Bool} {minute : ℤ} → SFits w64 minute → b ≡ within_ℤ 0 last_minute (to_z w64 (of_z w64 minute)) → within_ℤ 0 last_minute minute ≡ b
tested f e = sym (rw (to_z-of_z w64 _ f) at e)

pub returns-in_err-judge : goal.returns-in_err-judge
unfolding number_in
returns-in_err-judge c =
    let p = err_from_is_err_and c.from_residual.result c.from_residual.ensures.1 in
    rw (p.1, p.2, c.in_err-judge.ensures.0) (record { first = sym (first_here 1 _ _ (ap not c.in_err-judge.ensures.1)) })

pub returns-then-not-within : goal.returns-then-not-within
unfolding number_in
returns-then-not-within c =
    record {
      first = sym (first_past 1 _ _ (ap not c.in_ok-judge.ensures.1)
          ∙ first_here 2 _ _ (ap not (tested c.ranges.minute c.within.ensures ∙ c.if-not-within.true)));
    }

pub returns : goal.returns
unfolding number_in
returns c =
    record {
      first = sym (first_past 1 _ _ (ap not c.in_ok-judge.ensures.1)
          ∙ first_past 2 _ _ (ap not (tested c.ranges.minute c.within.ensures ∙ c.if-not-within.false))
          ∙ first_end);
    }
