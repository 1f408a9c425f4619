-- Where the shares are not in their limits, only an overlap comes before 2.
use Rattle.std.proofs.Common.{sym, ◌∙◌}
use Rattle.std.proofs.lemmas.Bool.{not-true, not-false}
use Rattle.definitions.proofs.Facts.{facts}
use Rattle.answers.specs.Answers.{number_in}
use Rattle.setting.proofs.Asked.{timed, shared, unfit, overlapping, two}
use Rattle.setting.proofs.timetable_refusal.Goals as goal

pub returns-then-not-fitting : goal.returns-then-not-fitting
unfolding number_in
returns-then-not-fitting c = record { first = sym (unfit _ _ _ (sym c.fitting.ensures ∙ c.if-not-fitting.true)) }

pub shares_fit-requires : goal.shares_fit-requires
shares_fit-requires c = λ i hi. (timed _ _ _ (sym c.fitting.ensures ∙ c.if-not-fitting.false) i hi).node

pub judge-week-requires : goal.judge-week-requires
judge-week-requires c = (
  shared c.args.table.now c.args.plan.table.now c.args.windows.now (facts _ c.args.plan.in_order),
  timed _ _ _ (sym c.fitting.ensures ∙ c.if-not-fitting.false),
)

pub returns-then-not-week : goal.returns-then-not-week
unfolding number_in
returns-then-not-week c =
    record {
      first = sym (overlapping _ _ _ (sym c.fitting.ensures ∙ c.if-not-fitting.false) (sym c.judge-week.ensures.apart ∙ not-true _ c.if-not-week.true));
    }

pub returns : goal.returns
unfolding number_in
returns c =
    record {
      first = sym (two _ _ _ (sym c.fitting.ensures ∙ c.if-not-fitting.false) (sym c.judge-week.ensures.apart ∙ not-false _ c.if-not-week.false) (sym c.shares_fit.ensures ∙ c.if-shares_fit.false));
    }
