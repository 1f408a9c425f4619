-- Of cause 17 only the overlap is left, and 2 is not there.
use Rattle.std.proofs.Common.{sym, ◌∙◌}
use Rattle.std.proofs.lemmas.Bool.{not-true, not-false}
use Rattle.definitions.proofs.Facts.{facts}
use Rattle.answers.specs.Answers.{number_in}
use Rattle.setting.proofs.Asked.{timed, shared, overlapping, sums_left}
use Rattle.setting.proofs.week_refusal.Goals as goal

pub judge-week-requires : goal.judge-week-requires
judge-week-requires c =
    (shared c.args.table.now c.args.plan.table.now c.args.windows.now (facts _ c.args.plan.in_order), timed _ _ _ c.requires.0)

pub returns-then-not-week : goal.returns-then-not-week
unfolding number_in
returns-then-not-week c =
    record { first = sym (overlapping _ _ _ c.requires.0 (sym c.judge-week.ensures.apart ∙ not-true _ c.if-not-week.true)) }

pub returns-then-not-week-2 : goal.returns-then-not-week-2
unfolding number_in
returns-then-not-week-2 c =
    let fit = c.requires.1 in
    let left = sums_left _ _ _ c.requires.0 (sym c.judge-week.ensures.apart ∙ not-false _ c.if-not-week.false) fit in
    record { first = sym (left.seven (sym (c.judge-week.ensures.fixed fit) ∙ not-true _ c.if-not-week-2.true)) }

pub returns-then-not-week-3 : goal.returns-then-not-week-3
unfolding number_in
returns-then-not-week-3 c =
    let fit = c.requires.1 in
    let left = sums_left _ _ _ c.requires.0 (sym c.judge-week.ensures.apart ∙ not-false _ c.if-not-week.false) fit in
    record {
      first = sym (left.sixteen (sym (c.judge-week.ensures.fixed fit) ∙ not-false _ c.if-not-week-2.false) (sym (c.judge-week.ensures.stated fit) ∙ not-true _ c.if-not-week-3.true));
    }

pub returns : goal.returns
unfolding number_in
returns c =
    let fit = c.requires.1 in
    let left = sums_left _ _ _ c.requires.0 (sym c.judge-week.ensures.apart ∙ not-false _ c.if-not-week.false) fit in
    record {
      first = sym (left.none (sym (c.judge-week.ensures.fixed fit) ∙ not-false _ c.if-not-week-2.false) (sym (c.judge-week.ensures.stated fit) ∙ not-false _ c.if-not-week-3.false));
    }
