use Rattle.std.proofs.Common.{ap, ◌∙◌, ℤ, List}
use Rattle.definitions.specs.Limits.{root}
use Rattle.definitions.specs.Renewal.{renewed_below}
use Rattle.definitions.proofs.Facts.{facts}
use Rattle.answers.proofs.Answers.{err_number, ok_number, refused_keeps, accepted_leaves}
use Rattle.sums.proofs.Rated.{rated_before}
use Rattle.hourlaws.specs.SetMinute.{minute_table}
use Rattle.hourlaws.proofs.Passed.{timetabled}
use Rattle.hourlaws.proofs.Kept.{changed, renews_below, small_numbers}
use Rattle.setting.proofs.Asked.{timed_nodes}
use Rattle.setting.proofs.set_by.Goals as goal

pub returns-in_err-timetable_refusal-clause-table : goal.returns-in_err-timetable_refusal-clause-table
returns-in_err-timetable_refusal-clause-table c =
    refused_keeps _ _ _ _ (err_number _ c.timetable_refusal.ensures.first c.in_err-timetable_refusal.was)

pub set_nodes-requires : goal.set_nodes-requires
set_nodes-requires c =
    let passed = timetabled _ _ _ (ok_number _ c.timetable_refusal.ensures.first c.in_ok-timetable_refusal.was) in
    (timed_nodes _ _ passed.table, small_numbers _ _ _ _ (facts _ c.requires.0) (facts _ c.args.plan.in_order) c.requires.1 passed)

pub renew_below-requires : goal.renew_below-requires
renew_below-requires c =
    let passed = timetabled _ _ _ (ok_number _ c.timetable_refusal.ensures.first c.in_ok-timetable_refusal.was) in
    let table = facts _ c.requires.0 in
    let plan = facts _ c.args.plan.in_order in
    let r = renews_below _ _ _ _ table plan c.requires.1 passed in
    rw c.set_nodes.ensures (rated_before _ _ (changed _ _ _ _ table plan c.requires.1 passed) r.low r.there r.small)

pub returns-clause-table : goal.returns-clause-table
unfolding minute_table
returns-clause-table c =
    let accepted = ok_number _ c.timetable_refusal.ensures.first c.in_ok-timetable_refusal.was in
    let r = renews_below _ _ _ _ (facts _ c.requires.0) (facts _ c.args.plan.in_order) c.requires.1 (timetabled _ _ _ accepted) in
    c.renew_below.ensures ∙ ap (λ (u : List ℤ). renewed_below u root) c.set_nodes.ensures ∙ r.all ∙ accepted_leaves _ _ _ accepted
