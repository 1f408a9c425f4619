use Rattle.std.proofs.Common.{ℕ, List, Bor, ◌<◌, ◌≤◌, sym, ap, ◌∙◌, arith}
use Rattle.std.proofs.lemmas.Result.{err_from_is_err_and}
use Rattle.definitions.specs.Refusals.{accepted}
use Rattle.view.specs.Answer.{body_answer, told_found}
use Rattle.view.proofs.Listing.{listed_here, listed_later, listed_none, answer_plan, answer_no_plan, body_told}
use Rattle.view.proofs.body_of.Goals as goal

pub returns-in_err-view : goal.returns-in_err-view
unfolding told_found
returns-in_err-view c =
    let p = err_from_is_err_and c.from_residual.result c.from_residual.ensures.1 in
    rw (p.1, p.2, c.in_err-view.ensures.0) (answer_no_plan _ _ c.in_err-view.ensures.1)

pub loop-i-init : goal.loop-i-init
loop-i-init c =
    answer_plan _ _ _ c.in_ok-view.view.views.right c.in_ok-view.view.views.counted
    ∙ ap (λ (b : Bor (List ℕ)). body_answer b.now c.args.number) c.in_ok-view.ensures

pub returns-then-entry-number : goal.returns-then-entry-number
returns-then-entry-number c =
    let i = c.loop-i.i in
    let within : i < c.in_ok-view.view.count = omega arith in
    body_told _ i _ c.body.ensures.told
    ∙ ap accepted (sym (listed_here _ _ i _ within (sym c.entry.ensures.told.node ∙ c.if-entry-number.true)))
    ∙ c.loop-i.invariant

pub loop-i-preserved : goal.loop-i-preserved
loop-i-preserved c =
    let i = c.loop-i.i in
    let within : i < c.in_ok-view.view.count = omega arith in
    ap accepted (sym (listed_later _ _ i _ within (λ e. c.if-entry-number.false (c.entry.ensures.told.node ∙ e)))) ∙ c.loop-i.invariant

pub returns : goal.returns
unfolding told_found
returns c =
    let past : c.in_ok-view.view.count ≤ c.loop-i.i = omega arith in
    ap accepted (sym (listed_none _ _ c.loop-i.i _ past)) ∙ c.loop-i.invariant
