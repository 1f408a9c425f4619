-- Rate and depth stand in the head.
use Rattle.std.proofs.Common.{ℕ, ◌+◌, pos, ap, ◌∙◌, arith}
use borrow.Author.Rules.{sfits_of}
use mir.Syntax.{w64}
use mir.ValLaws.{to_z-of_z}
use Rattle.definitions.specs.Calls.{open_answer}
use Rattle.planformat.specs.Bytes.{le4}
use Rattle.planformat.specs.Format.{start_of, disk_rate_at, root_depth_at, plan_in}
use Rattle.planlaws.specs.Reading.{opened_for}
use Rattle.view.proofs.Viewed.{headed}
use Rattle.entering.proofs.Told.{number_of_told}
use Rattle.reading.proofs.open_plan.Goals as goal

pub four-requires : goal.four-requires
four-requires c = let v = c.args.view in omega (arith, c.start_of-head.ensures.start, (headed v.bytes.now v.edition v.views.right v.views.edition).1)

pub four-requires-2 : goal.four-requires-2
four-requires-2 c = let v = c.args.view in omega (arith, c.start_of-head.ensures.start, (headed v.bytes.now v.edition v.views.right v.views.edition).1)

pub returns : goal.returns
unfolding open_answer opened_for plan_in
returns c =
    let s = c.args.view.bytes.now in
    let head = c.start_of-head.ensures.start ∙ ap start_of c.args.view.views.edition in
    let rate = to_z-of_z w64 _ (sfits_of c.whole-rate.type_inv) ∙ c.whole-rate.ensures ∙ ap pos (c.four.ensures.four ∙ ap (λ (a : ℕ). le4 s (a + disk_rate_at)) head) in
    let depth = to_z-of_z w64 _ (sfits_of c.whole-depth.type_inv) ∙ c.whole-depth.ensures ∙ ap pos (c.four-2.ensures.four ∙ ap (λ (a : ℕ). le4 s (a + root_depth_at)) head) in
    let opened = rw (rate, depth) at c.open.ensures in
    record { number = number_of_told _ _ _ opened.answer; table = opened.table }
