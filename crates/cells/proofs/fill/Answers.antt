use Rattle.std.proofs.Common.{◌≡◌, sym, ap, ◌∙◌, ℕ, ◌-◌, ◌≤◌, ◌<◌, length, eqb, arith}
use borrow.Rule.Slice.PartMut.{mid_len, same_len_mid}
use Rattle.numbers.proofs.Tests.{cond_false}
use Rattle.numbers.proofs.All.{all_first, all_grows}
use Rattle.cells.proofs.Covered.{not_between, fill_more}
use Rattle.cells.proofs.Filling.{part_filled, part_clear}
use Rattle.cells.proofs.fill.Goals as goal

pub loop-cell-init : goal.loop-cell-init
loop-cell-init c = (λ y. sym (cond_false _ c.args.v _ (not_between 0 0 y (λ h. omega arith))), all_first _)

pub loop-cell-preserved : goal.loop-cell-preserved
loop-cell-preserved c =
    let at = c.loop-cell in
    let room : at.cell-index < length at.cell-items = omega arith in
    let same = at.invariant.0 at.cell-index ∙ cond_false _ c.args.v _ (not_between 0 at.cell-index at.cell-index (λ h. omega arith)) in (
      λ y. fill_more at.cell-items _ 0 at.cell-index c.args.v y (omega arith) room (at.invariant.0 y),
      all_grows at.cell-index _ _ _ at.invariant.1 (ap (λ (n : ℕ). eqb n 0) same),
    )

pub returns : goal.returns
returns c =
    let at = c.loop-cell in
    let from = c.args.at.start in
    let cells = c.args.cells.now in
    let high : c.args.at.end ≤ length cells = omega arith in
    let part = mid_len from c.args.at.end cells high in
    let long : length at.cell-items ≡ c.args.at.end - from = at.auto.cell-items ∙ part in
    let end : at.cell-index ≡ c.args.at.end - from = omega arith in
    record {
      long = same_len_mid from (c.args.at.end - from) cells at.cell-items at.auto.cell-items ∙ c.told-cells;
      at = part_filled cells at.cell-items from c.args.at.end c.args.v c.requires.0 high long (rw end at at.invariant.0);
      clear = part_clear cells from c.args.at.end at.clear (rw end at at.invariant.1);
    }
