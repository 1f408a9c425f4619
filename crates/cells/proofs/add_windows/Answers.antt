use Rattle.std.proofs.Common.{◌≡◌, refl, sym, ap, ◌∙◌, ℕ, ◌+◌, ◌||◌, eqb, arith}
use Rattle.numbers.proofs.All.{all_first, all_grows}
use Rattle.hourlaws.specs.Windows.{window_count, turns_by}
use Rattle.hourlaws.proofs.Values.{value_none, value_grows}
use Rattle.cells.specs.Cells.{cell_value, value_in, clear_in}
use Rattle.cells.proofs.Alone.{timed_alone, filled_alone, marked_alone}
use Rattle.cells.proofs.Covered.{clear_filled}
use Rattle.cells.proofs.Turns.{turns_start, turns_next, turns_all}
use Rattle.cells.proofs.add_windows.Goals as goal

pub loop-i-init : goal.loop-i-init
unfolding value_in
loop-i-init c =
    let ws = c.args.windows.now in (
      λ k j hj. c.requires.2 k j hj ∙ sym (value_none ws (cell_value ws) k _ 0),
      λ j hj. turns_start ws (c.args.first + j) _ (c.requires.3 j hj),
      all_first _,
    )

pub loop-i-preserved : goal.loop-i-preserved
unfolding value_in
loop-i-preserved c =
    let at = c.loop-i in
    let ws = c.args.windows.now in
    let first = c.args.first in
    let here = c.at.ensures in
    let filling = filled_alone ws at.i c.at.result here.node here.start here.end here.share _ _ _ _ c.add_window-clear.ensures.filled in
    let marking = marked_alone ws at.i c.at.result here.node here.start here.end here.share _ _ _ c.add_window-clear.ensures.marked in (
      λ k j hj. filling.at k j hj ∙ value_grows ws (cell_value ws) k (first + j) 0 at.i _ _ refl (at.invariant.0 k j hj),
      λ j hj. marking.at j hj ∙ turns_next ws (first + j) at.i _ (at.invariant.1 j hj),
      all_grows at.i (clear_in ws first) _ _ at.invariant.2 (filling.clear ∙ clear_filled ws first at.i at.cells at.invariant.0),
    )

pub returns-clause-turns : goal.returns-clause-turns
returns-clause-turns c =
    let ws = c.args.windows.now in
    let first = c.args.first in
    let end : c.loop-i.i ≡ window_count ws = omega arith in
    λ j hj. turns_all ws (first + j) _ (c.loop-i.invariant.1 j hj ∙ ap (λ (n : ℕ). turns_by ws n (first + j) || eqb (first + j) 0) end)

pub add_window-clear-requires : goal.add_window-clear-requires
add_window-clear-requires c = (
  timed_alone c.args.windows.now c.loop-i.i c.at.result c.at.ensures.node c.at.ensures.start c.at.ensures.end c.at.ensures.share
      (c.requires.0 c.loop-i.i (omega arith)),
  c.requires.1,
)
