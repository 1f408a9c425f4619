use Rattle.std.proofs.Common.{ap, ◌∙◌, ℕ, ◌+◌, Bool, cond, get_or}
use Rattle.hourlaws.specs.Windows.{covers}
use Rattle.windows.specs.Alone.{alone}
use Rattle.cells.specs.Cells.{cell_at}
use Rattle.cells.proofs.Covered.{cell_covered, clear_covered}
use Rattle.cells.proofs.fill_window.Goals as goal

pub returns : goal.returns
returns c =
    let ws = alone c.args.window in
    let first = c.args.first in
    let old = c.args.cells.now in
    record {
      long = c.fill.ensures.long;
      at = λ k j hj.
          c.fill.ensures.at (cell_at k j)
          ∙ ap (λ (b : Bool). cond b c.value_of.result (get_or old (cell_at k j) 0)) (cell_covered ws 0 first _ _ k j c.cover_of.ensures hj)
          ∙ ap (λ (v : ℕ). cond (covers ws 0 k (first + j)) v (get_or old (cell_at k j) 0)) c.value_of.ensures;
      clear = c.fill.ensures.clear ∙ clear_covered ws 0 first _ _ old c.cover_of.ensures c.requires.rises;
    }
