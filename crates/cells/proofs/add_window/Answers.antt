use Rattle.std.proofs.Common.{sym, ◌∙◌}
use Rattle.windows.specs.Alone.{alone}
use Rattle.cells.proofs.Covered.{beyond, beyond_filled, beyond_marked}
use Rattle.cells.proofs.add_window.Goals as goal

pub returns-then-not-reaches-clause-filled : goal.returns-then-not-reaches-clause-filled
returns-then-not-reaches-clause-filled c =
    let far = beyond (alone c.args.window) 0 c.args.first c.requires.0.rises (sym c.reaches.ensures ∙ c.if-not-reaches.true) in
    beyond_filled _ _ _ far c.args.cells.now c.told-cells

pub returns-then-not-reaches-clause-marked : goal.returns-then-not-reaches-clause-marked
returns-then-not-reaches-clause-marked c =
    let far = beyond (alone c.args.window) 0 c.args.first c.requires.0.rises (sym c.reaches.ensures ∙ c.if-not-reaches.true) in
    beyond_marked _ _ _ far c.args.turns.now c.told-turns
