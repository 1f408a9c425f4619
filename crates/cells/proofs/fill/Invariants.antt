-- The cells of the range before this one are filled, and whether they were 0 is known.
use Rattle.std.proofs.Common.{◌≡◌, ℕ, cond, get_or, eqb}
use Rattle.numbers.specs.Below.{all_below}
use Rattle.cells.specs.Cells.{between}
use Rattle.cells.proofs.fill.Given as goal

abbrev pub invariant-loop-cell : goal.invariant-loop-cell
invariant-loop-cell l =
    ((y : ℕ) → get_or l.cell-items y 0 ≡ cond (between 0 l.cell-index y) l.v (get_or l.initial.cell-items y 0))
    × (l.clear ≡ all_below l.cell-index (λ i. eqb (get_or l.initial.cell-items i 0) 0))
