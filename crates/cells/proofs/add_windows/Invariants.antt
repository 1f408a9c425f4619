-- The windows before i are in the cells and the turns, and whether the cells that each covers were 0 is known.
use Rattle.std.proofs.Common.{◌≡◌, ℕ, ◌+◌, ◌<◌, false, ◌||◌, get_or, eqb}
use Rattle.numbers.specs.Below.{all_below}
use Rattle.hourlaws.specs.Windows.{turns_by}
use Rattle.cells.specs.Cells.{part_minutes, cell_at, value_in, clear_in}
use Rattle.cells.proofs.add_windows.Given as goal

abbrev pub invariant-loop-i : goal.invariant-loop-i
invariant-loop-i l =
    ((k j : ℕ) → j < part_minutes → get_or l.cells (cell_at k j) 0 ≡ value_in l.windows l.i k (l.first + j))
    × ((j : ℕ) → j < part_minutes → get_or l.turns j false ≡ (turns_by l.windows l.i (l.first + j) || eqb (l.first + j) 0))
    × (l.clear ≡ all_below l.i (clear_in l.windows l.first))
