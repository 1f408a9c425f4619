-- The week in parts of 32 minutes. A part has a cell for each node and each of its minutes, node by node. A cell is 0 where no window
-- covers its minute for its node; else it is the share of the last window that does, and one more.
use Rattle.std.specs.Prelude.{ℕ, ◌+◌, ◌*◌, ◌-◌, ◌<◌, min, ◌≡◌, Bool, false, cond, ◌||◌, List, [], ◌∷◌, length, get_or, eqb, leb, ltb, ℤ}
use Rattle.numbers.specs.Tests.{every}
use Rattle.numbers.specs.Below.{all_below}
use Rattle.definitions.specs.Limits.{nodes, greatest_rate}
use Rattle.definitions.specs.Tree.{test_if}
use Rattle.hourlaws.specs.Windows.{window_node, window_start, window_end, window_share, covers, value_by}

-- Minutes of a part, parts of the week, and cells of a part.
abbrev pub part_minutes : ℕ
part_minutes = 32

abbrev pub week_parts : ℕ
week_parts = 315

abbrev pub cell_count : ℕ
cell_count = nodes * part_minutes

-- The cell of node k at minute j of the part.
abbrev pub cell_at : ℕ → ℕ → ℕ
cell_at k j = k * part_minutes + j

-- Whether x stands in from .. to - 1.
unfoldable pub between : ℕ → ℕ → ℕ → Bool
between from to x = every (leb from x ∷ ltb x to ∷ [])

-- What window i writes into its cells. A share above every limit is written as the greatest rate, so that sums of cells fit 64 bits.
unfoldable pub cell_value : List ℤ → ℕ → ℕ
cell_value ws i = min (window_share ws i) greatest_rate + 1

-- The cell of node k at minute m once the first n windows are added.
unfoldable pub value_in : List ℤ → ℕ → ℕ → ℕ → ℕ
value_in ws n k m = value_by ws (cell_value ws) n k m 0

-- Cells `old` become `new`: those from .. to - 1 get v; `was_clear` is whether all of them were 0.
pub record Filled (old new : List ℕ) (from to v : ℕ) (was_clear : Bool) : Type 0 where
  pub long : length new ≡ cell_count
  pub at : (y : ℕ) → get_or new y 0 ≡ cond (between from to y) v (get_or old y 0)
  pub clear : was_clear ≡ all_below (to - from) (λ x. eqb (get_or old (from + x) 0) 0)

-- Which cells window i covers in the part that begins at `first`: those from .. to - 1.
pub record Ranged (ws : List ℤ) (i first from to : ℕ) : Type 0 where
  pub starts : from ≡ cell_at (window_node ws i) (min (window_start ws i - first) part_minutes)
  pub ends : to ≡ cell_at (window_node ws i) (min (window_end ws i - first) part_minutes)

-- Whether window i has a minute in the part that begins at `first`, or ends where it begins.
unfoldable pub reaches : List ℤ → ℕ → ℕ → Bool
reaches ws i first = every (leb first (window_end ws i) ∷ ltb (window_start ws i) (first + part_minutes) ∷ [])

-- Whether f holds at each minute of the part that window i covers.
unfoldable pub clear_at : List ℤ → ℕ → ℕ → (ℕ → Bool) → Bool
clear_at ws first i f = all_below part_minutes (λ j. test_if (covers ws i (window_node ws i) (first + j)) f j)

-- Whether none of the windows before it has filled the cell of such a minute for its node.
unfoldable pub clear_in : List ℤ → ℕ → ℕ → Bool
clear_in ws first i = clear_at ws first i (λ j. eqb (value_in ws i (window_node ws i) (first + j)) 0)

-- Cells `old` become `new` by window i, in the part that begins at `first`: those of the minutes that it covers get its value; `was_clear`
-- is whether all of them were 0.
pub record FilledBy (ws : List ℤ) (first i : ℕ) (old new : List ℕ) (was_clear : Bool) : Type 0 where
  pub long : length new ≡ cell_count
  pub at : (k j : ℕ) → j < part_minutes → get_or new (cell_at k j) 0 ≡ cond (covers ws i k (first + j)) (cell_value ws i) (get_or old (cell_at k j) 0)
  pub clear : was_clear ≡ clear_at ws first i (λ j. eqb (get_or old (cell_at (window_node ws i) j) 0) 0)

-- Turns `old` become `new`: minute m is marked, where it is one of the part.
pub record Marked (first m : ℕ) (old new : List Bool) : Type 0 where
  pub long : length new ≡ part_minutes
  pub at : (j : ℕ) → j < part_minutes → get_or new j false ≡ (eqb m (first + j) || get_or old j false)

-- The same of the start and the end of window i.
pub record MarkedBy (ws : List ℤ) (first i : ℕ) (old new : List Bool) : Type 0 where
  pub long : length new ≡ part_minutes
  pub at : (j : ℕ) → j < part_minutes → get_or new j false ≡ ((eqb (window_start ws i) (first + j) || eqb (window_end ws i) (first + j)) || get_or old j false)
