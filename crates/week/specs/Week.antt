-- The shares at the minutes of a part, and what the tests over the week show.
use Rattle.std.specs.Prelude.{ℕ, ◌+◌, ◌-◌, ◌≤◌, ◌<◌, ◌≡◌, Bool, true, false, cond, List, length, get_or, eqb, ℤ}
use Rattle.numbers.specs.Below.{all_below}
use Rattle.definitions.specs.Limits.{table_length, nodes, root, kinds, fixed, stated, whole_share, greatest_rate}
use Rattle.definitions.specs.Places.{rate}
use Rattle.definitions.specs.Tree.{Tree, tree_of, there, test_if}
use Rattle.hourlaws.specs.Windows.{window_count, tree_at, turn, apart, shares_fit}
use Rattle.hourlaws.specs.SetMinute.{kind_within, week_within}
use Rattle.cells.specs.Cells.{part_minutes, cell_at, clear_in}

-- The share of node k at minute j of the part.
unfoldable pub cell_share : Tree → List ℕ → ℕ → ℕ → ℕ
cell_share tree cells j k = cond (eqb (get_or cells (cell_at k j) 0) 0) (tree.share k) (get_or cells (cell_at k j) 0 - 1)

-- A plan's tree with the shares at minute j.
unfoldable pub cell_tree : Tree → List ℕ → ℕ → Tree
cell_tree tree cells j =
    record {
      sort = tree.sort;
      parent = tree.parent;
      level = tree.level;
      kind = tree.kind;
      share = cell_share tree cells j;
      depth = tree.depth;
    }

-- What the functions ask of a plan's table: parents, kinds and shares are in their limits.
pub record Shared (t : List ℤ) : Type 0 where
  pub long : length t ≡ table_length
  pub parent : (k : ℕ) → k < nodes → there (tree_of t) k ≡ true → (k ≡ root → ⊥) → (tree_of t).parent k < nodes
  pub kind : (k : ℕ) → k < nodes → there (tree_of t) k ≡ true → (k ≡ root → ⊥) → (tree_of t).kind k < kinds
  pub share : (k : ℕ) → k < nodes → (tree_of t).share k ≤ greatest_rate

-- And of cells: none is above the greatest rate and one more.
abbrev pub Small : List ℕ → Type 0
Small cells = (k j : ℕ) → k < nodes → j < part_minutes → get_or cells (cell_at k j) 0 ≤ greatest_rate + 1

-- Whether the shares of one kind are within a limit at minute j of the part, where it is marked.
unfoldable pub within_marked : ℕ → ℕ → Tree → List ℕ → List Bool → ℕ → Bool
within_marked kind limit tree cells turns j = test_if (get_or turns j false) (λ j. kind_within kind limit (cell_tree tree cells j)) j

-- Whether they are at minute m, where it is a turn.
unfoldable pub within_at : ℕ → ℕ → Tree → List ℤ → ℕ → Bool
within_at kind limit tree ws m = test_if (turn ws m) (λ m. kind_within kind limit (tree_at tree ws m)) m

-- What one minute shows, with its shares in a tree: whether the fixed shares and whether the stated rates are within their limits.
pub record MinuteJudged (tree : Tree) (disk : ℕ) (fixed_fit stated_fit : Bool) : Type 0 where
  pub fixed : fixed_fit ≡ kind_within fixed whole_share tree
  pub stated : stated_fit ≡ kind_within stated disk tree

-- The same of minute j of a part, where it is marked; and of its first n minutes.
pub record TurnJudged (tree : Tree) (cells : List ℕ) (turns : List Bool) (disk j : ℕ) (fixed_fit stated_fit : Bool) : Type 0 where
  pub fixed : fixed_fit ≡ within_marked fixed whole_share tree cells turns j
  pub stated : stated_fit ≡ within_marked stated disk tree cells turns j

pub record TurnsJudged (tree : Tree) (cells : List ℕ) (turns : List Bool) (disk n : ℕ) (fixed_fit stated_fit : Bool) : Type 0 where
  pub fixed : fixed_fit ≡ all_below n (within_marked fixed whole_share tree cells turns)
  pub stated : stated_fit ≡ all_below n (within_marked stated disk tree cells turns)

-- What a part of the week that begins at `first` shows.
pub record PartJudged (t ws : List ℤ) (first : ℕ) (is_apart fixed_fit stated_fit : Bool) : Type 0 where
  pub apart : is_apart ≡ all_below (window_count ws) (clear_in ws first)
  pub fixed : shares_fit (tree_of t) ws ≡ true → fixed_fit ≡ all_below part_minutes (λ j. within_at fixed whole_share (tree_of t) ws (first + j))
  pub stated : shares_fit (tree_of t) ws ≡ true → stated_fit ≡ all_below part_minutes (λ j. within_at stated (rate t root) (tree_of t) ws (first + j))

-- What the week shows: whether no two windows of a node overlap; and, where the windows' shares are in their limits, whether at every
-- minute the fixed shares sum to at most 10,000 under each class, and the stated rates to at most the disk's.
pub record WeekJudged (t ws : List ℤ) (is_apart fixed_fit stated_fit : Bool) : Type 0 where
  pub apart : is_apart ≡ apart ws
  pub fixed : shares_fit (tree_of t) ws ≡ true → fixed_fit ≡ week_within fixed whole_share (tree_of t) ws
  pub stated : shares_fit (tree_of t) ws ≡ true → stated_fit ≡ week_within stated (rate t root) (tree_of t) ws
