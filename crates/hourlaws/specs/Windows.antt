-- Timetables. Document 02, (h): a list of windows of four numbers each, node, start minute, end minute and share.
use Rattle.std.specs.Prelude.{ℕ, zero, suc, ◌+◌, ◌*◌, ◌/◌, ◌%◌, Bool, false, not, cond, ◌||◌, List, [], ◌∷◌, length, get_or, eqb, leb, ltb, ℤ, pos}
use Rattle.numbers.specs.Whole.{plus, within_ℤ}
use Rattle.numbers.specs.Tests.{every}
use Rattle.numbers.specs.Below.{all_below}
use Rattle.definitions.specs.Limits.{last_node, share_limit}
use Rattle.definitions.specs.Tree.{Tree, there}

-- Minutes of a week, and the last one.
abbrev pub week_minutes : ℕ
week_minutes = 10080

abbrev pub last_minute : ℕ
last_minute = 10079

-- Numbers of a window, and which is which.
abbrev pub window_length : ℕ
window_length = 4

abbrev pub window_node_at : ℕ
window_node_at = 0

abbrev pub window_start_at : ℕ
window_start_at = 1

abbrev pub window_end_at : ℕ
window_end_at = 2

abbrev pub window_share_at : ℕ
window_share_at = 3

-- Whether a list is whole windows, and how many it has.
unfoldable pub whole_windows : List ℤ → Bool
whole_windows ws = eqb (length ws % window_length) 0

abbrev pub window_count : List ℤ → ℕ
window_count ws = length ws / window_length

-- Number p of window i, and the natural parts of its node, start minute, end minute and share.
unfoldable pub window_number : List ℤ → ℕ → ℕ → ℤ
window_number ws i p = get_or ws (window_length * i + p) (pos 0)

abbrev pub window_node : List ℤ → ℕ → ℕ
window_node ws i = plus (window_number ws i window_node_at)

abbrev pub window_start : List ℤ → ℕ → ℕ
window_start ws i = plus (window_number ws i window_start_at)

abbrev pub window_end : List ℤ → ℕ → ℕ
window_end ws i = plus (window_number ws i window_end_at)

abbrev pub window_share : List ℤ → ℕ → ℕ
window_share ws i = plus (window_number ws i window_share_at)

-- Whether window i is one of node k and covers minute m: from its start up to, but not including, its end.
unfoldable pub covers : List ℤ → ℕ → ℕ → ℕ → Bool
covers ws i k m = every (eqb (window_node ws i) k ∷ leb (window_start ws i) m ∷ ltb m (window_end ws i) ∷ [])

-- The value of the last of the first n windows that cover minute m for node k, and `old` where none does. Where no two windows
-- of a node overlap, at most one does.
unfoldable pub value_by : List ℤ → (ℕ → ℕ) → ℕ → ℕ → ℕ → ℕ → ℕ
value_by ws value zero k m old = old
value_by ws value (suc n) k m old = cond (covers ws n k m) (value n) (value_by ws value n k m old)

-- The share of node k at minute m: the window's inside a window, otherwise the plan's.
unfoldable pub share_in : Tree → List ℤ → ℕ → ℕ → ℕ
share_in tree ws m k = value_by ws (window_share ws) (window_count ws) k m (tree.share k)

-- The tree at minute m: the plan's tree with those shares. Kinds are always the plan's.
unfoldable pub tree_at : Tree → List ℤ → ℕ → Tree
tree_at tree ws m =
    record {
      sort = tree.sort;
      parent = tree.parent;
      level = tree.level;
      kind = tree.kind;
      share = share_in tree ws m;
      depth = tree.depth;
    }

-- Whether window i is right for a plan's tree: 0 ≤ start < end ≤ 10,080, and its node is there and is not the root.
unfoldable pub window_formed : Tree → List ℤ → ℕ → Bool
window_formed tree ws i =
    every
    (within_ℤ 0 week_minutes (window_number ws i window_start_at)
    ∷ within_ℤ 0 week_minutes (window_number ws i window_end_at)
    ∷ ltb (window_start ws i) (window_end ws i)
    ∷ within_ℤ 1 last_node (window_number ws i window_node_at)
    ∷ there tree (window_node ws i)
    ∷ [])

-- Whether windows i and j are of one node and overlap. Where one ends and the other begins they touch and do not overlap.
unfoldable pub overlap : List ℤ → ℕ → ℕ → Bool
overlap ws i j =
    every
    (eqb (window_node ws i) (window_node ws j)
    ∷ ltb (window_start ws i) (window_end ws j)
    ∷ ltb (window_start ws j) (window_end ws i)
    ∷ [])

-- Whether no two windows overlap.
unfoldable pub apart : List ℤ → Bool
apart ws = all_below (window_count ws) (λ i. all_below i (λ j. not (overlap ws i j)))

-- Whether a list is a timetable for a plan's tree: whole windows, each of them right, and no two of one node that overlap.
unfoldable pub timetable : Tree → List ℤ → Bool
timetable tree ws = every (whole_windows ws ∷ all_below (window_count ws) (window_formed tree ws) ∷ apart ws ∷ [])

-- Whether the share of window i is in the limits of its node's kind in the plan.
unfoldable pub share_fits : Tree → List ℤ → ℕ → Bool
share_fits tree ws i = within_ℤ 1 (share_limit (tree.kind (window_node ws i))) (window_number ws i window_share_at)

unfoldable pub shares_fit : Tree → List ℤ → Bool
shares_fit tree ws = all_below (window_count ws) (share_fits tree ws)

-- Whether one of the first n windows starts or ends at minute m.
unfoldable pub turns_by : List ℤ → ℕ → ℕ → Bool
turns_by ws zero m = false
turns_by ws (suc n) m = (eqb (window_start ws n) m || eqb (window_end ws n) m) || turns_by ws n m

-- Whether shares can change at minute m: it is minute 0, or a window starts or ends at it.
unfoldable pub turn : List ℤ → ℕ → Bool
turn ws m = eqb m 0 || turns_by ws (window_count ws) m
