-- Document 01, "Rates", and document 02, (f). A node's rate goes by the tree and the disk's rate alone, level by level from the
-- root.
use Rattle.std.specs.Prelude.{ℕ, zero, suc, ◌*◌, ◌/◌, ◌-◌, cond, List, eqb, ℤ, pos}
use Rattle.numbers.specs.Below.{for_below}
use Rattle.definitions.specs.Limits.{nodes, root, rate_at, fixed, weighted, stated, whole_share}
use Rattle.definitions.specs.Places.{put, rate}
use Rattle.definitions.specs.Tree.{Tree, tree_of, there, is_fixed, is_stated, sum_under}

-- The share of node k where it is of this kind, else 0; the sum of such shares under class c.
unfoldable pub kind_share : Tree → ℕ → ℕ → ℕ
kind_share tree kind k = cond (eqb (tree.kind k) kind) (tree.share k) 0

unfoldable pub kind_sum : Tree → ℕ → ℕ → ℕ
kind_sum tree kind c = sum_under tree c (kind_share tree kind)

-- The sum of the fixed shares under class c, that of the weights, and that of the stated rates.
abbrev pub fixed_sum : Tree → ℕ → ℕ
fixed_sum tree c = kind_sum tree fixed c

abbrev pub weight_sum : Tree → ℕ → ℕ
weight_sum tree c = kind_sum tree weighted c

abbrev pub stated_sum : Tree → ℕ → ℕ
stated_sum tree c = kind_sum tree stated c

-- A fixed child's rate: its class's rate x share / 10,000, rounded down.
unfoldable pub fixed_rate : ℕ → ℕ → ℕ
fixed_rate class_rate share = class_rate * share / whole_share

-- What the fixed shares leave of a class's rate, rounded down.
unfoldable pub left_rate : ℕ → ℕ → ℕ
left_rate class_rate fixed_shares = class_rate * (whole_share - fixed_shares) / whole_share

-- A weighted child's rate: left x share / sum of weights, rounded down.
unfoldable pub weighted_rate : ℕ → ℕ → ℕ → ℕ
weighted_rate left share weights = left * share / weights

-- The rate of child k, fixed or weighted, of a class that has the rate class_rate to divide among such children.
unfoldable pub divided_rate : Tree → ℕ → ℕ → ℕ
divided_rate tree class_rate k =
    cond (is_fixed tree k)
    (fixed_rate class_rate (tree.share k))
    (weighted_rate (left_rate class_rate (fixed_sum tree (tree.parent k))) (tree.share k) (weight_sum tree (tree.parent k)))

-- What the stated rates leave of a class's rate. They stand under the root only, so of another class it is the whole.
unfoldable pub unstated_rate : ℕ → ℕ → ℕ
unstated_rate class_rate stated_rates = class_rate - stated_rates

-- The rate of child k of a class that has the rate class_rate: a stated one has its share field; the others divide what the
-- stated rates leave.
unfoldable pub child_rate : Tree → ℕ → ℕ → ℕ
child_rate tree class_rate k =
    cond (is_stated tree k) (tree.share k) (divided_rate tree (unstated_rate class_rate (stated_sum tree (tree.parent k))) k)

-- The rate of node k at level l: the root has the disk's rate.
unfoldable pub rate_at_level : Tree → ℕ → ℕ → ℕ → ℕ
rate_at_level tree disk zero k = disk
rate_at_level tree disk (suc l) k = child_rate tree (rate_at_level tree disk l (tree.parent k)) k

unfoldable pub rate_in : Tree → ℕ → ℕ → ℕ
rate_in tree disk k = rate_at_level tree disk (tree.level k) k

-- The table with the rate r k written for each node k of the tree.
unfoldable pub write_rates : Tree → (ℕ → ℕ) → List ℤ → List ℤ
write_rates tree r t = for_below nodes (λ k u. cond (there tree k) (put u k rate_at (pos (r k))) u) t

-- Every rate renewed.
unfoldable pub renewed : List ℤ → List ℤ
renewed t = write_rates (tree_of t) (rate_in (tree_of t) (rate t root)) t
