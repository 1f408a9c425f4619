-- The limits that a table is within, said of the places that the code reads.
use Prim.Native.Nat.{ℕ, ◌≤◌, ◌<◌, ◌+◌, ◌^◌}
use mathlib.Core.List.{List}
use native.Mathlib.Omega.{arith}
use lib.IntN.{ℤ}
use Rattle.numbers.specs.Whole.{plus}
use Rattle.definitions.specs.Limits.{nodes, parent_at, depth_at, rate_at, queue_at, size_at, greatest_depth, greatest_rate}
use Rattle.definitions.specs.Places.{place, rate, depth_grains, size}
use Rattle.definitions.specs.Tree.{tree_of}
use Rattle.balances.specs.Within.{Within}

-- The grains of a depth are small.
pub depth_grains_small : (t : List ℤ) (k : ℕ) → (tree_of t).depth k ≤ greatest_depth → depth_grains t k ≤ 2 ^ 60
unfolding tree_of depth_grains
depth_grains_small t k h = omega arith

module _ (t : List ℤ) (w : Within t) (k : ℕ) (low : k < nodes) where
  pub parent_at_law : plus (place t k parent_at) < nodes
  unfolding tree_of
  parent_at_law = w.parent k low

  pub depth_at_law : plus (place t k depth_at) ≤ greatest_depth
  unfolding tree_of
  depth_at_law = w.depth k low

  pub rate_at_law : plus (place t k rate_at) ≤ greatest_rate
  unfolding rate
  rate_at_law = w.rate k low

  pub size_at_law : plus (place t k (queue_at + size_at)) ≤ greatest_depth
  unfolding size
  size_at_law = w.size k low
