-- What the limits of a node's places say of the numbers that are read there.
use Prim.Native.Nat.{ℕ, ◌≤◌, ◌<◌}
use mathlib.Core.Path.{◌≡◌}
use mathlib.Core.Bool.{true}
use mathlib.Core.List.{List}
use native.Mathlib.Omega.{arith}
use lib.IntN.{ℤ}
use Rattle.numbers.proofs.Parts.{zarith}
use Rattle.definitions.specs.Limits.{nodes, last_level, greatest_depth, most_waiting}
use Rattle.definitions.specs.Places.{waiting}
use Rattle.definitions.specs.Tree.{tree_of}
use Rattle.definitions.specs.Order.{limits_kept}
use Rattle.definitions.proofs.Facts.{limits_of_law}

pub record Bounds (t : List ℤ) (k : ℕ) : Type 0 where
  pub parent : (tree_of t).parent k < nodes
  pub level : (tree_of t).level k ≤ last_level
  pub depth : (tree_of t).depth k ≤ greatest_depth
  pub waiting : waiting t k ≤ most_waiting

pub bounds : (t : List ℤ) (k : ℕ) → limits_kept t k ≡ true → Bounds t k
unfolding tree_of waiting
bounds t k h = let f = limits_of_law t k h in omega (arith, zarith)
