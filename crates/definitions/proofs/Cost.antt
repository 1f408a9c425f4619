-- Laws of a request's cost: what it is in each range, that it is above the size by 16 at most, and what a size within a
-- depth says.
use Prim.Native.Nat.{ℕ, ◌+◌, ◌≤◌, ◌<◌}
use mathlib.Core.Path.{◌≡◌}
use mathlib.Core.Bool.{true}
use native.Mathlib.Omega.{arith}
use borrow.Author.Tests.{leb-true, leb-false, le-leb, lt-leb}
use lib.Dec.{leb}
use lib.IntN.{ℤ, pos}
use lib.Signed.{le_z}
use Rattle.numbers.specs.Whole.{plus}
use Rattle.numbers.proofs.Tests.{by_test}
use Rattle.numbers.proofs.Every.{head_holds, rest_hold, holds_with, none_left}
use Rattle.definitions.specs.Cost.{cost, size_within}

module _ (n : ℕ) where
  pub cost_to_7 : n ≤ 7 → cost n ≡ 8
  unfolding cost
  cost_to_7 most = rw (le-leb n 7 most)

  pub cost_to_63 : 7 < n → n ≤ 63 → cost n ≡ n + 4
  unfolding cost
  cost_to_63 least most = rw (lt-leb n 7 least, le-leb n 63 most)

  pub cost_to_511 : 63 < n → n ≤ 511 → cost n ≡ n + 8
  unfolding cost
  cost_to_511 least most = rw (lt-leb n 7 (omega arith), lt-leb n 63 least, le-leb n 511 most)

  pub cost_above_511 : 511 < n → cost n ≡ n + 16
  unfolding cost
  cost_above_511 least = rw (lt-leb n 7 (omega arith), lt-leb n 63 (omega arith), lt-leb n 511 least)

  pub cost_bounds : (n < cost n) × (cost n ≤ n + 16)
  cost_bounds =
      by_test (leb n 7) (λ h. omega (arith, leb-true n 7 h, cost_to_7 (leb-true n 7 h)))
      (λ h.
      by_test (leb n 63) (λ i. omega (arith, cost_to_63 (leb-false n 7 h) (leb-true n 63 i)))
      (λ i.
      by_test (leb n 511) (λ j. omega (arith, cost_to_511 (leb-false n 63 i) (leb-true n 511 j)))
      (λ j. omega (arith, cost_above_511 (leb-false n 511 j)))))

module _ (depth : ℕ) (size : ℤ) where
  pub most_cost : size_within depth size ≡ true → cost (plus size) ≤ depth
  unfolding size_within
  most_cost h = leb-true (cost (plus size)) depth (head_holds _ _ (rest_hold _ _ h))

  pub size_within_law : le_z (pos 1) size ≡ true → cost (plus size) ≤ depth → size_within depth size ≡ true
  unfolding size_within
  size_within_law least most = holds_with _ _ least (holds_with _ _ (le-leb (cost (plus size)) depth most) none_left)
