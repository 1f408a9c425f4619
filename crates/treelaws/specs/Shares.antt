-- The children of a class as the list of their shares, of any length and of mixed kinds, for the rounding law and the law on
-- lost grains.
use Rattle.std.specs.Prelude.{ℕ, ◌+◌, List, [], ◌∷◌}
use Rattle.definitions.specs.Rates.{fixed_rate, left_rate, weighted_rate, unstated_rate}

-- A share that is fixed, weighted or stated.
pub data Share : Type 0 where
  fixed : ℕ → Share
  weighted : ℕ → Share
  stated : ℕ → Share

-- What a share adds to the sum of the fixed shares, to that of the weights, to that of the stated rates, and to the number of
-- those that are not stated.
unfoldable pub fixed_part : Share → ℕ
fixed_part (fixed s) = s
fixed_part (weighted s) = 0
fixed_part (stated s) = 0

unfoldable pub weight_part : Share → ℕ
weight_part (fixed s) = 0
weight_part (weighted s) = s
weight_part (stated s) = 0

unfoldable pub stated_part : Share → ℕ
stated_part (fixed s) = 0
stated_part (weighted s) = 0
stated_part (stated s) = s

unfoldable pub divided_part : Share → ℕ
divided_part (fixed s) = 1
divided_part (weighted s) = 1
divided_part (stated s) = 0

-- The sum of f over a list of shares.
unfoldable pub sum_of : (Share → ℕ) → List Share → ℕ
sum_of f [] = 0
sum_of f (s ∷ shares) = sum_of f shares + f s

-- The rate of a child with the given share, in a class with these sums of fixed shares and of weights, of whose rate the stated
-- rates leave r.
unfoldable pub share_rate : ℕ → ℕ → ℕ → Share → ℕ
share_rate r fixed_shares weights (fixed s) = fixed_rate r s
share_rate r fixed_shares weights (weighted s) = weighted_rate (left_rate r fixed_shares) s weights
share_rate r fixed_shares weights (stated s) = s

-- What the stated rates leave of a class's rate r.
unfoldable pub rest_of : ℕ → List Share → ℕ
rest_of r shares = unstated_rate r (sum_of stated_part shares)

-- The sum of the children's rates in a class of rate r.
unfoldable pub rates_of : ℕ → List Share → ℕ
rates_of r shares = sum_of (share_rate (rest_of r shares) (sum_of fixed_part shares) (sum_of weight_part shares)) shares
