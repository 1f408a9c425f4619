-- Numbers of the table that are zero, counted from any of them.
use Rattle.std.specs.Prelude.{ℕ, ◌+◌, Bool, List, get_or, ℤ, pos}
use Rattle.numbers.specs.Below.{all_below}
use Rattle.definitions.specs.Order.{is_zero}

-- Whether n numbers from the first on are zero.
unfoldable pub zeros : List ℤ → ℕ → ℕ → Bool
zeros t first n = all_below n (λ p. is_zero (get_or t (first + p) (pos 0)))
