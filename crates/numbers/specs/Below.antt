-- Sums, tests and repeated steps over the numbers below a bound.
use Rattle.std.specs.Prelude.{ℕ, zero, suc, ◌+◌, Bool, true, ◌&&◌, ℤ, pos, ◌+ℤ◌}

-- The sum of f 0 .. f (n - 1).
unfoldable pub sum_below : ℕ → (ℕ → ℕ) → ℕ
sum_below zero f = 0
sum_below (suc n) f = sum_below n f + f n

-- The same of whole numbers.
unfoldable pub sum_ℤ_below : ℕ → (ℕ → ℤ) → ℤ
sum_ℤ_below zero f = pos 0
sum_ℤ_below (suc n) f = sum_ℤ_below n f +ℤ f n

-- Whether p holds of each number below n.
unfoldable pub all_below : ℕ → (ℕ → Bool) → Bool
all_below zero p = true
all_below (suc n) p = all_below n p && p n

-- f 0, f 1, .. f (n - 1) applied in turn.
unfoldable pub for_below : {A : Type 0} → ℕ → (ℕ → A → A) → A → A
for_below zero f a = a
for_below (suc n) f a = f n (for_below n f a)
