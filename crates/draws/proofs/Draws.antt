-- Draws as the code makes them.
use Rattle.std.proofs.Common.{◌≡◌, ℕ, ◌+◌, ◌-◌, ◌*◌, ◌%◌, ◌^◌, ◌<◌, mul-le-mul, arith}
use Rattle.draws.specs.Draws.{next_state}

-- A product of two numbers of 32 bits has 64.
pub product_fits : (a b : ℕ) → a < 2 ^ 32 → b < 2 ^ 32 → a * b < 2 ^ 64
product_fits a b ha hb =
    omega (arith, mul-le-mul {n₁ = a} {m₁ = b} {n₂ = 2 ^ 32 - 1} {m₂ = 2 ^ 32 - 1} (omega arith) (omega arith))

-- A product that wraps and then a sum that wraps.
pub next_wraps : (p state : ℕ) → p ≡ (state * 1664525) % 2 ^ 32 → (p + 1013904223) % 2 ^ 32 ≡ next_state state
unfolding next_state
next_wraps p state e = omega (arith, e)
