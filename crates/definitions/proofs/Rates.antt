-- Rounding down, for the three rates of specs/Rates: r is n / d rounded down when r x d ≤ n < (r + 1) x d. One law over n
-- and d is cited for each.
use Prim.Native.Nat.{ℕ, ◌+◌, ◌*◌, ◌-◌, ◌/◌, ◌≤◌, ◌<◌}
use native.Mathlib.Omega.{arith}
use native.Mathlib.Nat.{div-mul-le_self, lt-mul-div-succ}
use Rattle.definitions.specs.Limits.{whole_share}
use Rattle.definitions.specs.Rates.{fixed_rate, left_rate, weighted_rate}

pub record RoundedDown (n d r : ℕ) : Type 0 where
  pub at_most : r * d ≤ n
  pub next_above : n < (r + 1) * d

quotient : (n d : ℕ) → 0 < d → RoundedDown n d (n / d)
quotient n d h = omega (arith, div-mul-le_self n d, lt-mul-div-succ n h)

-- A fixed child's rate: its class's rate x share / 10,000.
pub fixed_rounded : (class_rate share : ℕ) → RoundedDown (class_rate * share) whole_share (fixed_rate class_rate share)
unfolding fixed_rate
fixed_rounded class_rate share = omega (arith, quotient (class_rate * share) whole_share (omega arith))

-- What the fixed shares leave: the class's rate x (10,000 - their sum) / 10,000.
pub left_rounded : (class_rate fixed_shares : ℕ) → RoundedDown (class_rate * (whole_share - fixed_shares)) whole_share (left_rate class_rate fixed_shares)
unfolding left_rate
left_rounded class_rate fixed_shares =
    omega (arith, quotient (class_rate * (whole_share - fixed_shares)) whole_share (omega arith))

-- A weighted child's rate: what is left x share / sum of weights.
pub weighted_rounded : (left share weights : ℕ) → 0 < weights → RoundedDown (left * share) weights (weighted_rate left share weights)
unfolding weighted_rate
weighted_rounded left share weights some = omega (arith, quotient (left * share) weights some)
