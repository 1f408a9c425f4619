use Rattle.std.proofs.Common.{◌≡◌, refl, ℤ, pos, negsuc, Fits, FitsSigned}
use native.Mathlib.Omega.{arith}
use lib.Dec.{T}
use lib.IntN.{nat_abs}
use lib.Signed.{non_neg}
use mir.Syntax.{w64}
use mir.ValLaws.{to_z-of_z}
use Rattle.numbers.specs.Whole.{plus, minus}
use Rattle.numbers.proofs.unsigned.Goals as goal

fits : (z : ℤ) → FitsSigned w64 z → minus z ≡ 0 → T (non_neg z) × Fits w64 (nat_abs z)
unfolding minus
fits (pos n) f h = (tt, omega arith)
fits (negsuc n) f h = absurd (omega arith)

itself : (z : ℤ) → minus z ≡ 0 → nat_abs z ≡ plus z
unfolding plus minus
itself (pos n) h = refl
itself (negsuc n) h = absurd (omega arith)

pub overflow_cast-result : goal.overflow_cast-result
overflow_cast-result c = rw (to_z-of_z w64 c.args.z c.ranges.z) (fits c.args.z c.ranges.z c.requires)

pub returns : goal.returns
returns c = rw (to_z-of_z w64 c.args.z c.ranges.z) (itself c.args.z c.requires)
