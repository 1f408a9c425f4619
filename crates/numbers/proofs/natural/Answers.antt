use Rattle.std.proofs.Common.{◌≡◌, refl, ℤ, pos, negsuc, true, false}
use native.Mathlib.Omega.{arith}
use borrow.Author.Tests.{ltb-true}
use lib.IntN.{nat_abs}
use lib.Signed.{lt_z}
use mir.Syntax.{w64}
use mir.ValLaws.{to_z-of_z}
use Rattle.numbers.specs.Whole.{plus}
use Rattle.numbers.proofs.natural.Goals as goal

none : (z : ℤ) → lt_z z (pos 0) ≡ true → 0 ≡ plus z
unfolding plus
none (pos n) h = absurd (omega (arith, ltb-true n 0 h))
none (negsuc n) h = refl

itself : (z : ℤ) → lt_z z (pos 0) ≡ false → nat_abs z ≡ plus z
unfolding plus
itself (pos n) h = refl
itself (negsuc n) h = cc

pub returns-then-z-lt0 : goal.returns-then-z-lt0
returns-then-z-lt0 c = none c.args.z (rw (to_z-of_z w64 c.args.z c.ranges.z) at c.if-z-lt0.true)

pub returns-else-z-lt0 : goal.returns-else-z-lt0
returns-else-z-lt0 c = rw (to_z-of_z w64 c.args.z c.ranges.z) (itself c.args.z (rw (to_z-of_z w64 c.args.z c.ranges.z) at c.if-z-lt0.false))
