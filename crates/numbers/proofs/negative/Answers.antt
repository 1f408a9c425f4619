use Rattle.std.proofs.Common.{◌≡◌, refl, ◌∙◌, ℤ, pos, negsuc, true, false}
use native.Mathlib.Omega.{arith}
use borrow.Author.Tests.{ltb-true}
use lib.IntN.{nat_abs}
use lib.Signed.{lt_z}
use mir.Syntax.{w64}
use mir.ValLaws.{to_z-of_z}
use Rattle.numbers.specs.Whole.{minus}
use Rattle.numbers.proofs.negative.Goals as goal

size : (z : ℤ) → lt_z z (pos 0) ≡ true → nat_abs z ≡ minus z
unfolding minus
size (pos n) h = absurd (omega (arith, ltb-true n 0 h))
size (negsuc n) h = refl

none : (z : ℤ) → lt_z z (pos 0) ≡ false → 0 ≡ minus z
unfolding minus
none (pos n) h = refl
none (negsuc n) h = cc

pub returns-then-z-lt0 : goal.returns-then-z-lt0
returns-then-z-lt0 c = rw (to_z-of_z w64 c.args.z c.ranges.z) at c.unsigned_abs.ensures.value ∙ size c.args.z (rw (to_z-of_z w64 c.args.z c.ranges.z) at c.if-z-lt0.true)

pub returns-else-z-lt0 : goal.returns-else-z-lt0
returns-else-z-lt0 c = none c.args.z (rw (to_z-of_z w64 c.args.z c.ranges.z) at c.if-z-lt0.false)
