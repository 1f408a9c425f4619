use Rattle.std.proofs.Common.{ℕ, ◌+◌, ◌^◌, ◌<◌, ℤ, pos, ◌+ℤ◌, FitsSigned}
use native.Mathlib.Omega.{arith}
use mir.Syntax.{w64}
use mir.ValLaws.{to_z-of_z, to_z_pos}
use Rattle.numbers.specs.Whole.{plus, minus}
use Rattle.numbers.proofs.Parts.{one_is_zero, add_parts, fits_parts, parts_fit}
use Rattle.numbers.proofs.raised.Goals as goal

fits : (z : ℤ) (by : ℕ) → FitsSigned w64 z → (plus z + by < 2 ^ 63) × (by < 2 ^ 63) → FitsSigned w64 (z +ℤ pos by)
unfolding plus minus
fits z by f h =
    fits_parts (z +ℤ pos by)
    (omega (arith, one_is_zero (z +ℤ pos by), add_parts z (pos by), parts_fit z f))
    (omega (arith, one_is_zero (z +ℤ pos by), add_parts z (pos by), parts_fit z f))

pub overflow_add-result : goal.overflow_add-result
overflow_add-result c =
    rw (to_z-of_z w64 c.args.z c.ranges.z, to_z_pos w64 c.args.by c.requires.1) (fits c.args.z c.args.by c.ranges.z c.requires)

pub returns : goal.returns
returns c =
    rw (to_z-of_z w64 c.args.z c.ranges.z, to_z_pos w64 c.args.by c.requires.1, to_z-of_z w64 _ (fits c.args.z c.args.by c.ranges.z c.requires))
