use Rattle.std.proofs.Common.{◌≡◌, ℕ, ℤ, ◌≤◌, ap, sym, ◌∙◌}
use native.Mathlib.Omega.{arith}
use borrow.Author.Tests.{leb-true, le-leb, lt-leb}
use lib.Dec.{leb}
use mir.Syntax.{w64}
use mir.ValLaws.{to_z-of_z}
use Rattle.numbers.specs.Whole.{plus, minus, within_ℤ}
use Rattle.numbers.proofs.Tests.{same_truth}
use Rattle.numbers.proofs.Parts.{zarith, gap_not_within}
use Rattle.numbers.proofs.within.Goals as goal

most : (low high : ℕ) (z : ℤ) → minus z ≤ 0 → low ≤ plus z → leb (plus z) high ≡ within_ℤ low high z
most low high z e h =
    same_truth _ _ (λ t. omega (arith, zarith, leb-true)) (λ t. omega (arith, zarith, le-leb))

pub returns-then-negative-gt0 : goal.returns-then-negative-gt0
returns-then-negative-gt0 c = sym (gap_not_within _ _ _ (omega (arith, ap minus (to_z-of_z w64 c.args.z c.ranges.z))))

pub returns-then-low-n : goal.returns-then-low-n
returns-then-low-n c =
    let n = rw (to_z-of_z w64 c.args.z c.ranges.z) at c.natural-n.ensures in
    let m = rw (to_z-of_z w64 c.args.z c.ranges.z) at c.negative.ensures in
    rw n (most _ _ _ (omega arith) (omega arith))

pub returns-else-low-n : goal.returns-else-low-n
returns-else-low-n c =
    let n = rw (to_z-of_z w64 c.args.z c.ranges.z) at c.natural-n.ensures in
    lt-leb _ _ c.if-low-n.false ∙ sym (gap_not_within _ _ _ (omega arith))
