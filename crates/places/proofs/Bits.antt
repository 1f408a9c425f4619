-- The bits of two numbers joined by `|` are zero just where both are.
use Prim.Native.Nat.{ℕ}
use mathlib.Core.Path.{◌≡◌, sym, ap, ◌∙◌}
use mathlib.Core.Bool.{Bool, ◌&&◌}
use native.Mathlib.Omega.{arith}
use borrow.Author.Tests.{eqb-true, eq-eqb}
use borrow.Author.Rules.{rules}
use lib.Bits.{bit_or, or_add_and, and_le_l, and_le_r, or_lt}
use lib.Dec.{eqb}
use lib.IntN.{ℤ, pos}
use mir.Syntax.{w64}
use mir.Val.{SFits, Fits, bits, of_z, to_z}
use mir.ValLaws.{to_z-Fits, of_z-to_z, of_z_fits}
use Rattle.numbers.proofs.Tests.{same_truth, and_true, and_left, and_right}
use Rattle.numbers.proofs.Parts.{bits_same}
use Rattle.definitions.specs.Order.{is_zero}

or_zero : (x y : ℕ) → eqb (bit_or x y) 0 ≡ (eqb x 0 && eqb y 0)
or_zero x y =
    same_truth (eqb (bit_or x y) 0) (eqb x 0 && eqb y 0)
    (λ h.
    let none : bit_or x y ≡ 0 = eqb-true (bit_or x y) 0 h in
    and_true (eqb x 0) (eqb y 0)
    (eq-eqb x 0 (omega (arith, none, or_add_and x y, and_le_r x y)))
    (eq-eqb y 0 (omega (arith, none, or_add_and x y, and_le_l x y))))
    (λ h.
    eq-eqb (bit_or x y) 0
    (omega (arith, or_add_and x y, eqb-true x 0 (and_left (eqb x 0) (eqb y 0) h), eqb-true y 0 (and_right (eqb x 0) (eqb y 0) h))))

zero_bits : (z : ℤ) → SFits w64 z → is_zero z ≡ eqb (of_z w64 z) 0
unfolding is_zero
zero_bits z h = sym (bits_same w64 z (pos 0) h (search rules))

pub either_zero : (a b : ℤ) → SFits w64 a → SFits w64 b → is_zero (to_z w64 (bit_or (of_z w64 a) (of_z w64 b))) ≡ (is_zero a && is_zero b)
either_zero a b ha hb =
    let x = of_z w64 a in
    let y = of_z w64 b in
    let small : Fits w64 (bit_or x y) = record { fits = or_lt (bits w64) x y (of_z_fits w64 a ha).fits (of_z_fits w64 b hb).fits } in
    zero_bits (to_z w64 (bit_or x y)) (to_z-Fits w64 (bit_or x y) small)
    ∙ ap (λ (n : ℕ). eqb n 0) (of_z-to_z w64 (bit_or x y) small)
    ∙ or_zero x y
    ∙ sym (ap (λ (t : Bool). t && is_zero b) (zero_bits a ha) ∙ ap (λ (t : Bool). eqb x 0 && t) (zero_bits b hb))
