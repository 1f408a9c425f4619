-- A balance is below 0 exactly when its negative part is not 0.
use Prim.Native.Nat.{suc}
use mathlib.Core.Path.{◌≡◌, sym}
use native.Mathlib.Omega.{arith}
use borrow.Author.Tests.{lt-ltb}
use lib.Dec.{ltb, leb-suc-zero}
use lib.IntN.{ℤ, pos, negsuc}
use lib.Signed.{lt_z}
use Rattle.numbers.specs.Whole.{minus}

pub below_zero : (z : ℤ) → ltb 0 (minus z) ≡ lt_z z (pos 0)
unfolding minus
below_zero (pos n) = sym (leb-suc-zero n)
below_zero (negsuc n) = lt-ltb 0 (suc n) (omega arith)
