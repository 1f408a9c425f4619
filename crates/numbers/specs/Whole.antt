-- A whole number by its two natural parts: z = plus z - minus z, and one of them is 0.
use Rattle.std.specs.Prelude.{ℕ, suc, Bool, false, ◌&&◌, eqb, leb, ℤ, pos, negsuc}

-- The natural part: n for n, and 0 for a negative number.
unfoldable pub plus : ℤ → ℕ
plus (pos n) = n
plus (negsuc n) = 0

-- The negative part: 0 for n, and n for -n.
unfoldable pub minus : ℤ → ℕ
minus (pos n) = 0
minus (negsuc n) = suc n

-- Whether two whole numbers are the same.
unfoldable pub same_ℤ : ℤ → ℤ → Bool
same_ℤ (pos m) (pos n) = eqb m n
same_ℤ (pos m) (negsuc n) = false
same_ℤ (negsuc m) (pos n) = false
same_ℤ (negsuc m) (negsuc n) = eqb m n

-- Whether a whole number lies between two naturals, both included.
unfoldable pub within_ℤ : ℕ → ℕ → ℤ → Bool
within_ℤ low high (pos n) = leb low n && leb n high
within_ℤ low high (negsuc n) = false
