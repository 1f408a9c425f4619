-- Bytes, and the unsigned integers that they make, low byte first. A byte slice is a list of naturals, each below 256.
use Rattle.std.specs.Prelude.{ℕ, zero, suc, ◌+◌, ◌*◌, ◌/◌, ◌%◌, List, [], ◌∷◌, ◌++◌, get_or}

-- How many values a byte has, two bytes have, and four bytes have.
abbrev pub byte_values : ℕ
byte_values = 256

abbrev pub pair_values : ℕ
pair_values = 65536

abbrev pub four_values : ℕ
four_values = 4294967296

-- The byte at place i, and 0 beyond the end.
unfoldable pub byte_at : List ℕ → ℕ → ℕ
byte_at s i = get_or s i 0

-- The integer of the two bytes, and of the four bytes, from place i on.
unfoldable pub le2 : List ℕ → ℕ → ℕ
le2 s i = byte_at s i + byte_values * byte_at s (i + 1)

unfoldable pub le4 : List ℕ → ℕ → ℕ
le4 s i = le2 s i + pair_values * le2 s (i + 2)

-- An integer as two bytes, and as four.
unfoldable pub bytes2 : ℕ → List ℕ
bytes2 n = n % byte_values ∷ n / byte_values % byte_values ∷ []

unfoldable pub bytes4 : ℕ → List ℕ
bytes4 n = bytes2 n ++ bytes2 (n / pair_values)

-- f 0, f 1, .. f (n - 1), one behind the other.
unfoldable pub bytes_below : ℕ → (ℕ → List ℕ) → List ℕ
bytes_below zero f = []
bytes_below (suc n) f = bytes_below n f ++ f n
