-- What a request costs: the head's movement is paid beside the data. Document 02, request (a).
use Rattle.std.specs.Prelude.{ℕ, ◌+◌, Bool, cond, [], ◌∷◌, leb, ℤ, pos}
use Rattle.std.specs.Int.Signed.{le_z}
use Rattle.numbers.specs.Whole.{plus}
use Rattle.numbers.specs.Tests.{every}

-- The cost of a size, in tokens: up to 7 it is 8, from 8 to 63 size + 4, from 64 to 511 size + 8, above that size + 16. No
-- request has size 0.
unfoldable pub cost : ℕ → ℕ
cost size = cond (leb size 7) 8 (cond (leb size 63) (size + 4) (cond (leb size 511) (size + 8) (size + 16)))

-- Whether a request of a size may wait at a client of a depth: the size is at least 1, and its cost at most the depth.
unfoldable pub size_within : ℕ → ℤ → Bool
size_within depth size = every (le_z (pos 1) size ∷ leb (cost (plus size)) depth ∷ [])
