-- Bytes written into a buffer.
use Rattle.std.specs.Prelude.{ℕ, ◌+◌, List, ◌++◌, length, take, drop}

-- The buffer b with the bytes u from place a on, and all others as they were.
unfoldable pub written : List ℕ → ℕ → List ℕ → List ℕ
written b a u = take a b ++ (u ++ drop (a + length u) b)
