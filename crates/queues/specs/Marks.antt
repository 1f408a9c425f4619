-- Marks of arrival numbers. Equal numbers have one mark, so a number whose mark is not set differs from all whose marks are set.
use Rattle.std.specs.Prelude.{ℕ, ◌%◌, ◌<◌, ◌≡◌, Bool, true, false, List, length, get_or, ℤ}
use Rattle.definitions.specs.Places.{waiting, arrival}

-- How many marks there are: a prime, so that numbers in equal steps have different marks.
abbrev pub marks : ℕ
marks = 4093

-- The mark of arrival number a.
unfoldable pub mark_of : ℕ → ℕ
mark_of a = a % marks

-- The marks of the first n requests of node j are set.
unfoldable pub Marked : List ℤ → List Bool → ℕ → ℕ → Type 0
Marked t marked j n = (i : ℕ) → i < n → get_or marked (mark_of (arrival t j i)) false ≡ true

-- The marks of all requests that wait at nodes below k are set.
pub record MarkedBelow (t : List ℤ) (marked : List Bool) (k : ℕ) : Type 0 where
  pub long : length marked ≡ marks
  pub set : (j : ℕ) → j < k → Marked t marked j (waiting t j)
