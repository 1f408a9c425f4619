-- What is turned back. Document 01: the first cause in rising order counts, and nothing else is refused.
use Rattle.std.specs.Prelude.{ℕ, Bool, cond, List, [], ◌∷◌, eqb, ℤ}

-- The greatest number of a cause.
abbrev pub last_refusal : ℕ
last_refusal = 17

-- A cause: its number, and whether it is there.
pub data Cause : Type 0 where
  cause : ℕ → Bool → Cause

-- The number of the first cause that is there, and 0 where none is.
unfoldable pub first : List Cause → ℕ
first [] = 0
first (cause n b ∷ causes) = cond b n (first causes)

-- What a call answers: accepted with its values, or refused with a number only.
pub data Outcome : Type 0 where
  accepted : List ℤ → Outcome
  refused : ℕ → Outcome

unfoldable pub outcome : ℕ → List ℤ → Outcome
outcome refusal values = cond (eqb refusal 0) (accepted values) (refused refusal)

-- The number of the refusal in what a call tells, and 0 where it is accepted.
unfoldable pub number_told : Outcome → ℕ
number_told (accepted values) = 0
number_told (refused number) = number

-- What a call leaves: the new contents where it is accepted, else the contents as they came.
unfoldable pub kept : ℕ → List ℤ → List ℤ → List ℤ
kept refusal new old = cond (eqb refusal 0) new old
