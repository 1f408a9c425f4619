-- What the exported functions answer: one number for every outcome of a call.
use Rattle.std.specs.Prelude.{List, [], ◌∷◌, ℤ, pos, ◌-ℤ◌}
use Rattle.definitions.specs.Refusals.{Outcome, accepted, refused}

-- The value of an accepted call, 0 where it has none; the negated number of a refusal.
unfoldable pub exported : Outcome → ℤ
exported (accepted []) = pos 0
exported (accepted (value ∷ _)) = value
exported (refused number) = pos 0 -ℤ pos number

-- The number of a call that writes its values to a lent buffer: 0 where it is accepted.
unfoldable pub exported_bare : Outcome → ℤ
exported_bare (accepted _) = pos 0
exported_bare (refused number) = pos 0 -ℤ pos number

-- That buffer afterwards: the values of an accepted call, else the buffer as it came.
unfoldable pub shown : Outcome → List ℤ → List ℤ
shown (accepted values) _ = values
shown (refused _) old = old
