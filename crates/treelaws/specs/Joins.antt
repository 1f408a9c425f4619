-- Joins in turn: the arguments of a join, the table after a list of joins, and that all of them are accepted.
use Rattle.std.specs.Prelude.{ℕ, ◌≡◌, Bool, List, [], ◌∷◌, ℤ}
use Rattle.numbers.specs.Whole.{plus}
use Rattle.definitions.specs.Calls.{joined, join_limits, join_refusal, join_table}

-- The arguments of a join, any whole numbers.
pub record Join : Type 0 where
  pub node : ℤ
  pub parent : ℤ
  pub sort : ℤ
  pub kind : ℤ
  pub share : ℤ
  pub depth : ℤ
  pub port : ℤ

-- Whether they are within their limits.
unfoldable pub limits_of : Join → Bool
limits_of j = join_limits j.node j.parent j.sort j.kind j.share j.depth j.port

-- The refusal of join j at table t, and the table after it.
unfoldable pub refusal_of : List ℤ → Join → ℕ
refusal_of t j = join_refusal t j.node j.parent j.sort j.kind j.share j.depth j.port

unfoldable pub after_join : List ℤ → Join → List ℤ
after_join t j = join_table t j.node j.parent j.sort j.kind j.share j.depth j.port

-- The table with the record of join j written, its rates not yet renewed.
unfoldable pub joined_by : List ℤ → Join → List ℤ
joined_by t j = joined t (plus j.node) (plus j.parent) j.sort j.kind j.share j.depth j.port

-- The table after the joins of a list in turn.
unfoldable pub after_joins : List ℤ → List Join → List ℤ
after_joins t [] = t
after_joins t (j ∷ joins) = after_joins (after_join t j) joins

-- Each of them is accepted in its turn.
pub data AllAccepted : List ℤ → List Join → Type 0 where
  none : {t : List ℤ} → AllAccepted t []
  next : {t : List ℤ} {j : Join} {joins : List Join} → refusal_of t j ≡ 0 → AllAccepted (after_join t j) joins → AllAccepted t (j ∷ joins)
