-- Tests together.
use Rattle.std.specs.Prelude.{Bool, true, ◌&&◌, List, [], ◌∷◌}

-- Whether every test of a list holds.
unfoldable pub every : List Bool → Bool
every [] = true
every (b ∷ bs) = b && every bs
