-- The first ten draws from seed 1, as docs/MANUAL.md has them.
use Rattle.std.proofs.Common.{◌≡◌, [], ◌∷◌, refl}
use Rattle.draws.specs.Draws.{next_state, state_after, upper, draw}

pub ten_draws : draw 1 1 ∷ draw 2 1 ∷ draw 3 1 ∷ draw 4 1 ∷ draw 5 1 ∷ draw 6 1 ∷ draw 7 1 ∷ draw 8 1 ∷ draw 9 1 ∷ draw 10 1 ∷ [] ≡ 15496 ∷ 24200 ∷ 33046 ∷ 46195 ∷ 3312 ∷ 24216 ∷ 50774 ∷ 36450 ∷ 1080 ∷ 41893 ∷ []
unfolding draw upper state_after next_state
ten_draws = refl
