-- What set minute writes keeps the table's length.
use Prim.Native.Nat.{ℕ}
use mathlib.Core.Path.{◌≡◌, ◌∙◌}
use mathlib.Core.List.{List}
use lib.ListN.{length}
use lib.IntN.{ℤ}
use Rattle.definitions.specs.Calls.{reshared}
use Rattle.definitions.proofs.Places.{length_put}

pub length_reshared : (t : List ℤ) (k : ℕ) (kind share : ℤ) → length (reshared t k kind share) ≡ length t
unfolding reshared
length_reshared t k kind share = length_put _ _ _ _ ∙ length_put _ _ _ _
