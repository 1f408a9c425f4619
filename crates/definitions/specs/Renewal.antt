-- Document 02, (e). What join, leave and change share renew: the rates below the class that got, lost or changed a child,
-- worked out from the class's own rate as it stands in the table. Change rate renews below the root.
use Rattle.std.specs.Prelude.{ℕ, ◌-◌, Bool, not, cond, List, [], ◌∷◌, eqb, ℤ, pos}
use Rattle.numbers.specs.Tests.{every}
use Rattle.numbers.specs.Below.{for_below}
use Rattle.definitions.specs.Limits.{nodes, rate_at}
use Rattle.definitions.specs.Places.{put, rate}
use Rattle.definitions.specs.Tree.{Tree, tree_of, there, at_or_above}
use Rattle.definitions.specs.Rates.{rate_at_level}

-- Whether node k is there and stands below class c.
unfoldable pub below : Tree → ℕ → ℕ → Bool
below tree c k = every (there tree k ∷ not (eqb k c) ∷ at_or_above tree k c ∷ [])

-- The rate of node k below class c, where the class has the rate class_rate: that of "Rates", with the class for the root.
unfoldable pub rate_below : Tree → ℕ → ℕ → ℕ → ℕ
rate_below tree c class_rate k = rate_at_level tree class_rate (tree.level k - tree.level c) k

-- The table with the rate of each node below class c renewed, and nothing else.
unfoldable pub renewed_below : List ℤ → ℕ → List ℤ
renewed_below t c =
    for_below nodes (λ k u. cond (below (tree_of t) c k) (put u k rate_at (pos (rate_below (tree_of t) c (rate t c) k))) u) t
