-- How far the renewal below a class has come. It goes by level, and at one level by number: the turn of node k at level l is
-- l x 64 + k.
use Rattle.std.specs.Prelude.{ℕ, ◌+◌, ◌*◌, ◌≤◌, ◌<◌, ◌≡◌, Bool, true, false, List, [], ◌∷◌, length, get_or, eqb, ℤ, pos}
use Rattle.numbers.specs.Tests.{every}
use Rattle.definitions.specs.Limits.{nodes, rate_at}
use Rattle.definitions.specs.Places.{place, rate}
use Rattle.definitions.specs.Tree.{Tree, tree_of, there}
use Rattle.definitions.specs.Renewal.{below, rate_below, renewed_below}
use Rattle.sums.specs.Rated.{Rated}

-- Whether node k is there at level l.
unfoldable pub at_level : Tree → ℕ → ℕ → Bool
at_level tree l k = every (there tree k ∷ eqb (tree.level k) l ∷ [])

abbrev pub turn : Tree → ℕ → ℕ
turn tree k = tree.level k * nodes + k

-- The nodes below class c whose turn was before m have their rates, and they alone are marked.
pub record Descent (t : List ℤ) (c m : ℕ) (marks : List Bool) : Type 0 where
  pub rated : Rated t c
  pub wide : length marks ≡ nodes
  pub right : (k : ℕ) → k < nodes → below (tree_of t) c k ≡ true → turn (tree_of t) k < m → place t k rate_at ≡ pos (rate_below (tree_of t) c (rate t c) k)
  pub marked : (k : ℕ) → k < nodes → turn (tree_of t) k < m → get_or marks k false ≡ below (tree_of t) c k
  pub unmarked : (k : ℕ) → k < nodes → m ≤ turn (tree_of t) k → get_or marks k false ≡ false

-- Table u has come so far from table t, whose renewal it does not change.
pub record Onward (t u : List ℤ) (c m : ℕ) (marks : List Bool) : Type 0 where
  pub descent : Descent u c m marks
  pub tree : tree_of u ≡ tree_of t
  pub renewal : renewed_below u c ≡ renewed_below t c
