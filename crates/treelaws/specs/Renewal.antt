-- What renewing below a class amounts to, and where it is the same as renewing everything. Document 02, (e).
use Rattle.std.specs.Prelude.{ℕ, ◌≤◌, ◌<◌, ◌≡◌, true, false, List, length, ℤ, pos}
use Rattle.definitions.specs.Limits.{header_length, record_length, nodes, rate_at, greatest_rate}
use Rattle.definitions.specs.Places.{place, header, rate}
use Rattle.definitions.specs.Tree.{tree_of, there}
use Rattle.definitions.specs.Rates.{child_rate, renewed}
use Rattle.definitions.specs.Renewal.{below, renewed_below}

-- Table u is t renewed below class c, whatever rates stand in t.
pub record RenewedBelow (t : List ℤ) (c : ℕ) (u : List ℤ) : Type 0 where
  -- A node below the class has the rate that its parent's rate in u gives it.
  pub children : (k : ℕ) → k < nodes → below (tree_of t) c k ≡ true → place u k rate_at ≡ pos (child_rate (tree_of t) (rate u ((tree_of t).parent k)) k)
  -- The class keeps its own rate, and so does every node that does not stand below it.
  pub own : place u c rate_at ≡ place t c rate_at
  pub outside : (k : ℕ) → below (tree_of t) c k ≡ false → place u k rate_at ≡ place t k rate_at
  -- Nothing else changes.
  pub others : (k p : ℕ) → p < record_length → (p ≡ rate_at → ⊥) → place u k p ≡ place t k p
  pub heading : (p : ℕ) → p < header_length → header u p ≡ header t p
  pub long : length u ≡ length t

-- Class c of table t can be renewed below, and that renews everything.
pub record RenewsAll (t : List ℤ) (c : ℕ) : Type 0 where
  pub low : c < nodes
  pub there : there (tree_of t) c ≡ true
  pub small : rate t c ≤ greatest_rate
  pub all : renewed_below t c ≡ renewed t
