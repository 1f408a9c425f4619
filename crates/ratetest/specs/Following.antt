-- The test of rates: each against its class's as it stands in the table. That a table whose rates all pass has the rates of
-- document 01 is a law (ratetest/proofs/Following.antt).
use Rattle.std.specs.Prelude.{ℕ, ◌<◌, ◌≡◌, Bool, true, ◌||◌, List, eqb, ℤ}
use Rattle.numbers.specs.Whole.{within_ℤ}
use Rattle.definitions.specs.Limits.{nodes, root, rate_at, greatest_rate}
use Rattle.definitions.specs.Places.{place, rate}
use Rattle.definitions.specs.Tree.{tree_of, there}
use Rattle.definitions.specs.Rates.{child_rate}
use Rattle.definitions.specs.Order.{limits_kept}
use Rattle.sums.specs.Rated.{Rated}

-- Whether the rate of node k is the one that its class's rate, as it stands, gives it. The root has no class.
unfoldable pub rate_follows : List ℤ → ℕ → Bool
rate_follows t k = eqb k root || eqb (rate t k) (child_rate (tree_of t) (rate t ((tree_of t).parent k)) k)

-- A table whose rates can be tested: it is rated, and the places of every node are in their limits, its rate too.
pub record Testable (t : List ℤ) : Type 0 where
  pub rated : Rated t root
  pub limits : (k : ℕ) → k < nodes → there (tree_of t) k ≡ true → limits_kept t k ≡ true
  pub within : (k : ℕ) → k < nodes → there (tree_of t) k ≡ true → within_ℤ 0 greatest_rate (place t k rate_at) ≡ true
