-- What the search for a supplier and step 4's choice amount to, in any table. Document 02, (c).
use Rattle.std.specs.Prelude.{ℕ, ◌≤◌, ◌<◌, ◌≡◌, true, false, List, ℤ}
use Rattle.definitions.specs.Limits.{nodes}
use Rattle.definitions.specs.Places.{waiting, size, arrival}
use Rattle.definitions.specs.Tree.{tree_of, node_above}
use Rattle.definitions.specs.Tick.{grains, enough, supplier, steps_above, supplied}

-- The oldest request of client k has a supplier: the first node with enough balance on the way up, so many steps above it.
pub record HasSupplier (t : List ℤ) (k : ℕ) : Type 0 where
  pub waits : 0 < waiting t k
  pub within : steps_above t k ≤ (tree_of t).level k
  pub node : supplier t k ≡ node_above (tree_of t) (steps_above t k) k
  pub first : (n : ℕ) → n < steps_above t k → enough t (grains (size t k 0)) (node_above (tree_of t) n k) ≡ false
  pub enough : enough t (grains (size t k 0)) (supplier t k) ≡ true

-- Client k's oldest request goes next: it has a supplier; no other client's oldest request that has one has fewer steps, and
-- none with as many steps has a lower arrival number.
pub record GoesNext (t : List ℤ) (k : ℕ) : Type 0 where
  pub low : k < nodes
  pub has : HasSupplier t k
  pub fewest : (j : ℕ) → j < nodes → supplied t j ≡ true → steps_above t k ≤ steps_above t j
  pub lowest : (j : ℕ) → j < nodes → supplied t j ≡ true → steps_above t j ≡ steps_above t k → arrival t k 0 ≤ arrival t j 0

-- Client k is one of those seen in n looks, where look i is at client order i.
pub record SeenIn (n : ℕ) (order : ℕ → ℕ) (k : ℕ) : Type 0 where
  pub look : ℕ
  pub early : look < n
  pub here : order look ≡ k
