-- How many grains a class of a table in order loses, and that a panel adds up over the whole tree. Document 02, (b) and (f).
use Rattle.std.specs.Prelude.{ℕ, ◌+◌, ◌<◌, ◌≡◌, true, cond, List, ℤ, pos, ◌+ℤ◌}
use Rattle.std.specs.Int.Signed.{le_z, lt_z}
use Rattle.numbers.specs.Below.{sum_below, sum_ℤ_below}
use Rattle.definitions.specs.Limits.{nodes, root, rate_at, weighted, whole_share}
use Rattle.definitions.specs.Places.{place, rate}
use Rattle.definitions.specs.Tree.{Tree, tree_of, is_client, is_stated, child_of, childless, count_if, sum_under}
use Rattle.definitions.specs.Rates.{fixed_sum, stated_sum, left_rate, unstated_rate}
use Rattle.definitions.specs.Calls.{lost_grains}

-- The number of class c's fixed and weighted children.
unfoldable pub divided_count : Tree → ℕ → ℕ
divided_count tree c = sum_under tree c (λ k. cond (is_stated tree k) 0 1)

-- What the stated rates leave of class c's rate, and what the fixed shares leave of that.
unfoldable pub unstated_of : List ℤ → ℕ → ℕ
unstated_of t c = unstated_rate (rate t c) (stated_sum (tree_of t) c)

unfoldable pub left_of : List ℤ → ℕ → ℕ
left_of t c = left_rate (unstated_of t c) (fixed_sum (tree_of t) c)

-- No child of class c is weighted.
unfoldable pub NoneWeighted : Tree → ℕ → Type 0
NoneWeighted tree c = (k : ℕ) → k < nodes → child_of tree c k ≡ true → tree.kind k ≡ weighted → ⊥

-- Every child of class c is stated.
unfoldable pub AllStated : Tree → ℕ → Type 0
AllStated tree c = (k : ℕ) → k < nodes → child_of tree c k ≡ true → is_stated tree k ≡ true

-- How many grains class c loses.
pub record Lost (t : List ℤ) (c : ℕ) : Type 0 where
  -- Where a child is weighted, whatever stands beside it, fewer grains are lost than there are fixed and weighted children; so
  -- too where the fixed shares are 10,000 together.
  pub weighted : (k : ℕ) → k < nodes → child_of (tree_of t) c k ≡ true → (tree_of t).kind k ≡ weighted → lt_z (lost_grains t c) (pos (divided_count (tree_of t) c)) ≡ true
  pub full : fixed_sum (tree_of t) c ≡ whole_share → lt_z (lost_grains t c) (pos (divided_count (tree_of t) c)) ≡ true
  -- Where none is weighted, what the fixed shares leave is lost, and at most a grain more for each fixed child.
  pub least : NoneWeighted (tree_of t) c → le_z (pos (left_of t c)) (lost_grains t c) ≡ true
  pub most : NoneWeighted (tree_of t) c → le_z (lost_grains t c) (pos (left_of t c + divided_count (tree_of t) c)) ≡ true
  -- So a class with stated children only loses its rate less theirs.
  pub stated : AllStated (tree_of t) c → lost_grains t c ≡ pos (unstated_of t c)
  -- So a class without children loses its whole rate.
  pub whole : childless (tree_of t) c ≡ true → lost_grains t c ≡ place t c rate_at

-- The rates of all clients and the lost grains of all classes make up the disk's rate. (Other nodes lose none.)
unfoldable pub WholeDisk : List ℤ → Type 0
WholeDisk t = place t root rate_at ≡ pos (sum_below nodes (λ k. count_if (is_client (tree_of t) k) (rate t) k)) +ℤ sum_ℤ_below nodes (lost_grains t)
