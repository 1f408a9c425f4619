-- The division that gives a child its rate.
use Rattle.std.specs.Prelude.{ℕ, ◌*◌, ◌/◌, ◌≤◌, ◌<◌, ◌≡◌, true, List, length, ℤ}
use Rattle.definitions.specs.Limits.{table_length, nodes, whole_share, greatest_rate}
use Rattle.definitions.specs.Tree.{Tree, tree_of, there}
use Rattle.definitions.specs.Rates.{fixed_sum, weight_sum, stated_sum, child_rate}
use Rattle.dividing.specs.declared.Division.{Division}
use Rattle.sums.specs.declared.UnderClass.{UnderClass}
use Rattle.sums.specs.Rated.{Placed}

-- Node k of a table is a child of a class that has the rate r and these sums of shares under it, of which the weights are at
-- most 64 x 10,000.
pub record Divided (t : List ℤ) (k r : ℕ) (sums : UnderClass) : Type 0 where
  pub long : length t ≡ table_length
  pub not_root : 0 < k
  pub low : k < nodes
  pub here : there (tree_of t) k ≡ true
  pub placed : Placed (tree_of t) k
  pub small : r ≤ greatest_rate
  pub fixed : sums.fixed ≡ fixed_sum (tree_of t) ((tree_of t).parent k)
  pub weights : sums.weights ≡ weight_sum (tree_of t) ((tree_of t).parent k)
  pub stated : sums.stated ≡ stated_sum (tree_of t) ((tree_of t).parent k)
  pub few : sums.weights ≤ nodes * whole_share

-- A division gives child k its rate, where its class has the rate r.
pub record Divides (tree : Tree) (r k : ℕ) (by : Division) : Type 0 where
  pub rate : child_rate tree r k ≡ by.whole * tree.share k / by.parts
  pub small : by.whole ≤ greatest_rate
  pub some : 0 < by.parts
  pub few : by.parts ≤ nodes * whole_share
