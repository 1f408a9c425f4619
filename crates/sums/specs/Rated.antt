-- What a table must satisfy for the rates below class c to be worked out. It speaks of the tree, and of no rate but the
-- class's own; nor of balances and requests.
use Rattle.std.specs.Prelude.{ℕ, suc, ◌≤◌, ◌<◌, ◌≡◌, true, List, length, ℤ}
use Rattle.definitions.specs.Limits.{table_length, nodes, root, stated, last_level, whole_share, greatest_rate, share_limit}
use Rattle.definitions.specs.Places.{rate}
use Rattle.definitions.specs.Tree.{Tree, tree_of, there, is_class}
use Rattle.definitions.specs.Rates.{fixed_sum}

-- Node k, not the root: its parent is a class one level above it, its level, kind and share are in their limits, and the fixed
-- shares under its parent sum to at most 10,000.
pub record Placed (tree : Tree) (k : ℕ) : Type 0 where
  pub parent : tree.parent k < nodes
  pub class : is_class tree (tree.parent k) ≡ true
  pub level : tree.level k ≡ suc (tree.level (tree.parent k))
  pub deep : tree.level k ≤ last_level
  pub kind : tree.kind k ≤ stated
  pub least : 1 ≤ tree.share k
  pub most : tree.share k ≤ share_limit (tree.kind k)
  pub shares : fixed_sum tree (tree.parent k) ≤ whole_share

pub record Rated (t : List ℤ) (c : ℕ) : Type 0 where
  pub long : length t ≡ table_length
  pub top : (tree_of t).level root ≡ 0
  pub node : (k : ℕ) → k < nodes → there (tree_of t) k ≡ true → (k ≡ root → ⊥) → Placed (tree_of t) k
  pub low : c < nodes
  pub here : there (tree_of t) c ≡ true
  pub own : rate t c ≤ greatest_rate
