-- The joining node as natural numbers: what join's arguments make of it, and the join that it stands for.
use Rattle.std.specs.Prelude.{◌≤◌, ◌≡◌, true, false, List, length, ℤ, pos}
use Rattle.numbers.specs.Whole.{plus}
use Rattle.definitions.specs.Limits.{table_length, last_node, last_level, balance_at, class, client, stated, greatest_depth, greatest_rate, second_port}
use Rattle.definitions.specs.Places.{place}
use Rattle.definitions.specs.Tree.{tree_of, there, is_client}
use Rattle.definitions.specs.Order.{in_order}
use Rattle.treelaws.specs.Joins.{Join, limits_of}
use Rattle.admission.specs.declared.NewNode.{NewNode}

-- The arguments of a join.
abbrev pub asked : ℤ → ℤ → ℤ → ℤ → ℤ → ℤ → ℤ → Join
asked node parent sort kind share depth port =
    record { node = node; parent = parent; sort = sort; kind = kind; share = share; depth = depth; port = port }

-- A node has the natural parts of a join's arguments.
pub record Natural (n : NewNode) (j : Join) : Type 0 where
  pub node : n.node ≡ plus j.node
  pub parent : n.parent ≡ plus j.parent
  pub sort : n.sort ≡ plus j.sort
  pub kind : n.kind ≡ plus j.kind
  pub share : n.share ≡ plus j.share
  pub depth : n.depth ≡ plus j.depth
  pub port : n.port ≡ plus j.port

-- The join that asks for a node.
unfoldable pub join_of : NewNode → Join
join_of n = asked (pos n.node) (pos n.parent) (pos n.sort) (pos n.kind) (pos n.share) (pos n.depth) (pos n.port)

-- What the limits of join's arguments say of a node.
pub record Limited (n : NewNode) : Type 0 where
  pub node_least : 1 ≤ n.node
  pub node : n.node ≤ last_node
  pub parent : n.parent ≤ last_node
  pub sort_least : class ≤ n.sort
  pub sort : n.sort ≤ client
  pub kind : n.kind ≤ stated
  pub share : n.share ≤ greatest_rate
  pub depth : n.depth ≤ greatest_depth
  pub port : n.port ≤ second_port

-- A table and a node that the first two causes do not turn back.
pub record Judged (t : List ℤ) (n : NewNode) : Type 0 where
  pub order : in_order t ≡ true
  pub long : length t ≡ table_length
  pub within : limits_of (join_of n) ≡ true
  pub limits : Limited n

-- The same of the first five.
pub record Placeable (t : List ℤ) (n : NewNode) : Type 0 where
  pub judged : Judged t n
  pub unused : there (tree_of t) n.node ≡ false
  pub there : there (tree_of t) n.parent ≡ true
  pub no_client : is_client (tree_of t) n.parent ≡ false

-- A node whose record can be written with balance 0.
pub record Writable (t : List ℤ) (n : NewNode) : Type 0 where
  pub long : length t ≡ table_length
  pub limits : Limited n
  pub level : (tree_of t).level n.parent ≤ last_level
  pub balance : place t n.node balance_at ≡ pos 0
