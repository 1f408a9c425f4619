-- What is known of a table and its nodes where its plan is written.
use Rattle.std.specs.Prelude.{ℕ, ◌<◌, ◌≡◌, true, List, length, take, ℤ}
use Rattle.definitions.specs.Limits.{nodes}
use Rattle.definitions.specs.Tree.{tree_of, there}
use Rattle.definitions.specs.Order.{in_order}
use Rattle.planlaws.specs.Writing.{order}

-- Table t is in order, and its node k is there.
pub record Standing (t : List ℤ) (k : ℕ) : Type 0 where
  pub ordered : in_order t ≡ true
  pub small : k < nodes
  pub here : there (tree_of t) k ≡ true

-- Table t is in order, and the first n of these numbers are the nodes of its plan, in order.
pub record Listed (t : List ℤ) (numbers : List ℕ) (n : ℕ) : Type 0 where
  pub ordered : in_order t ≡ true
  pub members : take n numbers ≡ order (tree_of t)
  pub count : n ≡ length (order (tree_of t))
