-- The tree that a table shows: its sorts, parents, levels, share kinds, shares and depths, by node number.
use Rattle.std.specs.Prelude.{ℕ, zero, suc, Bool, true, false, not, ◌||◌, List, [], ◌∷◌, eqb, ℤ}
use Rattle.numbers.specs.Whole.{plus}
use Rattle.numbers.specs.Tests.{every}
use Rattle.numbers.specs.Below.{sum_below, all_below}
use Rattle.definitions.specs.Limits.{nodes, root, unused, class, client, fixed, stated, sort_at, parent_at, level_at, kind_at, share_at, depth_at}
use Rattle.definitions.specs.Places.{place}

pub record Tree : Type 0 where
  pub sort : ℕ → ℕ
  pub parent : ℕ → ℕ
  pub level : ℕ → ℕ
  pub kind : ℕ → ℕ
  pub share : ℕ → ℕ
  pub depth : ℕ → ℕ

unfoldable pub tree_of : List ℤ → Tree
tree_of t =
    record {
      sort = λ k. plus (place t k sort_at);
      parent = λ k. plus (place t k parent_at);
      level = λ k. plus (place t k level_at);
      kind = λ k. plus (place t k kind_at);
      share = λ k. plus (place t k share_at);
      depth = λ k. plus (place t k depth_at);
    }

-- Whether node k is there.
unfoldable pub there : Tree → ℕ → Bool
there tree k = not (eqb (tree.sort k) unused)

unfoldable pub is_class : Tree → ℕ → Bool
is_class tree k = eqb (tree.sort k) class

unfoldable pub is_client : Tree → ℕ → Bool
is_client tree k = eqb (tree.sort k) client

-- Whether the share of node k is fixed, and whether it is stated; else it is weighted.
unfoldable pub is_fixed : Tree → ℕ → Bool
is_fixed tree k = eqb (tree.kind k) fixed

unfoldable pub is_stated : Tree → ℕ → Bool
is_stated tree k = eqb (tree.kind k) stated

-- Whether node k is a child of class c. The root is its own parent and nobody's child.
unfoldable pub child_of : Tree → ℕ → ℕ → Bool
child_of tree c k = every (there tree k ∷ not (eqb k root) ∷ eqb (tree.parent k) c ∷ [])

-- f k where the test holds, else 0; p k where the test holds, else true.
unfoldable pub count_if : Bool → (ℕ → ℕ) → ℕ → ℕ
count_if true f k = f k
count_if false f k = 0

unfoldable pub test_if : Bool → (ℕ → Bool) → ℕ → Bool
test_if true p k = p k
test_if false p k = true

-- The sum of f over the children of class c.
unfoldable pub sum_under : Tree → ℕ → (ℕ → ℕ) → ℕ
sum_under tree c f = sum_below nodes (λ k. count_if (child_of tree c k) f k)

-- Whether p holds of each node that is there, of each class, of each client.
unfoldable pub each_node : Tree → (ℕ → Bool) → Bool
each_node tree p = all_below nodes (λ k. test_if (there tree k) p k)

unfoldable pub each_class : Tree → (ℕ → Bool) → Bool
each_class tree p = all_below nodes (λ k. test_if (is_class tree k) p k)

unfoldable pub each_client : Tree → (ℕ → Bool) → Bool
each_client tree p = all_below nodes (λ k. test_if (is_client tree k) p k)

-- Whether class c has no children.
unfoldable pub childless : Tree → ℕ → Bool
childless tree c = all_below nodes (λ k. not (child_of tree c k))

-- Whether node j stands on the way from node k, at level l, up to the root, both included.
unfoldable pub on_way : Tree → ℕ → ℕ → ℕ → Bool
on_way tree zero k j = eqb j k
on_way tree (suc l) k j = eqb j k || on_way tree l (tree.parent k) j

-- Whether node j is node k or stands above it.
unfoldable pub at_or_above : Tree → ℕ → ℕ → Bool
at_or_above tree k j = on_way tree (tree.level k) k j

-- The node so many steps above node k: 0 steps above is k itself.
unfoldable pub node_above : Tree → ℕ → ℕ → ℕ
node_above tree zero k = k
node_above tree (suc n) k = node_above tree n (tree.parent k)
