-- When a table is in order, clause by clause. Document 01, "The table", and document 02, (f) and (g).
use Rattle.std.specs.Prelude.{ℕ, suc, ◌+◌, ◌*◌, ◌-◌, Bool, not, cond, ◌||◌, List, [], ◌∷◌, length, eqb, leb, ltb, ℤ, pos, ◌+ℤ◌}
use Rattle.std.specs.Int.Signed.{le_z}
use Rattle.numbers.specs.Whole.{plus, same_ℤ, within_ℤ}
use Rattle.numbers.specs.Tests.{every}
use Rattle.numbers.specs.Below.{all_below, sum_ℤ_below}
use Rattle.definitions.specs.Limits.{table_length, header_length, record_length, nodes, last_node, sort_at, parent_at, level_at, kind_at, share_at, depth_at, rate_at, waiting_at, port_at, spare_at, spare_length, queue_at, queue_length, request_length, size_at, arrival_at, class, client, fixed, stated, root, last_class_level, last_level, whole_share, greatest_depth, greatest_rate, share_limit, port_limit, greatest_count, most_waiting}
use Rattle.definitions.specs.Places.{place, header, count, rate, balance, waiting, depth_grains, queue_place, arrival}
use Rattle.definitions.specs.Tree.{Tree, tree_of, there, is_class, is_stated, child_of, sum_under, each_node, each_class, each_client, test_if}
use Rattle.definitions.specs.Rates.{fixed_sum, stated_sum, rate_in}
use Rattle.definitions.specs.Cost.{size_within}

unfoldable pub is_zero : ℤ → Bool
is_zero z = same_ℤ z (pos 0)

-- The count of accepted requests is 0 to 9 x 10^18; places 1 to 7 of the header are zero.
unfoldable pub header_in_order : List ℤ → Bool
header_in_order t = every (within_ℤ 0 greatest_count (header t 0) ∷ all_below (header_length - 1) (λ p. is_zero (header t (suc p))) ∷ [])

-- Every record whose sort is not 1 or more is zero throughout.
unfoldable pub unused_in_order : List ℤ → Bool
unused_in_order t = all_below nodes (λ k. test_if (not (there (tree_of t) k)) (λ k. all_below record_length (λ p. is_zero (place t k p))) k)

-- The limits of node k's places. A client's port is 0 or 1, a class's is zero.
unfoldable pub limits_kept : List ℤ → ℕ → Bool
limits_kept t k =
    every
    (within_ℤ class client (place t k sort_at)
    ∷ within_ℤ 0 last_node (place t k parent_at)
    ∷ within_ℤ 0 last_level (place t k level_at)
    ∷ within_ℤ fixed stated (place t k kind_at)
    ∷ within_ℤ 1 (share_limit (plus (place t k kind_at))) (place t k share_at)
    ∷ within_ℤ 1 greatest_depth (place t k depth_at)
    ∷ within_ℤ 0 most_waiting (place t k waiting_at)
    ∷ within_ℤ 0 (port_limit (plus (place t k sort_at))) (place t k port_at)
    ∷ [])

-- Places 10 to 15 and the waiting places that hold no request are zero.
unfoldable pub spare_in_order : List ℤ → ℕ → Bool
spare_in_order t k =
    every
    (all_below spare_length (λ p. is_zero (place t k (spare_at + p)))
    ∷ all_below queue_length (λ p. ltb p (request_length * waiting t k) || is_zero (place t k (queue_at + p)))
    ∷ [])

-- Node 0 is the root: a class, its own parent, at level 0, fixed, share 10,000, rate 1 to 1,000,000,000.
unfoldable pub root_in_order : List ℤ → Bool
root_in_order t =
    every
    (same_ℤ (place t root sort_at) (pos class)
    ∷ same_ℤ (place t root parent_at) (pos root)
    ∷ same_ℤ (place t root level_at) (pos 0)
    ∷ same_ℤ (place t root kind_at) (pos fixed)
    ∷ same_ℤ (place t root share_at) (pos whole_share)
    ∷ within_ℤ 1 greatest_rate (place t root rate_at)
    ∷ [])

-- Every other node's parent is a class one level above it.
unfoldable pub parent_in_order : Tree → ℕ → Bool
parent_in_order tree k = eqb k root || every (is_class tree (tree.parent k) ∷ eqb (tree.level k) (suc (tree.level (tree.parent k))) ∷ [])

-- Classes have levels 0 to 3 and nothing waiting. Fixed shares under one class sum to at most 10,000, and children's
-- depths to at most its depth.
unfoldable pub class_in_order : List ℤ → ℕ → Bool
class_in_order t c =
    every
    (leb ((tree_of t).level c) last_class_level
    ∷ eqb (waiting t c) 0
    ∷ leb (fixed_sum (tree_of t) c) whole_share
    ∷ leb (sum_under (tree_of t) c (tree_of t).depth) ((tree_of t).depth c)
    ∷ [])

-- The rate is that of "Rates".
unfoldable pub rate_in_order : List ℤ → ℕ → Bool
rate_in_order t k = same_ℤ (place t k rate_at) (pos (rate_in (tree_of t) (rate t root) k))

-- The sum of the balances of class c's children.
unfoldable pub child_balance : List ℤ → ℕ → ℕ → ℤ
child_balance t c k = cond (child_of (tree_of t) c k) (balance t k) (pos 0)

unfoldable pub child_balances : List ℤ → ℕ → ℤ
child_balances t c = sum_ℤ_below nodes (child_balance t c)

-- No balance exceeds depth x 1000. A client's balance is at least 0. A class's balance is at least the sum of its
-- children's balances less its own depth x 1000.
unfoldable pub balance_in_order : List ℤ → ℕ → Bool
balance_in_order t k =
    every
    (le_z (balance t k) (pos (depth_grains t k))
    ∷ cond (is_class (tree_of t) k) (le_z (child_balances t k) (balance t k +ℤ pos (depth_grains t k))) (le_z (pos 0) (balance t k))
    ∷ [])

-- Waiting request i of client k: its size is at least 1 and its cost at most the client's depth; its arrival number is 1
-- to the header's count and above that of the request before it.
unfoldable pub request_in_order : List ℤ → ℕ → ℕ → Bool
request_in_order t k i =
    every
    (size_within ((tree_of t).depth k) (place t k (queue_place i + size_at))
    ∷ within_ℤ 1 (count t) (place t k (queue_place i + arrival_at))
    ∷ (eqb i 0 || ltb (arrival t k (i - 1)) (arrival t k i))
    ∷ [])

unfoldable pub queue_in_order : List ℤ → ℕ → Bool
queue_in_order t k = all_below (waiting t k) (request_in_order t k)

-- Arrival number a differs from those of the requests that wait at node j.
unfoldable pub differs_at : List ℤ → ℕ → ℕ → Bool
differs_at t a j = all_below (waiting t j) (λ i. not (eqb a (arrival t j i)))

-- The arrival numbers of node k's requests differ from those of every lower node.
unfoldable pub arrivals_differ : List ℤ → ℕ → Bool
arrivals_differ t k = all_below (waiting t k) (λ i. all_below k (differs_at t (arrival t k i)))

-- A stated node stands under the root only, and the stated rates sum to at most the disk's rate.
unfoldable pub stated_placed : Tree → ℕ → Bool
stated_placed tree k = not (is_stated tree k) || eqb (tree.parent k) root

unfoldable pub stated_in_order : List ℤ → Bool
stated_in_order t = every (each_node (tree_of t) (stated_placed (tree_of t)) ∷ leb (stated_sum (tree_of t) root) (rate t root) ∷ [])

unfoldable pub in_order : List ℤ → Bool
in_order t =
    every
    (eqb (length t) table_length
    ∷ header_in_order t
    ∷ unused_in_order t
    ∷ each_node (tree_of t) (limits_kept t)
    ∷ each_node (tree_of t) (spare_in_order t)
    ∷ root_in_order t
    ∷ each_node (tree_of t) (parent_in_order (tree_of t))
    ∷ each_class (tree_of t) (class_in_order t)
    ∷ each_node (tree_of t) (rate_in_order t)
    ∷ each_node (tree_of t) (balance_in_order t)
    ∷ each_client (tree_of t) (queue_in_order t)
    ∷ all_below nodes (arrivals_differ t)
    ∷ stated_in_order t
    ∷ [])
