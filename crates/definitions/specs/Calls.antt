-- The calls but for tick: their refusals, the table after and the answer. Document 01, "Calls" and "What is turned back", and
-- document 02, (f) and (g).
-- Arguments are any whole numbers. A node number that is in its limits is read by its natural part.
use Rattle.std.specs.Prelude.{ℕ, suc, ◌+◌, Bool, not, cond, ◌||◌, List, [], ◌∷◌, length, replicate, eqb, ltb, ℤ, pos, ◌-ℤ◌}
use Rattle.std.specs.Int.Signed.{lt_z, le_z}
use Rattle.numbers.specs.Whole.{plus, same_ℤ, within_ℤ}
use Rattle.numbers.specs.Tests.{every}
use Rattle.numbers.specs.Below.{all_below, for_below}
use Rattle.definitions.specs.Limits.{table_length, record_length, nodes, last_node, sort_at, parent_at, level_at, kind_at, share_at, depth_at, rate_at, balance_at, waiting_at, port_at, tag_at, size_at, arrival_at, class, client, fixed, stated, root, last_class_level, whole_share, greatest_depth, greatest_rate, share_limit, port_limit, greatest_count, most_waiting}
use Rattle.definitions.specs.Places.{place, put, put_header, count, rate, balance, waiting, queue_place}
use Rattle.definitions.specs.Tree.{tree_of, there, is_class, is_client, childless, sum_under}
use Rattle.definitions.specs.Rates.{fixed_sum, renewed}
use Rattle.definitions.specs.Cost.{cost}
use Rattle.definitions.specs.Order.{stated_in_order, in_order}
use Rattle.definitions.specs.Refusals.{Cause, cause, first, Outcome, outcome, kept}

-- Cause 7 under class c of a table as the call would leave it: the fixed shares are above 10,000. Cause 8: the children's
-- depths are above the class's. Cause 16: the stated rates are not in order.
unfoldable pub shares_above : List ℤ → ℕ → Bool
shares_above t c = ltb whole_share (fixed_sum (tree_of t) c)

unfoldable pub depths_above : List ℤ → ℕ → Bool
depths_above t c = ltb ((tree_of t).depth c) (sum_under (tree_of t) c (tree_of t).depth)

unfoldable pub stated_wrong : List ℤ → Bool
stated_wrong t = not (stated_in_order t)

-- The answer of an accepted call that has no other.
abbrev pub done : List ℤ
done = pos 0 ∷ []

-- A table of zeros.
unfoldable pub blank : List ℤ
blank = replicate table_length (pos 0)

-- Open (rate, root depth) zeroes the table and makes the root with balance 0.
unfoldable pub opened : ℤ → ℤ → List ℤ
opened rate depth =
    put (put (put (put blank root sort_at (pos class)) root share_at (pos whole_share)) root depth_at depth) root rate_at rate

-- The limits of its arguments.
unfoldable pub open_limits : ℤ → ℤ → Bool
open_limits rate depth = every (within_ℤ 1 greatest_rate rate ∷ within_ℤ 1 greatest_depth depth ∷ [])

unfoldable pub open_refusal : List ℤ → ℤ → ℤ → ℕ
open_refusal t rate depth = first (cause 1 (not (eqb (length t) table_length)) ∷ cause 2 (not (open_limits rate depth)) ∷ [])

unfoldable pub open_table : List ℤ → ℤ → ℤ → List ℤ
open_table t rate depth = kept (open_refusal t rate depth) (opened rate depth) t

unfoldable pub open_answer : List ℤ → ℤ → ℤ → Outcome
open_answer t rate depth = outcome (open_refusal t rate depth) done

-- Join (node, parent, sort, kind, share, depth, port): the node's record, with balance 0. Its level is one below its parent's.
unfoldable pub joined : List ℤ → ℕ → ℕ → ℤ → ℤ → ℤ → ℤ → ℤ → List ℤ
joined t k parent sort kind share depth port =
    put (put (put (put (put (put (put t k sort_at sort) k parent_at (pos parent)) k level_at (pos (suc ((tree_of t).level parent)))) k kind_at kind) k share_at share) k depth_at depth) k port_at port

-- The limits of its arguments.
unfoldable pub join_limits : ℤ → ℤ → ℤ → ℤ → ℤ → ℤ → ℤ → Bool
join_limits node parent sort kind share depth port =
    every
    (within_ℤ 1 last_node node
    ∷ within_ℤ 0 last_node parent
    ∷ within_ℤ class client sort
    ∷ within_ℤ fixed stated kind
    ∷ within_ℤ 1 (share_limit (plus kind)) share
    ∷ within_ℤ 1 greatest_depth depth
    ∷ within_ℤ 0 (port_limit (plus sort)) port
    ∷ [])

-- The causes by the sums of a table as join would leave it, under class c.
unfoldable pub sum_causes : List ℤ → ℕ → List Cause
sum_causes t c = cause 7 (shares_above t c) ∷ cause 8 (depths_above t c) ∷ cause 16 (stated_wrong t) ∷ []

unfoldable pub join_refusal : List ℤ → ℤ → ℤ → ℤ → ℤ → ℤ → ℤ → ℤ → ℕ
join_refusal t node parent sort kind share depth port =
    first
    (cause 1 (not (in_order t))
    ∷ cause 2 (not (join_limits node parent sort kind share depth port))
    ∷ cause 3 (not (there (tree_of t) (plus parent)))
    ∷ cause 4 (there (tree_of t) (plus node))
    ∷ cause 5 (is_client (tree_of t) (plus parent))
    ∷ cause 6 (every (eqb (plus sort) class ∷ eqb ((tree_of t).level (plus parent)) last_class_level ∷ []))
    ∷ sum_causes (joined t (plus node) (plus parent) sort kind share depth port) (plus parent))

unfoldable pub join_table : List ℤ → ℤ → ℤ → ℤ → ℤ → ℤ → ℤ → ℤ → List ℤ
join_table t node parent sort kind share depth port =
    kept (join_refusal t node parent sort kind share depth port)
    (renewed (joined t (plus node) (plus parent) sort kind share depth port))
    t

unfoldable pub join_answer : List ℤ → ℤ → ℤ → ℤ → ℤ → ℤ → ℤ → ℤ → Outcome
join_answer t node parent sort kind share depth port = outcome (join_refusal t node parent sort kind share depth port) done

-- Leave (node) zeroes the node's record.
unfoldable pub cleared : List ℤ → ℕ → List ℤ
cleared t k = for_below record_length (λ p u. put u k p (pos 0)) t

unfoldable pub leave_refusal : List ℤ → ℤ → ℕ
leave_refusal t node =
    first
    (cause 1 (not (in_order t))
    ∷ cause 2 (not (within_ℤ 0 last_node node))
    ∷ cause 3 (not (there (tree_of t) (plus node)))
    ∷ cause 5 (eqb (plus node) root)
    ∷ cause 9 (not (childless (tree_of t) (plus node)) || ltb 0 (waiting t (plus node)))
    ∷ cause 10 (every (is_class (tree_of t) (plus node) ∷ lt_z (balance t (plus node)) (pos 0) ∷ []))
    ∷ [])

unfoldable pub leave_table : List ℤ → ℤ → List ℤ
leave_table t node = kept (leave_refusal t node) (renewed (cleared t (plus node))) t

unfoldable pub leave_answer : List ℤ → ℤ → Outcome
leave_answer t node = outcome (leave_refusal t node) done

-- Change share (node, kind, share) gives a node a kind and share.
unfoldable pub reshared : List ℤ → ℕ → ℤ → ℤ → List ℤ
reshared t k kind share = put (put t k kind_at kind) k share_at share

-- The limits of its arguments.
unfoldable pub change_share_limits : ℤ → ℤ → ℤ → Bool
change_share_limits node kind share =
    every (within_ℤ 0 last_node node ∷ within_ℤ fixed stated kind ∷ within_ℤ 1 (share_limit (plus kind)) share ∷ [])

unfoldable pub change_share_refusal : List ℤ → ℤ → ℤ → ℤ → ℕ
change_share_refusal t node kind share =
    first
    (cause 1 (not (in_order t))
    ∷ cause 2 (not (change_share_limits node kind share))
    ∷ cause 3 (not (there (tree_of t) (plus node)))
    ∷ cause 5 (eqb (plus node) root)
    ∷ cause 7 (shares_above (reshared t (plus node) kind share) ((tree_of t).parent (plus node)))
    ∷ cause 16 (stated_wrong (reshared t (plus node) kind share))
    ∷ [])

unfoldable pub change_share_table : List ℤ → ℤ → ℤ → ℤ → List ℤ
change_share_table t node kind share =
    kept (change_share_refusal t node kind share) (renewed (reshared t (plus node) kind share)) t

unfoldable pub change_share_answer : List ℤ → ℤ → ℤ → ℤ → Outcome
change_share_answer t node kind share = outcome (change_share_refusal t node kind share) done

-- Change rate (rate) is for the root.
unfoldable pub change_rate_refusal : List ℤ → ℤ → ℕ
change_rate_refusal t rate =
    first
    (cause 1 (not (in_order t))
    ∷ cause 2 (not (within_ℤ 1 greatest_rate rate))
    ∷ cause 16 (stated_wrong (put t root rate_at rate))
    ∷ [])

unfoldable pub change_rate_table : List ℤ → ℤ → List ℤ
change_rate_table t rate = kept (change_rate_refusal t rate) (renewed (put t root rate_at rate)) t

unfoldable pub change_rate_answer : List ℤ → ℤ → Outcome
change_rate_answer t rate = outcome (change_rate_refusal t rate) done

-- Request (client, tag, size) adds 1 to the header's count, which is its arrival number and is returned. The request
-- stands behind those that wait at the client.
unfoldable pub requested : List ℤ → ℕ → ℤ → ℤ → List ℤ
requested t k tag size =
    put_header (put (put (put (put t k (queue_place (waiting t k) + tag_at) tag) k (queue_place (waiting t k) + size_at) size) k (queue_place (waiting t k) + arrival_at) (pos (suc (count t)))) k waiting_at (pos (suc (waiting t k)))) 0 (pos (suc (count t)))

-- The limits of its arguments. A size too large is cause 8.
unfoldable pub request_limits : ℤ → ℤ → Bool
request_limits node size = every (within_ℤ 0 last_node node ∷ le_z (pos 1) size ∷ [])

unfoldable pub request_refusal : List ℤ → ℤ → ℤ → ℤ → ℕ
request_refusal t node tag size =
    first
    (cause 1 (not (in_order t))
    ∷ cause 2 (not (request_limits node size))
    ∷ cause 3 (not (there (tree_of t) (plus node)))
    ∷ cause 5 (is_class (tree_of t) (plus node))
    ∷ cause 8 (ltb ((tree_of t).depth (plus node)) (cost (plus size)))
    ∷ cause 11 (eqb (waiting t (plus node)) most_waiting)
    ∷ cause 12 (eqb (count t) greatest_count)
    ∷ [])

unfoldable pub request_table : List ℤ → ℤ → ℤ → ℤ → List ℤ
request_table t node tag size = kept (request_refusal t node tag size) (requested t (plus node) tag size) t

unfoldable pub request_answer : List ℤ → ℤ → ℤ → ℤ → Outcome
request_answer t node tag size = outcome (request_refusal t node tag size) (pos (suc (count t)) ∷ [])

-- The grains that nobody gets: a class's rate less the sum of its children's rates; for a client 0. Document 02, (b).
unfoldable pub lost_grains : List ℤ → ℕ → ℤ
lost_grains t k = cond (is_class (tree_of t) k) (place t k rate_at -ℤ pos (sum_under (tree_of t) k (rate t))) (pos 0)

-- Look (node) returns rate, balance and waiting count, and these grains.
unfoldable pub look_refusal : List ℤ → ℤ → ℕ
look_refusal t node =
    first
    (cause 1 (not (in_order t))
    ∷ cause 2 (not (within_ℤ 0 last_node node))
    ∷ cause 3 (not (there (tree_of t) (plus node)))
    ∷ [])

unfoldable pub look_answer : List ℤ → ℤ → Outcome
look_answer t node =
    outcome (look_refusal t node)
    (place t (plus node) rate_at ∷ place t (plus node) balance_at ∷ place t (plus node) waiting_at ∷ lost_grains t (plus node) ∷ [])

-- Same (two tables): yes exactly when both have the same nodes with equal places 1 to 5 and sorts, and equal disk rates.
unfoldable pub same_tree : List ℤ → List ℤ → Bool
same_tree a b =
    every (all_below nodes (λ k. all_below rate_at (λ p. same_ℤ (place a k p) (place b k p))) ∷ same_ℤ (place a root rate_at) (place b root rate_at) ∷ [])

unfoldable pub same_refusal : List ℤ → List ℤ → ℕ
same_refusal a b = first (cause 1 (not (every (in_order a ∷ in_order b ∷ []))) ∷ [])

-- Yes is 1 and no is 0.
unfoldable pub same_answer : List ℤ → List ℤ → Outcome
same_answer a b = outcome (same_refusal a b) (cond (same_tree a b) (pos 1) (pos 0) ∷ [])
