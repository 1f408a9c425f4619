-- Set minute (table, plan, windows, minute): its refusals, the table after and the answer. Document 02, (h).
use Rattle.std.specs.Prelude.{ℕ, Bool, not, List, [], ◌∷◌, leb, ℤ, pos}
use Rattle.numbers.specs.Whole.{plus, same_ℤ, within_ℤ}
use Rattle.numbers.specs.Tests.{every}
use Rattle.numbers.specs.Below.{all_below, for_below}
use Rattle.definitions.specs.Limits.{nodes, root, sort_at, parent_at, depth_at, rate_at, fixed, stated, whole_share}
use Rattle.definitions.specs.Places.{place, rate}
use Rattle.definitions.specs.Tree.{Tree, tree_of}
use Rattle.definitions.specs.Rates.{kind_sum, renewed}
use Rattle.definitions.specs.Order.{in_order}
use Rattle.definitions.specs.Refusals.{cause, first, Outcome, outcome, kept}
use Rattle.definitions.specs.Calls.{done, blank, reshared}
use Rattle.planformat.specs.Format.{plan_in}
use Rattle.planlaws.specs.Reading.{refusing, joined_for, check_answer}
use Rattle.hourlaws.specs.Windows.{week_minutes, last_minute, tree_at, timetable, shares_fit}

-- The table that reading the bytes of an accepted plan into a blank table makes: a function of the bytes alone.
unfoldable pub planned : List ℕ → List ℤ
planned s = joined_for blank (plan_in s)

-- Whether node k has the same sort, parent and depth in tables t and p. The sort also says whether it is there.
unfoldable pub same_node : List ℤ → List ℤ → ℕ → Bool
same_node t p k =
    every (same_ℤ (place t k sort_at) (place p k sort_at) ∷ same_ℤ (place t k parent_at) (place p k parent_at) ∷ same_ℤ (place t k depth_at) (place p k depth_at) ∷ [])

-- Whether tables t and p have the same nodes, parents, sorts, depths and disk rate.
unfoldable pub same_shape : List ℤ → List ℤ → Bool
same_shape t p = every (all_below nodes (same_node t p) ∷ same_ℤ (place t root rate_at) (place p root rate_at) ∷ [])

-- Whether the shares of one kind sum to at most a limit under each class. A number that is no class has no children and the sum 0.
unfoldable pub kind_within : ℕ → ℕ → Tree → Bool
kind_within kind limit tree = all_below nodes (λ c. leb (kind_sum tree kind c) limit)

-- Whether they do at every minute of the week. For 7 these are the fixed shares, and the limit is 10,000. For 16 these are the stated
-- rates, all of which stand under the root, and the limit is the disk's rate.
unfoldable pub week_within : ℕ → ℕ → Tree → List ℤ → Bool
week_within kind limit tree ws = all_below week_minutes (λ m. kind_within kind limit (tree_at tree ws m))

-- The causes that lie in the timetable, for table t and a plan's table p.
unfoldable pub timetable_refusal : List ℤ → List ℤ → List ℤ → ℕ
timetable_refusal t p ws =
    first
    (cause 17 (not (every (same_shape t p ∷ timetable (tree_of p) ws ∷ [])))
    ∷ cause 2 (not (shares_fit (tree_of p) ws))
    ∷ cause 7 (not (week_within fixed whole_share (tree_of p) ws))
    ∷ cause 16 (not (week_within stated (rate p root) (tree_of p) ws))
    ∷ [])

-- The order is 1, 2 for the minute, the plan's own, 17, 2 for a window's share, 7, 16.
unfoldable pub set_minute_refusal : List ℤ → List ℕ → List ℤ → ℤ → ℕ
set_minute_refusal t s ws minute =
    first
    (cause 1 (not (in_order t))
    ∷ cause 2 (not (within_ℤ 0 last_minute minute))
    ∷ refusing (check_answer s)
    ∷ refusing (timetable_refusal t (planned s) ws)
    ∷ [])

-- The table with the kind and share that each node has in a tree. The root, and a number that is not there, have the same in both.
unfoldable pub reshared_as : Tree → List ℤ → List ℤ
reshared_as tree t = for_below nodes (λ k u. reshared u k (pos (tree.kind k)) (pos (tree.share k))) t

-- The table that set minute leaves where it is accepted, for a plan's table p: each node has the kind and share that it has in the
-- tree at the minute, and every rate is renewed.
unfoldable pub minute_table : List ℤ → List ℤ → List ℤ → ℕ → List ℤ
minute_table t p ws m = renewed (reshared_as (tree_at (tree_of p) ws m) t)

unfoldable pub set_minute_table : List ℤ → List ℕ → List ℤ → ℤ → List ℤ
set_minute_table t s ws minute = kept (set_minute_refusal t s ws minute) (minute_table t (planned s) ws (plus minute)) t

unfoldable pub set_minute_answer : List ℤ → List ℕ → List ℤ → ℤ → Outcome
set_minute_answer t s ws minute = outcome (set_minute_refusal t s ws minute) done
