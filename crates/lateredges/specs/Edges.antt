-- The edges of document 02's requests (a) to (c), each a scenario under its words. They are part of the joint table of edges.
use Rattle.std.specs.Prelude.{[], ◌∷◌, pos, neg_ℤ}
use Rattle.definitions.specs.Limits.{root, class, client, fixed, weighted}
use Rattle.definitions.specs.Refusals.{refused}
use Rattle.scenarios.specs.Scenario.{Scenario, disk, join, request, look, tick, dispatch, ◌gives◌, ◌lists◌, set_balance, number, seen}

-- The edges by name: the ends of (a)'s ranges, (b)'s class without children and (c)'s order in step 4.
pub data LaterEdge : Type 0 where
  costs_above costs_charged no_children family_first equal_steps from_the_client own_first counted_anew : LaterEdge

unfoldable pub later_scenario : LaterEdge → Scenario
-- The ends of the ranges: 1 and 7 cost 8, 8 costs 12, 63 costs 67, 64 costs 72, 511 costs 519, 512 costs 528. At a depth of
-- one less each gets 8.
later_scenario costs_above =
    disk 1000 2000 gives number 0
    ∷ join 1 root client weighted 1 7 gives number 0
    ∷ join 2 root client weighted 1 11 gives number 0
    ∷ join 3 root client weighted 1 66 gives number 0
    ∷ join 4 root client weighted 1 71 gives number 0
    ∷ join 5 root client weighted 1 518 gives number 0
    ∷ join 6 root client weighted 1 527 gives number 0
    ∷ request 1 10 1 gives refused 8
    ∷ request 1 10 7 gives refused 8
    ∷ request 2 20 8 gives refused 8
    ∷ request 3 30 63 gives refused 8
    ∷ request 4 40 64 gives refused 8
    ∷ request 5 50 511 gives refused 8
    ∷ request 6 60 512 gives refused 8
    ∷ []
-- At a depth of just the cost each waits. With a grain less than its cost x 1000 it waits on; with just that it goes, and its
-- client is left with 0. The clients have rate 0, as seven weights under 1.
later_scenario costs_charged =
    disk 1 2000 gives number 0
    ∷ join 1 root client weighted 1 8 gives number 0
    ∷ join 2 root client weighted 1 8 gives number 0
    ∷ join 3 root client weighted 1 12 gives number 0
    ∷ join 4 root client weighted 1 67 gives number 0
    ∷ join 5 root client weighted 1 72 gives number 0
    ∷ join 6 root client weighted 1 519 gives number 0
    ∷ join 7 root client weighted 1 528 gives number 0
    ∷ request 1 10 1 gives number 1
    ∷ request 2 20 7 gives number 2
    ∷ request 3 30 8 gives number 3
    ∷ request 4 40 63 gives number 4
    ∷ request 5 50 64 gives number 5
    ∷ request 6 60 511 gives number 6
    ∷ request 7 70 512 gives number 7
    ∷ set_balance 1 (pos 7999)
    ∷ set_balance 2 (pos 7999)
    ∷ set_balance 3 (pos 11999)
    ∷ set_balance 4 (pos 66999)
    ∷ set_balance 5 (pos 71999)
    ∷ set_balance 6 (pos 518999)
    ∷ set_balance 7 (pos 527999)
    ∷ tick 28 lists []
    ∷ set_balance 1 (pos 8000)
    ∷ set_balance 2 (pos 8000)
    ∷ set_balance 3 (pos 12000)
    ∷ set_balance 4 (pos 67000)
    ∷ set_balance 5 (pos 72000)
    ∷ set_balance 6 (pos 519000)
    ∷ set_balance 7 (pos 528000)
    ∷ tick 28 lists (dispatch 1 10 1 1 ∷ dispatch 2 20 7 2 ∷ dispatch 3 30 8 3 ∷ dispatch 4 40 63 4 ∷ dispatch 5 50 64 5 ∷ dispatch 6 60 511 6 ∷ dispatch 7 70 512 7 ∷ [])
    ∷ look 1 gives seen 0 (pos 0) 0 0
    ∷ look 2 gives seen 0 (pos 0) 0 0
    ∷ look 3 gives seen 0 (pos 0) 0 0
    ∷ look 4 gives seen 0 (pos 0) 0 0
    ∷ look 5 gives seen 0 (pos 0) 0 0
    ∷ look 6 gives seen 0 (pos 0) 0 0
    ∷ look 7 gives seen 0 (pos 0) 0 0
    ∷ look root gives seen 1 (neg_ℤ (pos 1213998)) 0 1
    ∷ []
-- A class without children loses its whole rate, the disk as any other; a client loses nothing.
later_scenario no_children =
    disk 1000 40 gives number 0
    ∷ look root gives seen 1000 (pos 0) 0 1000
    ∷ join 1 root class fixed 5000 20 gives number 0
    ∷ look root gives seen 1000 (pos 0) 0 500
    ∷ look 1 gives seen 500 (pos 0) 0 500
    ∷ join 2 1 client weighted 1 20 gives number 0
    ∷ look 1 gives seen 500 (pos 0) 0 0
    ∷ look 2 gives seen 500 (pos 0) 0 0
    ∷ []
-- A client whose class has spare goes before a stranger with an earlier request at the root. Class 1 has the 8000 grains of client 2's request;
-- class 3 has nothing, and the root has the 8000 of client 4's, who asked first. 2 goes from 1, one step above it, which leaves
-- the root 0; 4, two steps below the root, waits until the root has 8000 again. All rates but the root's are 0, as two weights
-- under 1.
later_scenario family_first =
    disk 1 100 gives number 0
    ∷ join 1 root class weighted 1 40 gives number 0
    ∷ join 2 1 client weighted 1 20 gives number 0
    ∷ join 3 root class weighted 1 40 gives number 0
    ∷ join 4 3 client weighted 1 20 gives number 0
    ∷ request 4 40 1 gives number 1
    ∷ request 2 20 1 gives number 2
    ∷ set_balance root (pos 7999)
    ∷ set_balance 1 (pos 8000)
    ∷ tick 8 lists (dispatch 2 20 1 1 ∷ [])
    ∷ look root gives seen 1 (pos 0) 0 1
    ∷ look 1 gives seen 0 (pos 0) 0 0
    ∷ look 4 gives seen 0 (pos 0) 1 0
    ∷ set_balance root (pos 7999)
    ∷ tick 4 lists (dispatch 4 40 1 root ∷ [])
    ∷ []
-- Two families with equal steps: the earlier arrival goes first, client 4 of class 2 before client 3 of class 1.
later_scenario equal_steps =
    disk 1 100 gives number 0
    ∷ join 1 root class weighted 1 40 gives number 0
    ∷ join 2 root class weighted 1 40 gives number 0
    ∷ join 3 1 client weighted 1 20 gives number 0
    ∷ join 4 2 client weighted 1 20 gives number 0
    ∷ request 4 40 1 gives number 1
    ∷ request 3 30 1 gives number 2
    ∷ set_balance 1 (pos 8000)
    ∷ set_balance 2 (pos 8000)
    ∷ tick 8 lists (dispatch 4 40 1 2 ∷ dispatch 3 30 1 1 ∷ [])
    ∷ look root gives seen 1 (neg_ℤ (pos 15999)) 0 1
    ∷ []
-- Steps count from the client: class 3 at level 2 is one step above client 4, and the root is one step above client 5, who asked
-- first and goes first.
later_scenario from_the_client =
    disk 1 100 gives number 0
    ∷ join 1 root class weighted 1 40 gives number 0
    ∷ join 3 1 class weighted 1 30 gives number 0
    ∷ join 4 3 client weighted 1 20 gives number 0
    ∷ join 5 root client weighted 1 20 gives number 0
    ∷ request 5 50 1 gives number 1
    ∷ request 4 40 1 gives number 2
    ∷ set_balance root (pos 15999)
    ∷ set_balance 3 (pos 8000)
    ∷ tick 8 lists (dispatch 5 50 1 root ∷ dispatch 4 40 1 3 ∷ [])
    ∷ look 3 gives seen 0 (pos 0) 0 0
    ∷ look 1 gives seen 0 (neg_ℤ (pos 8000)) 0 0
    ∷ look root gives seen 1 (pos 0) 0 1
    ∷ []
-- A client that can pay its next request itself in step 4 goes before others: client 2's first request costs 16 and goes from class
-- 1, which has 24000; its second costs 8, which client 2 has, and goes with 0 steps before the earlier request of client 3, for
-- whom nothing is left.
later_scenario own_first =
    disk 1 100 gives number 0
    ∷ join 1 root class weighted 1 40 gives number 0
    ∷ join 2 1 client weighted 1 20 gives number 0
    ∷ join 3 1 client weighted 1 20 gives number 0
    ∷ request 2 20 12 gives number 1
    ∷ request 3 30 1 gives number 2
    ∷ request 2 21 1 gives number 3
    ∷ set_balance 1 (pos 23999)
    ∷ set_balance 2 (pos 8000)
    ∷ tick 12 lists (dispatch 2 20 12 1 ∷ dispatch 2 21 1 2 ∷ [])
    ∷ look 1 gives seen 1 (pos 0) 0 1
    ∷ look 2 gives seen 0 (pos 0) 0 0
    ∷ look 3 gives seen 0 (pos 0) 1 0
    ∷ []
-- Steps are counted anew for each dispatch. At first class 1 is one step above clients 2 and 3, the root one above client 4 and two
-- above client 6, who asked first and whose class 5 has nothing. When 2 has gone, class 1 has nothing left, and client 3's supplier
-- is the root, two steps above: 4 goes, then 6 and 3 by arrival.
later_scenario counted_anew =
    disk 1 100 gives number 0
    ∷ join 1 root class weighted 1 40 gives number 0
    ∷ join 2 1 client weighted 1 20 gives number 0
    ∷ join 3 1 client weighted 1 20 gives number 0
    ∷ join 4 root client weighted 1 20 gives number 0
    ∷ join 5 root class weighted 1 40 gives number 0
    ∷ join 6 5 client weighted 1 20 gives number 0
    ∷ request 6 60 1 gives number 1
    ∷ request 2 20 1 gives number 2
    ∷ request 3 30 1 gives number 3
    ∷ request 4 40 1 gives number 4
    ∷ set_balance root (pos 31999)
    ∷ set_balance 1 (pos 8000)
    ∷ tick 16 lists (dispatch 2 20 1 1 ∷ dispatch 4 40 1 root ∷ dispatch 6 60 1 root ∷ dispatch 3 30 1 root ∷ [])
    ∷ look root gives seen 1 (pos 0) 0 1
    ∷ []
