-- The joint table of edges: the marked edges of document 01, each a scenario under its words, and the edges of document 02's
-- requests. Where the costs of request (a) change an edge of document 01, the words here are those worked anew. What the words
-- leave open, as the depth of a node or the tag of a request, is chosen so that nothing else is met. Looks also show the lost
-- grains of request (b).
use Rattle.std.specs.Prelude.{[], ◌∷◌, pos, neg_ℤ}
use Rattle.definitions.specs.Limits.{root, class, client, fixed, weighted, whole_share}
use Rattle.definitions.specs.Refusals.{refused}
use Rattle.lateredges.specs.Edges.{LaterEdge, later_scenario}
use Rattle.statededges.specs.Edges.{StatedEdge, stated_scenario}
use Rattle.portedges.specs.Edges.{PortEdge, port_scenario}
use Rattle.houredges.specs.Edges.{HourEdge, hour_scenario}
use Rattle.scenarios.specs.Scenario.{Scenario, disk, join, request, look, tick, dispatch, ◌gives◌, ◌lists◌, ◌refuses◌, set_balance, times, number, seen}

-- The edges by name: document 01's in its order, then those of the requests.
pub data Edge : Type 0 where
  paper thirds nothing_left nothing_left_of_thirds above_whole alone one_asks both_ask debt sizes depths ninth list_lengths : Edge
  later : LaterEdge → Edge
  of_stated : StatedEdge → Edge
  of_ports : PortEdge → Edge
  of_hours : HourEdge → Edge

unfoldable pub scenario : Edge → Scenario
-- "Disk 1000; class 1 fixed 5000: rate 500. Under it fixed 4000: 200; weights 4 and 6: 120 and 180." The class loses nothing,
-- the disk the 500 that no share claims.
scenario paper =
    disk 1000 40 gives number 0
    ∷ join 1 root class fixed 5000 40 gives number 0
    ∷ join 2 1 client fixed 4000 10 gives number 0
    ∷ join 3 1 client weighted 4 10 gives number 0
    ∷ join 4 1 client weighted 6 10 gives number 0
    ∷ look root gives seen 1000 (pos 0) 0 500
    ∷ look 1 gives seen 500 (pos 0) 0 0
    ∷ look 2 gives seen 200 (pos 0) 0 0
    ∷ look 3 gives seen 120 (pos 0) 0 0
    ∷ look 4 gives seen 180 (pos 0) 0 0
    ∷ []
-- "Three weights 1 under 1000: 333 each." The disk loses 1.
scenario thirds =
    disk 1000 40 gives number 0
    ∷ join 1 root client weighted 1 10 gives number 0
    ∷ join 2 root client weighted 1 10 gives number 0
    ∷ join 3 root client weighted 1 10 gives number 0
    ∷ look root gives seen 1000 (pos 0) 0 1
    ∷ look 1 gives seen 333 (pos 0) 0 0
    ∷ look 2 gives seen 333 (pos 0) 0 0
    ∷ look 3 gives seen 333 (pos 0) 0 0
    ∷ []
-- "A weighted child beside fixed 10,000: 0". The disk loses nothing.
scenario nothing_left =
    disk 1000 40 gives number 0
    ∷ join 1 root client fixed whole_share 10 gives number 0
    ∷ join 2 root client weighted 1 10 gives number 0
    ∷ look root gives seen 1000 (pos 0) 0 0
    ∷ look 2 gives seen 0 (pos 0) 0 0
    ∷ []
-- ".. also where that is 3333, 3333 and 3334 of 1000, which get 333 each." The disk loses 1.
scenario nothing_left_of_thirds =
    disk 1000 40 gives number 0
    ∷ join 1 root client fixed 3333 10 gives number 0
    ∷ join 2 root client fixed 3333 10 gives number 0
    ∷ join 3 root client fixed 3334 10 gives number 0
    ∷ join 4 root client weighted 1 10 gives number 0
    ∷ look root gives seen 1000 (pos 0) 0 1
    ∷ look 1 gives seen 333 (pos 0) 0 0
    ∷ look 2 gives seen 333 (pos 0) 0 0
    ∷ look 3 gives seen 333 (pos 0) 0 0
    ∷ look 4 gives seen 0 (pos 0) 0 0
    ∷ []
-- "Fixed 10,001 in all: 7."
scenario above_whole =
    disk 1000 40 gives number 0
    ∷ join 1 root client fixed whole_share 10 gives number 0
    ∷ join 2 root client fixed 1 10 gives refused 7
    ∷ []
-- Disk 1000, root depth 40, client 5 alone, weight 4, depth 16; size 3 costs 8 and goes at the eighth tick, supplier 5, both
-- balances 0.
scenario alone =
    disk 1000 40 gives number 0
    ∷ join 5 root client weighted 4 16 gives number 0
    ∷ request 5 50 3 gives number 1
    ∷ times 7 (tick 4 lists [])
    (tick 4 lists (dispatch 5 50 3 5 ∷ [])
    ∷ look 5 gives seen 1000 (pos 0) 0 0
    ∷ look root gives seen 1000 (pos 0) 0 0
    ∷ [])
-- Disk 1000, root depth 40, clients 5 and 6, weight 1, depth 16, only 5 asks, size 1, which costs 8: eighth tick, supplier 0;
-- 5 keeps 4000, root 0.
scenario one_asks =
    disk 1000 40 gives number 0
    ∷ join 5 root client weighted 1 16 gives number 0
    ∷ join 6 root client weighted 1 16 gives number 0
    ∷ request 5 50 1 gives number 1
    ∷ times 7 (tick 4 lists [])
    (tick 4 lists (dispatch 5 50 1 root ∷ [])
    ∷ look 5 gives seen 500 (pos 4000) 0 0
    ∷ look root gives seen 1000 (pos 0) 0 0
    ∷ [])
-- The same, 6 asked before 5, both size 1: 6 at the eighth tick from 0, 5 at the sixteenth from itself.
scenario both_ask =
    disk 1000 40 gives number 0
    ∷ join 5 root client weighted 1 16 gives number 0
    ∷ join 6 root client weighted 1 16 gives number 0
    ∷ request 6 60 1 gives number 1
    ∷ request 5 50 1 gives number 2
    ∷ times 7 (tick 8 lists [])
    (tick 8 lists (dispatch 6 60 1 root ∷ [])
    ∷ times 7 (tick 8 lists []) (tick 8 lists (dispatch 5 50 1 5 ∷ []) ∷ []))
-- Disk 1000, root balance 0 and depth 16, two clients of depth 8 and rate 500 with balances 7500 and 8000, each asking 1, which
-- costs 8: after the tick root −15000, clients 0 and 500.
scenario debt =
    disk 1000 16 gives number 0
    ∷ join 1 root client weighted 1 8 gives number 0
    ∷ join 2 root client weighted 1 8 gives number 0
    ∷ request 1 10 1 gives number 1
    ∷ request 2 20 1 gives number 2
    ∷ set_balance 1 (pos 7500)
    ∷ set_balance 2 (pos 8000)
    ∷ look root gives seen 1000 (pos 0) 0 0
    ∷ look 1 gives seen 500 (pos 7500) 1 0
    ∷ look 2 gives seen 500 (pos 8000) 1 0
    ∷ tick 8 lists (dispatch 1 10 1 1 ∷ dispatch 2 20 1 2 ∷ [])
    ∷ look root gives seen 1000 (neg_ℤ (pos 15000)) 0 0
    ∷ look 1 gives seen 500 (pos 0) 0 0
    ∷ look 2 gives seen 500 (pos 500) 0 0
    ∷ []
-- At depth 16 size 12, which costs 16, waits; 13 gets 8; 0 gets 2.
scenario sizes =
    disk 1000 40 gives number 0
    ∷ join 5 root client weighted 4 16 gives number 0
    ∷ request 5 50 12 gives number 1
    ∷ look 5 gives seen 1000 (pos 0) 1 0
    ∷ request 5 50 13 gives refused 8
    ∷ request 5 50 16 gives refused 8
    ∷ request 5 50 0 gives refused 2
    ∷ []
-- "Depths 16 and 24 under 40 join; 16 and 25 get 8."
scenario depths =
    disk 1000 40 gives number 0
    ∷ join 5 root client weighted 1 16 gives number 0
    ∷ join 6 root client weighted 1 25 gives refused 8
    ∷ join 6 root client weighted 1 24 gives number 0
    ∷ []
-- "Ninth waiting: 11."
scenario ninth =
    disk 1000 40 gives number 0
    ∷ join 5 root client weighted 1 16 gives number 0
    ∷ request 5 50 1 gives number 1
    ∷ request 5 50 1 gives number 2
    ∷ request 5 50 1 gives number 3
    ∷ request 5 50 1 gives number 4
    ∷ request 5 50 1 gives number 5
    ∷ request 5 50 1 gives number 6
    ∷ request 5 50 1 gives number 7
    ∷ request 5 50 1 gives number 8
    ∷ request 5 50 1 gives refused 11
    ∷ []
-- "Two waiting: list of 8 passes, 7 gets 13; none waiting: an empty list passes."
scenario list_lengths =
    disk 1000 40 gives number 0
    ∷ join 5 root client weighted 1 16 gives number 0
    ∷ tick 0 lists []
    ∷ request 5 50 12 gives number 1
    ∷ request 5 51 12 gives number 2
    ∷ tick 7 refuses 13
    ∷ tick 8 lists []
    ∷ []
scenario (later edge) = later_scenario edge
scenario (of_stated edge) = stated_scenario edge
scenario (of_ports edge) = port_scenario edge
scenario (of_hours edge) = hour_scenario edge
