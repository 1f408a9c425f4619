-- The edges of document 02's request (g), two ports, each a scenario under its words. They are part of the joint table of edges.
use Rattle.std.specs.Prelude.{[], ◌∷◌, pos}
use Rattle.definitions.specs.Limits.{root, client, weighted, first_port, second_port}
use Rattle.scenarios.specs.Scenario.{Scenario, disk, join_on, leave, request, look, tick_both, dispatch, ◌gives◌, ◌lists◌and◌, ◌refuses◌, set_balance, number, seen}

-- The edges by name.
pub data PortEdge : Type 0 where
  both_served other_empty short_by_either alternating back_on_other : PortEdge

unfoldable pub port_scenario : PortEdge → Scenario
-- Disk 16000, clients 5 on port 0 and 6 on port 1, weight 1: 8000 each, and each asks size 1, which costs 8. Both go at the first
-- tick, each on its own port's list.
port_scenario both_served =
    disk 16000 40 gives number 0
    ∷ join_on first_port 5 root client weighted 1 16 gives number 0
    ∷ join_on second_port 6 root client weighted 1 16 gives number 0
    ∷ request 5 50 1 gives number 1
    ∷ request 6 60 1 gives number 2
    ∷ tick_both 4 4 lists (dispatch 5 50 1 5 ∷ []) and (dispatch 6 60 1 6 ∷ [])
    ∷ look 5 gives seen 8000 (pos 0) 0 0
    ∷ look 6 gives seen 8000 (pos 0) 0 0
    ∷ look root gives seen 16000 (pos 0) 0 0
    ∷ []
-- The same clients, one asking at a time: a list of four numbers for its own port, and an empty one for the other. Where nothing
-- waits, both are empty.
port_scenario other_empty =
    disk 16000 40 gives number 0
    ∷ join_on first_port 5 root client weighted 1 16 gives number 0
    ∷ join_on second_port 6 root client weighted 1 16 gives number 0
    ∷ request 6 60 1 gives number 1
    ∷ tick_both 0 4 lists [] and (dispatch 6 60 1 6 ∷ [])
    ∷ request 5 50 1 gives number 2
    ∷ tick_both 4 0 lists (dispatch 5 50 1 5 ∷ []) and []
    ∷ tick_both 0 0 lists [] and []
    ∷ []
-- Two requests wait at port 0 and one at port 1: 8 numbers and 4. One less on either list is 13, however long the other is, and
-- also where both together have room for all three.
port_scenario short_by_either =
    disk 1 40 gives number 0
    ∷ join_on first_port 5 root client weighted 1 16 gives number 0
    ∷ join_on second_port 6 root client weighted 1 16 gives number 0
    ∷ request 5 50 1 gives number 1
    ∷ request 5 51 1 gives number 2
    ∷ request 6 60 1 gives number 3
    ∷ tick_both 7 4 refuses 13
    ∷ tick_both 8 3 refuses 13
    ∷ tick_both 7 3 refuses 13
    ∷ tick_both 12 0 refuses 13
    ∷ tick_both 0 12 refuses 13
    ∷ tick_both 4 8 refuses 13
    ∷ tick_both 8 4 lists [] and []
    ∷ []
-- Clients 1 and 3 are on port 0, 2 and 4 on port 1; their rates are 0, as four weights under 1. They ask in the order 4, 1, 2, 3.
-- Client 3 pays itself in step 2; then the root pays for the others by arrival: 3, 4, 1, 2 in one sequence, on the lists 3, 1 and
-- 4, 2.
port_scenario alternating =
    disk 1 100 gives number 0
    ∷ join_on first_port 1 root client weighted 1 8 gives number 0
    ∷ join_on second_port 2 root client weighted 1 8 gives number 0
    ∷ join_on first_port 3 root client weighted 1 8 gives number 0
    ∷ join_on second_port 4 root client weighted 1 8 gives number 0
    ∷ request 4 40 1 gives number 1
    ∷ request 1 10 1 gives number 2
    ∷ request 2 20 1 gives number 3
    ∷ request 3 30 1 gives number 4
    ∷ set_balance root (pos 32000)
    ∷ set_balance 3 (pos 8000)
    ∷ tick_both 8 8 lists (dispatch 3 30 1 3 ∷ dispatch 1 10 1 root ∷ []) and (dispatch 4 40 1 root ∷ dispatch 2 20 1 root ∷ [])
    ∷ look root gives seen 1 (pos 1) 0 1
    ∷ []
-- A client that leaves and comes back is on the port of its last join.
port_scenario back_on_other =
    disk 8000 40 gives number 0
    ∷ join_on second_port 5 root client weighted 1 16 gives number 0
    ∷ request 5 50 1 gives number 1
    ∷ tick_both 0 4 lists [] and (dispatch 5 50 1 5 ∷ [])
    ∷ leave 5 gives number 0
    ∷ join_on first_port 5 root client weighted 1 16 gives number 0
    ∷ request 5 51 1 gives number 2
    ∷ tick_both 4 0 lists (dispatch 5 51 1 5 ∷ []) and []
    ∷ []
