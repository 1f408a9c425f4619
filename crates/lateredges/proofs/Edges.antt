-- Every edge of document 02's requests (a) to (c) passes: one test of them all, computed, and from it each edge by its name.
use mathlib.Core.List.{List, [], ◌∷◌, map}
use lib.Dec.{T}
use Rattle.scenarios.specs.Scenario.{Scenario, Passes}
use Rattle.scenarios.proofs.Run.{passes, all_pass, at}
use Rattle.lateredges.specs.Edges.{LaterEdge, costs_above, costs_charged, no_children, family_first, equal_steps, from_the_client, own_first, counted_anew, later_scenario}

-- The scenarios. Those that a must-fail edit changes stand first, since the test ends at the first that fails.
all : List Scenario
all =
    map later_scenario
    (family_first ∷ equal_steps ∷ from_the_client ∷ own_first ∷ counted_anew ∷ costs_above ∷ costs_charged ∷ no_children ∷ [])

computed : T (all_pass all)
unfolding all_pass all passes later_scenario
computed = tt

pub later_edges_hold : (e : LaterEdge) → Passes (later_scenario e)
unfolding all
later_edges_hold family_first = at all computed 0
later_edges_hold equal_steps = at all computed 1
later_edges_hold from_the_client = at all computed 2
later_edges_hold own_first = at all computed 3
later_edges_hold counted_anew = at all computed 4
later_edges_hold costs_above = at all computed 5
later_edges_hold costs_charged = at all computed 6
later_edges_hold no_children = at all computed 7
