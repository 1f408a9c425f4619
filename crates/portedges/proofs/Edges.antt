-- Every edge of two ports passes: one test of them all, computed, and from it each edge by its name.
use mathlib.Core.List.{List, [], ◌∷◌, map}
use lib.Dec.{T}
use Rattle.scenarios.specs.Scenario.{Scenario, Passes}
use Rattle.scenarios.proofs.Run.{passes, all_pass, at}
use Rattle.portedges.specs.Edges.{PortEdge, both_served, other_empty, short_by_either, alternating, back_on_other, port_scenario}

-- The scenarios. Those that a must-fail edit changes stand first, since the test ends at the first that fails.
all : List Scenario
all = map port_scenario (both_served ∷ short_by_either ∷ alternating ∷ other_empty ∷ back_on_other ∷ [])

computed : T (all_pass all)
unfolding all_pass all passes port_scenario
computed = tt

pub port_edges_hold : (e : PortEdge) → Passes (port_scenario e)
unfolding all
port_edges_hold both_served = at all computed 0
port_edges_hold short_by_either = at all computed 1
port_edges_hold alternating = at all computed 2
port_edges_hold other_empty = at all computed 3
port_edges_hold back_on_other = at all computed 4
