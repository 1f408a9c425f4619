-- The joint table holds: one test of document 01's edges, computed, and from it each edge by its name; those of document 02's
-- requests by their own laws.
use mathlib.Core.List.{List, [], ◌∷◌, map}
use lib.Dec.{T}
use Rattle.scenarios.specs.Scenario.{Scenario, Passes}
use Rattle.scenarios.proofs.Run.{passes, all_pass, at}
use Rattle.lateredges.proofs.Edges.{later_edges_hold}
use Rattle.statededges.proofs.Edges.{stated_edges_hold}
use Rattle.portedges.proofs.Edges.{port_edges_hold}
use Rattle.houredges.proofs.Edges.{hour_edges_hold}
use Rattle.edges.specs.Edges.{Edge, paper, thirds, nothing_left, nothing_left_of_thirds, above_whole, alone, one_asks, both_ask, debt, sizes, depths, ninth, list_lengths, later, of_stated, of_ports, of_hours, scenario}

-- The scenarios of document 01's edges. Those that a must-fail edit changes stand first, since the test ends at the first that fails.
marked : List Scenario
marked =
    map scenario
    (paper
    ∷ above_whole
    ∷ debt
    ∷ alone
    ∷ both_ask
    ∷ thirds
    ∷ nothing_left
    ∷ nothing_left_of_thirds
    ∷ one_asks
    ∷ sizes
    ∷ depths
    ∷ ninth
    ∷ list_lengths
    ∷ [])

computed : T (all_pass marked)
unfolding all_pass marked passes scenario
computed = tt

pub edges_hold : (e : Edge) → Passes (scenario e)
unfolding marked scenario
edges_hold paper = at marked computed 0
edges_hold above_whole = at marked computed 1
edges_hold debt = at marked computed 2
edges_hold alone = at marked computed 3
edges_hold both_ask = at marked computed 4
edges_hold thirds = at marked computed 5
edges_hold nothing_left = at marked computed 6
edges_hold nothing_left_of_thirds = at marked computed 7
edges_hold one_asks = at marked computed 8
edges_hold sizes = at marked computed 9
edges_hold depths = at marked computed 10
edges_hold ninth = at marked computed 11
edges_hold list_lengths = at marked computed 12
edges_hold (later edge) = later_edges_hold edge
edges_hold (of_stated edge) = stated_edges_hold edge
edges_hold (of_ports edge) = port_edges_hold edge
edges_hold (of_hours edge) = hour_edges_hold edge
