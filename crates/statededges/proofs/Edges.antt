-- Every edge of stated rates passes: one test of them all, computed, and from it each edge by its name.
use mathlib.Core.List.{List, [], ◌∷◌, map}
use lib.Dec.{T}
use Rattle.scenarios.specs.Scenario.{Scenario, Passes}
use Rattle.scenarios.proofs.Run.{passes, all_pass, at}
use Rattle.statededges.specs.Edges.{StatedEdge, stated_first, stated_whole, stated_class, stated_elsewhere, stated_shares, stated_scenario}

-- The scenarios. Those that a must-fail edit changes stand first, since the test ends at the first that fails.
all : List Scenario
all = map stated_scenario (stated_first ∷ stated_elsewhere ∷ stated_whole ∷ stated_class ∷ stated_shares ∷ [])

computed : T (all_pass all)
unfolding all_pass all passes stated_scenario
computed = tt

pub stated_edges_hold : (e : StatedEdge) → Passes (stated_scenario e)
unfolding all
stated_edges_hold stated_first = at all computed 0
stated_edges_hold stated_elsewhere = at all computed 1
stated_edges_hold stated_whole = at all computed 2
stated_edges_hold stated_class = at all computed 3
stated_edges_hold stated_shares = at all computed 4
