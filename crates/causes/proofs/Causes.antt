-- The causes of every call have their numbers and their order: one test of all, computed, and from it each by its name.
use mathlib.Core.List.{List, [], ◌∷◌, map}
use lib.Dec.{T}
use Rattle.scenarios.specs.Scenario.{Scenario, Passes}
use Rattle.scenarios.proofs.Run.{passes, all_pass, at}
use Rattle.causes.specs.Causes.{TurnedBack, not_in_order, table_lengths, opens, join_arguments, joins, leaves, changes_share, changes_rate, requests, looks, compares, ticks, scenario}

-- The scenarios. Those that a must-fail edit changes stand first, since the test ends at the first that fails.
all : List Scenario
all =
    map scenario
    (looks
    ∷ join_arguments
    ∷ joins
    ∷ not_in_order
    ∷ table_lengths
    ∷ opens
    ∷ leaves
    ∷ changes_share
    ∷ changes_rate
    ∷ requests
    ∷ compares
    ∷ ticks
    ∷ [])

computed : T (all_pass all)
unfolding all_pass all passes scenario
computed = tt

pub causes_hold : (c : TurnedBack) → Passes (scenario c)
unfolding all
causes_hold looks = at all computed 0
causes_hold join_arguments = at all computed 1
causes_hold joins = at all computed 2
causes_hold not_in_order = at all computed 3
causes_hold table_lengths = at all computed 4
causes_hold opens = at all computed 5
causes_hold leaves = at all computed 6
causes_hold changes_share = at all computed 7
causes_hold changes_rate = at all computed 8
causes_hold requests = at all computed 9
causes_hold compares = at all computed 10
causes_hold ticks = at all computed 11
