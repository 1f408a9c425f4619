-- Every case passes: one test of them all, computed, and from it each case by its name.
use mathlib.Core.List.{List, [], ◌∷◌, map}
use lib.Dec.{T}
use Rattle.scenarios.specs.Scenario.{Scenario, Passes}
use Rattle.scenarios.proofs.Run.{passes, all_pass, at}
use Rattle.cases.specs.Cases.{Case, rounded_down, lost_by_classes, empty_buckets, rest_of_list, cut_to_depth, first_supplier, header_places, nodes_in_order, sums_in_order, requests_in_order, stated_nodes, port_places, scenario}

-- The scenarios. Those that a must-fail edit changes stand first, since the test ends at the first that fails.
all : List Scenario
all =
    map scenario
    (empty_buckets
    ∷ rest_of_list
    ∷ cut_to_depth
    ∷ stated_nodes
    ∷ port_places
    ∷ requests_in_order
    ∷ rounded_down
    ∷ lost_by_classes
    ∷ first_supplier
    ∷ header_places
    ∷ nodes_in_order
    ∷ sums_in_order
    ∷ [])

computed : T (all_pass all)
unfolding all_pass all passes scenario
computed = tt

pub cases_hold : (c : Case) → Passes (scenario c)
unfolding all
cases_hold empty_buckets = at all computed 0
cases_hold rest_of_list = at all computed 1
cases_hold cut_to_depth = at all computed 2
cases_hold stated_nodes = at all computed 3
cases_hold port_places = at all computed 4
cases_hold requests_in_order = at all computed 5
cases_hold rounded_down = at all computed 6
cases_hold lost_by_classes = at all computed 7
cases_hold first_supplier = at all computed 8
cases_hold header_places = at all computed 9
cases_hold nodes_in_order = at all computed 10
cases_hold sums_in_order = at all computed 11
