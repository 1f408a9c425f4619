-- Every edge of opening hours passes: a test of those with rates and a test of those turned back, computed, and from them each edge by
-- its name.
use mathlib.Core.List.{List, [], ◌∷◌, map}
use lib.Dec.{T}
use Rattle.scenarios.specs.Scenario.{Scenario, Passes}
use Rattle.scenarios.proofs.Run.{passes, all_pass, at}
use Rattle.houredges.specs.Plans.{suites, out_of_order, pair, shares_above_whole, depths_above_root, classes, halves, playout, both_sums, stated_above_disk, great_disk}
use Rattle.houredges.specs.Edges.{HourEdge, worked, tables, minutes, plans_own, share_limits, stated_limits, greatest_stated, share_first, seven_first, shapes, class_shapes, window_forms, overlaps, touching, whole_week, requests_stay, stated_hours, one_minute, one_stated_minute, class_hours, hour_scenario}

-- The scenarios. Those that a must-fail edit changes stand first, since a test ends at the first that fails.
hours : List Scenario
hours =
    map hour_scenario
    (worked
    ∷ touching
    ∷ whole_week
    ∷ requests_stay
    ∷ stated_hours
    ∷ one_minute
    ∷ one_stated_minute
    ∷ class_hours
    ∷ [])

turned_back : List Scenario
turned_back =
    map hour_scenario
    (tables
    ∷ minutes
    ∷ plans_own
    ∷ share_limits
    ∷ stated_limits
    ∷ greatest_stated
    ∷ share_first
    ∷ seven_first
    ∷ shapes
    ∷ class_shapes
    ∷ window_forms
    ∷ overlaps
    ∷ [])

hours_computed : T (all_pass hours)
unfolding all_pass hours passes hour_scenario suites halves classes playout
hours_computed = tt

back_computed : T (all_pass turned_back)
unfolding all_pass turned_back passes hour_scenario suites out_of_order pair shares_above_whole depths_above_root classes playout both_sums stated_above_disk great_disk
back_computed = tt

pub hour_edges_hold : (e : HourEdge) → Passes (hour_scenario e)
unfolding hours turned_back
hour_edges_hold worked = at hours hours_computed 0
hour_edges_hold touching = at hours hours_computed 1
hour_edges_hold whole_week = at hours hours_computed 2
hour_edges_hold requests_stay = at hours hours_computed 3
hour_edges_hold stated_hours = at hours hours_computed 4
hour_edges_hold one_minute = at hours hours_computed 5
hour_edges_hold one_stated_minute = at hours hours_computed 6
hour_edges_hold class_hours = at hours hours_computed 7
hour_edges_hold tables = at turned_back back_computed 0
hour_edges_hold minutes = at turned_back back_computed 1
hour_edges_hold plans_own = at turned_back back_computed 2
hour_edges_hold share_limits = at turned_back back_computed 3
hour_edges_hold stated_limits = at turned_back back_computed 4
hour_edges_hold greatest_stated = at turned_back back_computed 5
hour_edges_hold share_first = at turned_back back_computed 6
hour_edges_hold seven_first = at turned_back back_computed 7
hour_edges_hold shapes = at turned_back back_computed 8
hour_edges_hold class_shapes = at turned_back back_computed 9
hour_edges_hold window_forms = at turned_back back_computed 10
hour_edges_hold overlaps = at turned_back back_computed 11
