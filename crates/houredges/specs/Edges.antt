-- The edges of document 02's request (h), opening hours, each a scenario under its words. The plans stand in Plans. Tables are joined with
-- other kinds and shares than the plan's, so that the rates after set minute are those of the plan and of the windows alone.
use Rattle.std.specs.Prelude.{suc, [], ◌∷◌, ◌++◌, pos, neg_ℤ}
use Rattle.definitions.specs.Limits.{nodes, last_node, root, class, client, fixed, weighted, stated, whole_share, greatest_rate, second_port}
use Rattle.definitions.specs.Refusals.{refused}
use Rattle.scenarios.specs.Scenario.{Scenario, set_minute_ℤ, disk, join_on, join, leave, change_share, change_rate, set_minute, request, look, tick_both, dispatch, at_header, one_less, one_more, ◌gives◌, ◌lists◌and◌, fits, spoils, set_balance, number, seen, greatest_number}
use Rattle.houredges.specs.Plans.{suites, out_of_order, pair, shares_above_whole, depths_above_root, classes, halves, playout, both_sums, stated_above_disk, great_disk, window_ℤ, window, rented}

-- The edges by name: hours and rates, then causes and their order, then 17.
pub data HourEdge : Type 0 where
  worked touching whole_week requests_stay stated_hours one_minute one_stated_minute class_hours : HourEdge
  tables minutes plans_own share_limits stated_limits greatest_stated share_first seven_first : HourEdge
  shapes class_shapes window_forms overlaps : HourEdge

unfoldable pub hour_scenario : HourEdge → Scenario
-- The worked week: clients 1 and 2 have fixed 2000 each of 1000, and 7000 from minute 540 to 1080 and from 1200 to 1680; client 3
-- has what they leave. The minute at which a window ends is outside it.
hour_scenario worked =
    disk 1000 40 gives number 0
    ∷ join 1 root client weighted 1 10 gives number 0
    ∷ join 2 root client weighted 1 10 gives number 0
    ∷ join 3 root client weighted 1 10 gives number 0
    ∷ set_minute suites rented 0 gives number 0
    ∷ look 1 gives seen 200 (pos 0) 0 0
    ∷ look 2 gives seen 200 (pos 0) 0 0
    ∷ look 3 gives seen 600 (pos 0) 0 0
    ∷ look root gives seen 1000 (pos 0) 0 0
    ∷ set_minute suites rented 540 gives number 0
    ∷ look 1 gives seen 700 (pos 0) 0 0
    ∷ look 2 gives seen 200 (pos 0) 0 0
    ∷ look 3 gives seen 100 (pos 0) 0 0
    ∷ set_minute suites rented 1079 gives number 0
    ∷ look 1 gives seen 700 (pos 0) 0 0
    ∷ look 2 gives seen 200 (pos 0) 0 0
    ∷ look 3 gives seen 100 (pos 0) 0 0
    ∷ set_minute suites rented 1080 gives number 0
    ∷ look 1 gives seen 200 (pos 0) 0 0
    ∷ look 2 gives seen 200 (pos 0) 0 0
    ∷ look 3 gives seen 600 (pos 0) 0 0
    ∷ set_minute suites rented 1200 gives number 0
    ∷ look 1 gives seen 200 (pos 0) 0 0
    ∷ look 2 gives seen 700 (pos 0) 0 0
    ∷ look 3 gives seen 100 (pos 0) 0 0
    ∷ set_minute suites rented 10079 gives number 0
    ∷ look 1 gives seen 200 (pos 0) 0 0
    ∷ look 2 gives seen 200 (pos 0) 0 0
    ∷ look 3 gives seen 600 (pos 0) 0 0
    ∷ []
-- A table that is not in order, that is too short or that is too long is 1, also where the minute is outside its limits.
hour_scenario tables =
    set_minute suites [] 0 gives refused 1
    ∷ disk 1000 40 gives number 0
    ∷ join 1 root client weighted 1 10 gives number 0
    ∷ join 2 root client weighted 1 10 gives number 0
    ∷ join 3 root client weighted 1 10 gives number 0
    ∷ spoils (at_header 1 (pos 1))
    ∷ set_minute suites [] 0 gives refused 1
    ∷ set_minute suites [] 10080 gives refused 1
    ∷ fits (at_header 1 (pos 0))
    ∷ spoils one_less
    ∷ set_minute suites [] 0 gives refused 1
    ∷ fits one_more
    ∷ spoils one_more
    ∷ set_minute suites [] 0 gives refused 1
    ∷ fits one_less
    ∷ set_minute suites [] 0 gives number 0
    ∷ []
-- Minutes are 0 to 10,079. Another is 2, also where the plan is refused.
hour_scenario minutes =
    disk 1000 40 gives number 0
    ∷ join 1 root client weighted 1 10 gives number 0
    ∷ join 2 root client weighted 1 10 gives number 0
    ∷ set_minute_ℤ pair [] (neg_ℤ (pos 1)) gives refused 2
    ∷ set_minute pair [] 10080 gives refused 2
    ∷ set_minute pair [] greatest_number gives refused 2
    ∷ set_minute [] [] 10080 gives refused 2
    ∷ set_minute shares_above_whole [] 10080 gives refused 2
    ∷ set_minute pair [] 10079 gives number 0
    ∷ set_minute pair [] 0 gives number 0
    ∷ []
-- The plan's own causes, as reading gives them, by themselves and before 17: 14 for no bytes and for one byte more, 7, 8, 15 and 16.
hour_scenario plans_own =
    disk 1000 40 gives number 0
    ∷ join 1 root client weighted 1 10 gives number 0
    ∷ join 2 root client weighted 1 10 gives number 0
    ∷ set_minute [] [] 0 gives refused 14
    ∷ set_minute [] (pos 1 ∷ []) 0 gives refused 14
    ∷ set_minute (pair ++ (0 ∷ [])) [] 0 gives refused 14
    ∷ set_minute shares_above_whole [] 0 gives refused 7
    ∷ set_minute shares_above_whole (pos 1 ∷ []) 0 gives refused 7
    ∷ set_minute depths_above_root [] 0 gives refused 8
    ∷ set_minute depths_above_root (window 1 0 0 0) 0 gives refused 8
    ∷ set_minute out_of_order [] 0 gives refused 15
    ∷ set_minute out_of_order (pos 1 ∷ []) 0 gives refused 15
    ∷ set_minute stated_above_disk [] 0 gives refused 16
    ∷ set_minute stated_above_disk (window 1 0 0 0) 0 gives refused 16
    ∷ set_minute pair [] 0 gives number 0
    ∷ []
-- The share of a window is 1 to 10,000 for a node that is fixed or weighted in the plan, also where it is stated in the table. Fixed
-- 10,000 leaves nothing to the weight.
hour_scenario share_limits =
    disk 1000 40 gives number 0
    ∷ join 1 root client stated 300 10 gives number 0
    ∷ join 2 root client stated 300 10 gives number 0
    ∷ set_minute pair (window 1 540 1080 0) 0 gives refused 2
    ∷ set_minute pair (window_ℤ (pos 1) (pos 540) (pos 1080) (neg_ℤ (pos 1))) 0 gives refused 2
    ∷ set_minute pair (window 1 540 1080 (suc whole_share)) 0 gives refused 2
    ∷ set_minute pair (window 2 540 1080 0) 0 gives refused 2
    ∷ set_minute pair (window_ℤ (pos 2) (pos 540) (pos 1080) (neg_ℤ (pos 1))) 0 gives refused 2
    ∷ set_minute pair (window 2 540 1080 (suc whole_share)) 0 gives refused 2
    ∷ look 1 gives seen 300 (pos 0) 0 0
    ∷ set_minute pair (window 1 540 1080 whole_share ++ window 2 540 1080 whole_share) 540 gives number 0
    ∷ look 1 gives seen 1000 (pos 0) 0 0
    ∷ look 2 gives seen 0 (pos 0) 0 0
    ∷ set_minute pair (window 1 540 1080 1 ++ window 2 540 1080 1) 540 gives number 0
    ∷ look 1 gives seen 0 (pos 0) 0 0
    ∷ look 2 gives seen 999 (pos 0) 0 0
    ∷ look root gives seen 1000 (pos 0) 0 1
    ∷ []
-- For a node that is stated in the plan it is 1 to 1,000,000,000, also where it is weighted in the table: 2 outside, and 16 inside where
-- it is above the disk's 1000. All of the disk's rate may be stated.
hour_scenario stated_limits =
    disk 1000 40 gives number 0
    ∷ join 1 root client weighted 1 10 gives number 0
    ∷ join 2 root client weighted 1 10 gives number 0
    ∷ join 3 root client weighted 1 10 gives number 0
    ∷ set_minute playout (window 1 540 1080 0) 0 gives refused 2
    ∷ set_minute playout (window_ℤ (pos 1) (pos 540) (pos 1080) (neg_ℤ (pos 1))) 0 gives refused 2
    ∷ set_minute playout (window 1 540 1080 (suc greatest_rate)) 0 gives refused 2
    ∷ set_minute playout (window 1 540 1080 greatest_rate) 0 gives refused 16
    ∷ set_minute playout (window 1 540 1080 (suc whole_share)) 0 gives refused 16
    ∷ set_minute playout (window 1 540 1080 1001) 0 gives refused 16
    ∷ set_minute playout (window 1 540 1080 1000) 540 gives number 0
    ∷ look 1 gives seen 1000 (pos 0) 0 0
    ∷ look 2 gives seen 0 (pos 0) 0 0
    ∷ look 3 gives seen 0 (pos 0) 0 0
    ∷ []
-- On the greatest disk a window may have the greatest rate.
hour_scenario greatest_stated =
    disk greatest_rate 40 gives number 0
    ∷ join 1 root client weighted 1 10 gives number 0
    ∷ join 2 root client weighted 1 10 gives number 0
    ∷ set_minute great_disk (window 1 540 1080 (suc greatest_rate)) 540 gives refused 2
    ∷ set_minute great_disk (window 1 540 1080 greatest_rate) 540 gives number 0
    ∷ look 1 gives seen greatest_rate (pos 0) 0 0
    ∷ look 2 gives seen 0 (pos 0) 0 0
    ∷ []
-- 17 before 2 for a share: a window without minutes behind one with share 0. 2 for a share before 7: share 0 behind fixed 9000 beside
-- 2000, or before it. Each cause by itself.
hour_scenario share_first =
    disk 1000 40 gives number 0
    ∷ join 1 root client weighted 1 10 gives number 0
    ∷ join 2 root client weighted 1 10 gives number 0
    ∷ join 3 root client weighted 1 10 gives number 0
    ∷ set_minute suites (window 1 540 1080 0 ++ window 2 1200 1200 7000) 0 gives refused 17
    ∷ set_minute suites (window 1 540 1080 0) 0 gives refused 2
    ∷ set_minute suites (window 2 1200 1200 7000) 0 gives refused 17
    ∷ set_minute suites (window 1 540 1080 9000 ++ window 3 1200 1680 0) 0 gives refused 2
    ∷ set_minute suites (window 3 540 1080 0 ++ window 1 1200 1680 9000) 0 gives refused 2
    ∷ set_minute suites (window 3 540 1080 0) 0 gives refused 2
    ∷ set_minute suites (window 1 540 1080 9000) 0 gives refused 7
    ∷ look 1 gives seen 333 (pos 0) 0 0
    ∷ []
-- 7 before 16, also where 16 is there at earlier minutes alone: stated 1001 of 1000 from minute 0 to 10, fixed 5001 beside 5000 from 100
-- to 200. Each cause by itself.
hour_scenario seven_first =
    disk 1000 40 gives number 0
    ∷ join 1 root client weighted 1 10 gives number 0
    ∷ join 2 root client weighted 1 10 gives number 0
    ∷ join 3 root client weighted 1 10 gives number 0
    ∷ set_minute both_sums (window 1 0 10 1001 ++ window 2 100 200 5001) 0 gives refused 7
    ∷ set_minute both_sums (window 2 100 200 5001) 0 gives refused 7
    ∷ set_minute both_sums (window 1 0 10 1001) 0 gives refused 16
    ∷ set_minute both_sums (window 1 0 10 1000 ++ window 2 100 200 5000) 0 gives number 0
    ∷ []
-- 17 for another tree: a node missing, another depth, another sort, a node more, another disk rate, another root depth, which also
-- comes before 2 for a share.
hour_scenario shapes =
    disk 1000 40 gives number 0
    ∷ join 1 root client weighted 1 10 gives number 0
    ∷ join 2 root client weighted 1 10 gives number 0
    ∷ set_minute suites [] 0 gives refused 17
    ∷ join 3 root client weighted 1 9 gives number 0
    ∷ set_minute suites [] 0 gives refused 17
    ∷ leave 3 gives number 0
    ∷ join 3 root class weighted 1 10 gives number 0
    ∷ set_minute suites [] 0 gives refused 17
    ∷ leave 3 gives number 0
    ∷ join 3 root client weighted 1 10 gives number 0
    ∷ set_minute suites [] 0 gives number 0
    ∷ join 4 root client weighted 1 10 gives number 0
    ∷ set_minute suites [] 0 gives refused 17
    ∷ leave 4 gives number 0
    ∷ change_rate 999 gives number 0
    ∷ set_minute suites [] 0 gives refused 17
    ∷ change_rate 1000 gives number 0
    ∷ set_minute suites [] 0 gives number 0
    ∷ disk 1000 41 gives number 0
    ∷ join 1 root client weighted 1 10 gives number 0
    ∷ join 2 root client weighted 1 10 gives number 0
    ∷ join 3 root client weighted 1 10 gives number 0
    ∷ set_minute suites [] 0 gives refused 17
    ∷ set_minute suites (window 1 540 1080 0) 0 gives refused 17
    ∷ []
-- The same with classes: another parent, and another depth of a class.
hour_scenario class_shapes =
    disk 1000 40 gives number 0
    ∷ join 1 root class fixed 100 20 gives number 0
    ∷ join 2 root class fixed 100 20 gives number 0
    ∷ join 3 2 client fixed 100 10 gives number 0
    ∷ set_minute classes [] 0 gives refused 17
    ∷ leave 3 gives number 0
    ∷ join 3 1 client fixed 100 10 gives number 0
    ∷ set_minute classes [] 0 gives number 0
    ∷ leave 2 gives number 0
    ∷ join 2 root class fixed 100 19 gives number 0
    ∷ set_minute classes [] 0 gives refused 17
    ∷ leave 2 gives number 0
    ∷ join 2 root class fixed 100 20 gives number 0
    ∷ set_minute classes [] 0 gives number 0
    ∷ []
-- 17 for a list that is no whole windows, for bad minutes, and for a window of the root or of a node that is not there.
hour_scenario window_forms =
    disk 1000 40 gives number 0
    ∷ join 1 root client weighted 1 10 gives number 0
    ∷ join 2 root client weighted 1 10 gives number 0
    ∷ set_minute pair (pos 1 ∷ []) 0 gives refused 17
    ∷ set_minute pair (pos 1 ∷ pos 540 ∷ []) 0 gives refused 17
    ∷ set_minute pair (pos 1 ∷ pos 540 ∷ pos 1080 ∷ []) 0 gives refused 17
    ∷ set_minute pair (window 1 540 1080 7000 ++ (pos 2 ∷ [])) 0 gives refused 17
    ∷ set_minute pair (window_ℤ (pos 1) (neg_ℤ (pos 1)) (pos 1080) (pos 7000)) 0 gives refused 17
    ∷ set_minute pair (window_ℤ (pos 1) (pos 540) (neg_ℤ (pos 1)) (pos 7000)) 0 gives refused 17
    ∷ set_minute pair (window 1 540 540 7000) 0 gives refused 17
    ∷ set_minute pair (window 1 1080 540 7000) 0 gives refused 17
    ∷ set_minute pair (window 1 540 10081 7000) 0 gives refused 17
    ∷ set_minute pair (window 1 10080 10081 7000) 0 gives refused 17
    ∷ set_minute pair (window 1 540 greatest_number 7000) 0 gives refused 17
    ∷ set_minute pair (window root 540 1080 7000) 0 gives refused 17
    ∷ set_minute pair (window_ℤ (neg_ℤ (pos 1)) (pos 540) (pos 1080) (pos 7000)) 0 gives refused 17
    ∷ set_minute pair (window 3 540 1080 7000) 0 gives refused 17
    ∷ set_minute pair (window last_node 540 1080 7000) 0 gives refused 17
    ∷ set_minute pair (window nodes 540 1080 7000) 0 gives refused 17
    ∷ look 1 gives seen 500 (pos 0) 0 0
    ∷ set_minute pair (window 1 540 1080 7000) 540 gives number 0
    ∷ look 1 gives seen 700 (pos 0) 0 0
    ∷ []
-- 17 for two windows of one node that overlap by one minute, in either order in the list and with another between them; for the same
-- window twice; and for one inside another.
hour_scenario overlaps =
    disk 1000 40 gives number 0
    ∷ join 1 root client weighted 1 10 gives number 0
    ∷ join 2 root client weighted 1 10 gives number 0
    ∷ set_minute pair (window 1 540 1080 7000 ++ window 1 1079 1200 7000) 0 gives refused 17
    ∷ set_minute pair (window 1 1079 1200 7000 ++ window 1 540 1080 7000) 0 gives refused 17
    ∷ set_minute pair (window 1 540 1080 7000 ++ window 2 540 1080 2 ++ window 1 1079 1200 7000) 0 gives refused 17
    ∷ set_minute pair (window 1 540 1080 7000 ++ window 1 540 1080 7000) 0 gives refused 17
    ∷ set_minute pair (window 1 540 1080 7000 ++ window 1 600 700 5000) 0 gives refused 17
    ∷ set_minute pair (window 1 600 700 5000 ++ window 1 540 1080 7000) 0 gives refused 17
    ∷ set_minute pair (window 1 540 1080 7000 ++ window 2 540 1080 2 ++ window 1 1080 1200 7000) 0 gives number 0
    ∷ []
-- Windows of one node that touch, in either order in the list: 7000 before minute 1080, 5000 from then on. The table has the plan's kinds
-- and other shares.
hour_scenario touching =
    disk 1000 40 gives number 0
    ∷ join 1 root client fixed 100 10 gives number 0
    ∷ join 2 root client fixed 300 10 gives number 0
    ∷ join 3 root client weighted 7 10 gives number 0
    ∷ set_minute suites (window 1 540 1080 7000 ++ window 1 1080 1200 5000) 1079 gives number 0
    ∷ look 1 gives seen 700 (pos 0) 0 0
    ∷ look 3 gives seen 100 (pos 0) 0 0
    ∷ set_minute suites (window 1 540 1080 7000 ++ window 1 1080 1200 5000) 1080 gives number 0
    ∷ look 1 gives seen 500 (pos 0) 0 0
    ∷ look 3 gives seen 300 (pos 0) 0 0
    ∷ set_minute suites (window 1 1080 1200 5000 ++ window 1 540 1080 7000) 1080 gives number 0
    ∷ look 1 gives seen 500 (pos 0) 0 0
    ∷ set_minute suites (window 1 1080 1200 5000 ++ window 1 540 1080 7000) 1200 gives number 0
    ∷ look 1 gives seen 200 (pos 0) 0 0
    ∷ []
-- No windows; windows of two nodes at the same minutes; a window over the whole week; and windows of its first and of its last minute.
-- What change share gave is gone.
hour_scenario whole_week =
    disk 1000 40 gives number 0
    ∷ join 1 root client weighted 1 10 gives number 0
    ∷ join 2 root client weighted 1 10 gives number 0
    ∷ join 3 root client weighted 1 10 gives number 0
    ∷ set_minute suites [] 540 gives number 0
    ∷ look 1 gives seen 200 (pos 0) 0 0
    ∷ look 2 gives seen 200 (pos 0) 0 0
    ∷ look 3 gives seen 600 (pos 0) 0 0
    ∷ set_minute suites (window 1 540 1080 5000 ++ window 2 540 1080 5000) 540 gives number 0
    ∷ look 1 gives seen 500 (pos 0) 0 0
    ∷ look 2 gives seen 500 (pos 0) 0 0
    ∷ look 3 gives seen 0 (pos 0) 0 0
    ∷ change_share 1 weighted 3 gives number 0
    ∷ set_minute suites (window 1 0 10080 7000) 0 gives number 0
    ∷ look 1 gives seen 700 (pos 0) 0 0
    ∷ look 2 gives seen 200 (pos 0) 0 0
    ∷ set_minute suites (window 1 0 10080 7000) 10079 gives number 0
    ∷ look 1 gives seen 700 (pos 0) 0 0
    ∷ set_minute suites (window 1 0 1 7000 ++ window 2 10079 10080 7000) 0 gives number 0
    ∷ look 1 gives seen 700 (pos 0) 0 0
    ∷ look 2 gives seen 200 (pos 0) 0 0
    ∷ set_minute suites (window 1 0 1 7000 ++ window 2 10079 10080 7000) 1 gives number 0
    ∷ look 1 gives seen 200 (pos 0) 0 0
    ∷ set_minute suites (window 1 0 1 7000 ++ window 2 10079 10080 7000) 10079 gives number 0
    ∷ look 1 gives seen 200 (pos 0) 0 0
    ∷ look 2 gives seen 700 (pos 0) 0 0
    ∷ []
-- Kinds and shares differ from the plan's: weight 1, stated 300, and fixed 500 of the 700 that this leaves, which is 35; 665 are left for
-- the weight. Client 2 is on port 1. After a tick all have these balances, and the root 1000. Set minute changes the rates alone. Size 1
-- costs 8, so a request goes once the root has 8000, and client 2's on the second list.
hour_scenario requests_stay =
    disk 1000 40 gives number 0
    ∷ join 1 root client weighted 1 10 gives number 0
    ∷ join_on second_port 2 root client stated 300 10 gives number 0
    ∷ join 3 root client fixed 500 10 gives number 0
    ∷ request 1 10 1 gives number 1
    ∷ request 2 20 1 gives number 2
    ∷ tick_both 4 4 lists [] and []
    ∷ look 1 gives seen 665 (pos 665) 1 0
    ∷ look 2 gives seen 300 (pos 300) 1 0
    ∷ look 3 gives seen 35 (pos 35) 0 0
    ∷ set_minute suites (window 1 540 1080 7000) 540 gives number 0
    ∷ look 1 gives seen 700 (pos 665) 1 0
    ∷ look 2 gives seen 200 (pos 300) 1 0
    ∷ look 3 gives seen 100 (pos 35) 0 0
    ∷ look root gives seen 1000 (pos 1000) 0 0
    ∷ set_balance root (pos 7000)
    ∷ tick_both 4 4 lists (dispatch 1 10 1 root ∷ []) and []
    ∷ look 1 gives seen 700 (pos 1365) 0 0
    ∷ look 2 gives seen 200 (pos 500) 1 0
    ∷ look 3 gives seen 100 (pos 135) 0 0
    ∷ look root gives seen 1000 (pos 0) 0 0
    ∷ set_minute suites (window 1 540 1080 7000) 1080 gives number 0
    ∷ set_balance root (pos 7000)
    ∷ tick_both 0 4 lists [] and (dispatch 2 20 1 root ∷ [])
    ∷ look 1 gives seen 200 (pos 1565) 0 0
    ∷ look 2 gives seen 200 (pos 700) 0 0
    ∷ look 3 gives seen 600 (pos 735) 0 0
    ∷ []
-- A window of a stated node: 300 leave 700, and fixed 5000 gets 350 of these; 600 leave 400, and it gets 200.
hour_scenario stated_hours =
    disk 1000 40 gives number 0
    ∷ join 1 root client weighted 1 10 gives number 0
    ∷ join 2 root client weighted 1 10 gives number 0
    ∷ join 3 root client fixed 1 10 gives number 0
    ∷ set_minute playout (window 1 540 1080 600) 0 gives number 0
    ∷ look 1 gives seen 300 (pos 0) 0 0
    ∷ look 2 gives seen 350 (pos 0) 0 0
    ∷ look 3 gives seen 350 (pos 0) 0 0
    ∷ set_minute playout (window 1 540 1080 600) 540 gives number 0
    ∷ look 1 gives seen 600 (pos 0) 0 0
    ∷ look 2 gives seen 200 (pos 0) 0 0
    ∷ look 3 gives seen 200 (pos 0) 0 0
    ∷ []
-- 7 at one minute of the week is 7 at every minute: fixed 8001 beside 2000 at minute 5000 alone, and at the last minute alone; two
-- windows that are both there at minute 99 alone; 9000 beside 1000, whose window ends first, so that 2000 count again. Where the second
-- starts at 100, they never meet: 5001 of 1000 are 500, 2999 are 299, and one grain is lost.
hour_scenario one_minute =
    disk 1000 40 gives number 0
    ∷ join 1 root client weighted 1 10 gives number 0
    ∷ join 2 root client weighted 1 10 gives number 0
    ∷ join 3 root client weighted 1 10 gives number 0
    ∷ set_minute suites (window 1 5000 5001 8001) 0 gives refused 7
    ∷ set_minute suites (window 1 5000 5001 8001) 5000 gives refused 7
    ∷ set_minute suites (window 1 5000 5001 8001) 5001 gives refused 7
    ∷ set_minute suites (window 1 10079 10080 8001) 0 gives refused 7
    ∷ set_minute suites (window 1 0 100 5000 ++ window 2 99 200 5001) 300 gives refused 7
    ∷ set_minute suites (window 1 0 100 1000 ++ window 2 50 200 9000) 50 gives refused 7
    ∷ look 1 gives seen 333 (pos 0) 0 0
    ∷ set_minute suites (window 1 5000 5001 8000) 5000 gives number 0
    ∷ look 1 gives seen 800 (pos 0) 0 0
    ∷ look 2 gives seen 200 (pos 0) 0 0
    ∷ look 3 gives seen 0 (pos 0) 0 0
    ∷ set_minute suites (window 1 5000 5001 8000) 5001 gives number 0
    ∷ look 1 gives seen 200 (pos 0) 0 0
    ∷ set_minute suites (window 1 0 100 5000 ++ window 2 100 200 5001) 100 gives number 0
    ∷ look 1 gives seen 200 (pos 0) 0 0
    ∷ look 2 gives seen 500 (pos 0) 0 0
    ∷ look 3 gives seen 299 (pos 0) 0 0
    ∷ look root gives seen 1000 (pos 0) 0 1
    ∷ []
-- 16 at one minute of the week is 16 at every minute.
hour_scenario one_stated_minute =
    disk 1000 40 gives number 0
    ∷ join 1 root client weighted 1 10 gives number 0
    ∷ join 2 root client weighted 1 10 gives number 0
    ∷ join 3 root client weighted 1 10 gives number 0
    ∷ set_minute playout (window 1 5000 5001 1001) 0 gives refused 16
    ∷ set_minute playout (window 1 5000 5001 1001) 5000 gives refused 16
    ∷ set_minute playout (window 1 5000 5001 1001) 5001 gives refused 16
    ∷ set_minute playout (window 1 10079 10080 1001) 0 gives refused 16
    ∷ set_minute playout (window 1 5000 5001 1000) 0 gives number 0
    ∷ look 1 gives seen 300 (pos 0) 0 0
    ∷ []
-- Windows under a class and of a class. Fixed 5001 beside 5000 under class 1 is 7; 4000 beside it leaves 100 of its 1000 to nobody. A
-- class of weight 3 beside one of weight 1 has 750, and the client in it, too.
hour_scenario class_hours =
    disk 1000 40 gives number 0
    ∷ join 1 root class fixed 100 20 gives number 0
    ∷ join 2 1 client weighted 1 10 gives number 0
    ∷ join 3 1 client weighted 1 10 gives number 0
    ∷ set_minute halves (window 2 540 1080 5001) 0 gives refused 7
    ∷ set_minute halves (window 2 540 1080 4000) 540 gives number 0
    ∷ look 1 gives seen 1000 (pos 0) 0 100
    ∷ look 2 gives seen 400 (pos 0) 0 0
    ∷ look 3 gives seen 500 (pos 0) 0 0
    ∷ disk 1000 40 gives number 0
    ∷ join 1 root class fixed 100 20 gives number 0
    ∷ join 2 root class fixed 100 20 gives number 0
    ∷ join 3 1 client fixed 100 10 gives number 0
    ∷ set_minute classes (window 1 540 1080 3) 540 gives number 0
    ∷ look 1 gives seen 750 (pos 0) 0 0
    ∷ look 2 gives seen 250 (pos 0) 0 250
    ∷ look 3 gives seen 750 (pos 0) 0 0
    ∷ []
