-- What documents 01 and 02 say in words of rates, lost grains, buckets, the tick and a table in order, as scenarios.
use Rattle.std.specs.Prelude.{suc, ◌+◌, ◌-◌, [], ◌∷◌, pos, neg_ℤ}
use Rattle.definitions.specs.Limits.{nodes, root, class, client, fixed, weighted, stated, first_port, second_port, whole_share, greatest_depth, greatest_rate, greatest_count, most_waiting, sort_at, parent_at, level_at, kind_at, share_at, depth_at, rate_at, balance_at, waiting_at, port_at, spare_at, spare_length, tag_at, size_at, arrival_at}
use Rattle.definitions.specs.Places.{queue_place}
use Rattle.definitions.specs.Refusals.{refused}
use Rattle.scenarios.specs.Scenario.{Scenario, disk, join_on, join, leave, change_share, change_rate, request, look, tick_both, tick, dispatch, at_place, at_header, ◌gives◌, ◌answers◌leaving◌and◌, ◌lists◌, ◌lists◌and◌, fits, spoils, set_balance, number, counts, seen, greatest_number}

-- The cases by name.
pub data Case : Type 0 where
  rounded_down lost_by_classes empty_buckets rest_of_list cut_to_depth first_supplier header_places nodes_in_order sums_in_order requests_in_order stated_nodes port_places : Case

unfoldable pub scenario : Case → Scenario
-- "rounded down", what the fixed shares leave too: of 1000, fixed 3333 gets 333, and 666 are left for one weight; of these
-- the weights 3 and 4 get 285 and 380.
scenario rounded_down =
    disk 1000 40 gives number 0
    ∷ join 1 root client fixed 3333 10 gives number 0
    ∷ join 2 root client weighted 3 10 gives number 0
    ∷ look 1 gives seen 333 (pos 0) 0 0
    ∷ look 2 gives seen 666 (pos 0) 0 0
    ∷ join 3 root client weighted 4 10 gives number 0
    ∷ look 2 gives seen 285 (pos 0) 0 0
    ∷ look 3 gives seen 380 (pos 0) 0 0
    ∷ []
-- "Look on a class also returns its rate less the sum of its children's rates, exactly. For a client it is 0." Class 1 has
-- 200: of that fixed 3333 gets 66, and of the 133 that are left the weights 1 and 2 get 44 and 88. The disk has two children,
-- with 200 and 100.
scenario lost_by_classes =
    disk 1000 60 gives number 0
    ∷ join 1 root class fixed 2000 30 gives number 0
    ∷ join 2 1 client fixed 3333 10 gives number 0
    ∷ join 3 1 client weighted 1 10 gives number 0
    ∷ join 4 1 client weighted 2 10 gives number 0
    ∷ join 5 root client fixed 1000 10 gives number 0
    ∷ look root gives seen 1000 (pos 0) 0 700
    ∷ look 1 gives seen 200 (pos 0) 0 2
    ∷ look 2 gives seen 66 (pos 0) 0 0
    ∷ look 4 gives seen 88 (pos 0) 0 0
    ∷ leave 4 gives number 0
    ∷ look 1 gives seen 200 (pos 0) 0 1
    ∷ leave 3 gives number 0
    ∷ look 1 gives seen 200 (pos 0) 0 134
    ∷ change_rate 1 gives number 0
    ∷ look root gives seen 1 (pos 0) 0 1
    ∷ look 1 gives seen 0 (pos 0) 0 0
    ∷ []
-- "Open .. makes the root with balance 0. Join .. starts at balance 0", also where a node leaves and comes back.
scenario empty_buckets =
    disk 900 40 gives number 0
    ∷ look root gives seen 900 (pos 0) 0 900
    ∷ join 1 root client weighted 1 16 gives number 0
    ∷ look 1 gives seen 900 (pos 0) 0 0
    ∷ tick 0 lists []
    ∷ look 1 gives seen 900 (pos 900) 0 0
    ∷ leave 1 gives number 0
    ∷ join 1 root client fixed 5000 16 gives number 0
    ∷ look 1 gives seen 450 (pos 0) 0 0
    ∷ []
-- "The list gets four numbers each: client, tag, size, supplier. The answer is how many were dispatched; the list beyond
-- them stays untouched." Each list does; what they hold beyond the entries here are sevens and eights.
scenario rest_of_list =
    disk 8000 40 gives number 0
    ∷ join 5 root client weighted 1 16 gives number 0
    ∷ request 5 50 1 gives number 1
    ∷ join_on second_port 6 root client fixed 5000 16 gives number 0
    ∷ request 6 60 1 gives number 2
    ∷ tick_both 6 5 answers counts 1 0 leaving (pos 5 ∷ pos 50 ∷ pos 1 ∷ pos 0 ∷ pos 7 ∷ pos 7 ∷ []) and (pos 8 ∷ pos 8 ∷ pos 8 ∷ pos 8 ∷ pos 8 ∷ [])
    ∷ tick_both 1 6 answers counts 0 1 leaving (pos 7 ∷ []) and (pos 6 ∷ pos 60 ∷ pos 1 ∷ pos 6 ∷ pos 8 ∷ pos 8 ∷ [])
    ∷ []
-- "Every balance above depth × 1000 is cut to that", after what waits at a client is dispatched from its own balance.
scenario cut_to_depth =
    disk 8000 40 gives number 0
    ∷ join 1 root client weighted 1 8 gives number 0
    ∷ tick 0 lists []
    ∷ tick 0 lists []
    ∷ look 1 gives seen 8000 (pos 8000) 0 0
    ∷ look root gives seen 8000 (pos 16000) 0 0
    ∷ request 1 10 1 gives number 1
    ∷ request 1 11 1 gives number 2
    ∷ tick 8 lists (dispatch 1 10 1 1 ∷ dispatch 1 11 1 1 ∷ [])
    ∷ look 1 gives seen 8000 (pos 0) 0 0
    ∷ look root gives seen 8000 (pos 8000) 0 0
    ∷ []
-- "The supplier is the first node with enough balance on the way from the client up to the root"; a dispatch charges it "and
-- every node above it, the root included, and .. none below it". At the third tick client 2 has 6000, class 1 has 12000.
scenario first_supplier =
    disk 8000 40 gives number 0
    ∷ join 1 root class fixed 5000 20 gives number 0
    ∷ join 2 1 client weighted 1 10 gives number 0
    ∷ join 3 1 client weighted 1 10 gives number 0
    ∷ tick 0 lists []
    ∷ tick 0 lists []
    ∷ request 2 20 1 gives number 1
    ∷ tick 4 lists (dispatch 2 20 1 1 ∷ [])
    ∷ look 2 gives seen 2000 (pos 6000) 0 0
    ∷ look 1 gives seen 4000 (pos 4000) 0 0
    ∷ look root gives seen 8000 (pos 16000) 0 4000
    ∷ []
-- "places 1 to 7 are zero", and the count is 0 to 9,000,000,000,000,000,000.
scenario header_places =
    disk 1000 40 gives number 0
    ∷ spoils (at_header 1 (pos 1))
    ∷ look root gives refused 1
    ∷ fits (at_header 1 (pos 0))
    ∷ spoils (at_header 7 (neg_ℤ (pos 1)))
    ∷ look root gives refused 1
    ∷ fits (at_header 7 (pos 0))
    ∷ spoils (at_header 0 (neg_ℤ (pos 1)))
    ∷ spoils (at_header 0 (pos (suc greatest_count)))
    ∷ fits (at_header 0 (pos greatest_count))
    ∷ []
-- "Node 0 is the root: a class, its own parent, fixed, share 10,000, rate 1 to 1,000,000,000"; "every other node's parent is a
-- class one level above it; classes have levels 0 to 3"; the limits of a node's places.
scenario nodes_in_order =
    disk 1000 40 gives number 0
    ∷ spoils (at_place root sort_at (pos client))
    ∷ fits (at_place root sort_at (pos class))
    ∷ spoils (at_place root rate_at (pos 0))
    ∷ spoils (at_place root rate_at (pos (suc greatest_rate)))
    ∷ fits (at_place root rate_at (pos 1000))
    ∷ join 1 root class fixed 5000 20 gives number 0
    ∷ join 2 1 class weighted 1 20 gives number 0
    ∷ join 3 2 class weighted 1 20 gives number 0
    ∷ join 4 3 client weighted 1 20 gives number 0
    ∷ join 5 root client weighted 1 20 gives number 0
    ∷ spoils (at_place root parent_at (pos 1))
    ∷ fits (at_place root parent_at (pos root))
    ∷ spoils (at_place root level_at (pos 1))
    ∷ fits (at_place root level_at (pos 0))
    ∷ spoils (at_place root kind_at (pos weighted))
    ∷ fits (at_place root kind_at (pos fixed))
    ∷ spoils (at_place root share_at (pos (whole_share - 1)))
    ∷ fits (at_place root share_at (pos whole_share))
    ∷ spoils (at_place 2 parent_at (pos 5))
    ∷ fits (at_place 2 parent_at (pos 1))
    ∷ spoils (at_place 4 parent_at (pos nodes))
    ∷ fits (at_place 4 parent_at (pos 3))
    ∷ spoils (at_place 4 level_at (pos 3))
    ∷ fits (at_place 4 level_at (pos 4))
    ∷ spoils (at_place 4 sort_at (pos class))
    ∷ spoils (at_place 4 sort_at (pos 3))
    ∷ fits (at_place 4 sort_at (pos client))
    ∷ spoils (at_place 4 kind_at (pos (suc stated)))
    ∷ fits (at_place 4 kind_at (pos weighted))
    ∷ spoils (at_place 4 share_at (pos 0))
    ∷ spoils (at_place 4 share_at (pos (suc whole_share)))
    ∷ fits (at_place 4 share_at (pos whole_share))
    ∷ spoils (at_place 4 depth_at (pos 0))
    ∷ fits (at_place 4 depth_at (pos 1))
    ∷ spoils (at_place root depth_at (pos (suc greatest_depth)))
    ∷ fits (at_place root depth_at (pos greatest_depth))
    ∷ spoils (at_place 4 waiting_at (neg_ℤ (pos 1)))
    ∷ spoils (at_place 4 waiting_at (pos (suc most_waiting)))
    ∷ fits (at_place 4 waiting_at (pos 0))
    ∷ []
-- "fixed shares under one class sum to at most 10,000, and children's depths to at most its depth; rates obey the next
-- section; no balance exceeds depth × 1000; a client's balance is at least 0; a class's balance is at least the sum of its
-- children's balances less its own depth × 1000".
scenario sums_in_order =
    disk 1000 40 gives number 0
    ∷ join 1 root class fixed 5000 20 gives number 0
    ∷ join 2 1 client weighted 1 10 gives number 0
    ∷ join 3 root client weighted 1 10 gives number 0
    ∷ spoils (at_place 3 kind_at (pos fixed))
    ∷ spoils (at_place 3 share_at (pos 5001))
    ∷ fits (at_place 3 share_at (pos 5000))
    ∷ spoils (at_place 3 depth_at (pos 21))
    ∷ fits (at_place 3 depth_at (pos 20))
    ∷ spoils (at_place 3 rate_at (pos 499))
    ∷ fits (at_place 3 rate_at (pos 500))
    ∷ spoils (at_place 3 balance_at (pos 20001))
    ∷ spoils (at_place 3 balance_at (neg_ℤ (pos 1)))
    ∷ set_balance 3 (pos 20000)
    ∷ set_balance 2 (pos 10000)
    ∷ set_balance 1 (neg_ℤ (pos 10000))
    ∷ spoils (at_place 1 balance_at (neg_ℤ (pos 10001)))
    ∷ []
-- "all unused records and places are zero"; "classes have nothing waiting"; a waiting size is at least 1 and its cost at most
-- its client's depth, so up to 7 at depth 10; "arrival numbers are 1 to the header's count, rising within a client and
-- different everywhere. A tag is any number."
scenario requests_in_order =
    disk 1000 40 gives number 0
    ∷ join 1 root client weighted 1 10 gives number 0
    ∷ join 2 root client weighted 1 10 gives number 0
    ∷ request 1 10 3 gives number 1
    ∷ request 1 11 3 gives number 2
    ∷ request 2 20 3 gives number 3
    ∷ spoils (at_place 3 balance_at (pos 1))
    ∷ fits (at_place 3 balance_at (pos 0))
    ∷ spoils (at_place 1 spare_at (pos 1))
    ∷ fits (at_place 1 spare_at (pos 0))
    ∷ spoils (at_place 1 (spare_at + spare_length - 1) (pos 1))
    ∷ fits (at_place 1 (spare_at + spare_length - 1) (pos 0))
    ∷ spoils (at_place 1 (queue_place 2 + tag_at) (pos 1))
    ∷ fits (at_place 1 (queue_place 2 + tag_at) (pos 0))
    ∷ spoils (at_place 2 sort_at (pos class))
    ∷ fits (at_place 2 sort_at (pos client))
    ∷ spoils (at_place 2 (queue_place 0 + size_at) (pos 0))
    ∷ spoils (at_place 2 (queue_place 0 + size_at) (neg_ℤ (pos 1)))
    ∷ spoils (at_place 2 (queue_place 0 + size_at) (pos 8))
    ∷ spoils (at_place 2 (queue_place 0 + size_at) (pos 10))
    ∷ spoils (at_place 2 (queue_place 0 + size_at) (pos greatest_number))
    ∷ fits (at_place 2 (queue_place 0 + size_at) (pos 7))
    ∷ spoils (at_place 2 (queue_place 0 + arrival_at) (pos 0))
    ∷ spoils (at_place 2 (queue_place 0 + arrival_at) (pos 4))
    ∷ spoils (at_place 2 (queue_place 0 + arrival_at) (pos 2))
    ∷ fits (at_place 2 (queue_place 0 + arrival_at) (pos 3))
    ∷ spoils (at_place 1 (queue_place 1 + arrival_at) (pos 1))
    ∷ fits (at_place 1 (queue_place 1 + arrival_at) (pos 2))
    ∷ fits (at_place 1 (queue_place 1 + tag_at) (neg_ℤ (pos 7)))
    ∷ []
-- Document 02, (f): a stated node is in order under the root, with its share for its rate. It is not with another rate, under
-- another class, with an unknown kind, where the stated rates are above the disk's, or with a share above the greatest rate. Client
-- 2, alone in its class, has the rate 700 by any weight, so that stated 700 would be its rate, too; where all of the disk's rate is
-- stated its rate is 0. The root itself is fixed.
scenario stated_nodes =
    disk 1000 40 gives number 0
    ∷ join 1 root class weighted 1 20 gives number 0
    ∷ join 2 1 client weighted 700 10 gives number 0
    ∷ join 3 root client stated 300 10 gives number 0
    ∷ spoils (at_place 3 rate_at (pos 299))
    ∷ fits (at_place 3 rate_at (pos 300))
    ∷ spoils (at_place 3 kind_at (pos fixed))
    ∷ fits (at_place 3 kind_at (pos stated))
    ∷ look 2 gives seen 700 (pos 0) 0 0
    ∷ spoils (at_place 2 kind_at (pos stated))
    ∷ fits (at_place 2 kind_at (pos weighted))
    ∷ spoils (at_place root kind_at (pos stated))
    ∷ fits (at_place root kind_at (pos fixed))
    ∷ change_share 3 stated 1000 gives number 0
    ∷ spoils (at_place 2 kind_at (pos (suc stated)))
    ∷ fits (at_place 2 kind_at (pos weighted))
    ∷ spoils (at_place root rate_at (pos 999))
    ∷ fits (at_place root rate_at (pos 1000))
    ∷ change_rate greatest_rate gives number 0
    ∷ change_share 3 stated greatest_rate gives number 0
    ∷ spoils (at_place 3 share_at (pos (suc greatest_rate)))
    ∷ fits (at_place 3 share_at (pos greatest_rate))
    ∷ []
-- Document 02, (g): "Place 9 of a client's record becomes its port, 0 or 1 ..; for classes it stays zero." Places 10 to 15 and all
-- places of an unused record stay zero. A request or a tick leaves the port; leave zeroes it.
scenario port_places =
    disk 8000 40 gives number 0
    ∷ join 1 root class weighted 1 20 gives number 0
    ∷ join 2 1 client weighted 1 10 gives number 0
    ∷ join_on second_port 3 1 client weighted 1 10 gives number 0
    ∷ fits (at_place 3 port_at (pos second_port))
    ∷ spoils (at_place 3 port_at (pos (suc second_port)))
    ∷ spoils (at_place 3 port_at (neg_ℤ (pos 1)))
    ∷ spoils (at_place 3 port_at (pos greatest_number))
    ∷ fits (at_place 3 port_at (pos second_port))
    ∷ fits (at_place 2 port_at (pos second_port))
    ∷ fits (at_place 2 port_at (pos first_port))
    ∷ spoils (at_place 1 port_at (pos second_port))
    ∷ fits (at_place 1 port_at (pos 0))
    ∷ spoils (at_place root port_at (pos second_port))
    ∷ fits (at_place root port_at (pos 0))
    ∷ spoils (at_place 4 port_at (pos second_port))
    ∷ fits (at_place 4 port_at (pos 0))
    ∷ request 3 31 1 gives number 1
    ∷ tick_both 0 4 lists [] and (dispatch 3 31 1 1 ∷ [])
    ∷ request 3 32 1 gives number 2
    ∷ tick_both 0 4 lists [] and (dispatch 3 32 1 3 ∷ [])
    ∷ leave 3 gives number 0
    ∷ fits (at_place 2 port_at (pos first_port))
    ∷ []
