-- What is turned back, as scenarios: every cause of each call by itself, and beside the next cause that can hold with it,
-- where the first counts. Node 9 is never there.
use Rattle.std.specs.Prelude.{suc, ◌-◌, [], ◌∷◌, pos, neg_ℤ}
use Rattle.definitions.specs.Limits.{nodes, last_node, root, unused, class, client, fixed, weighted, stated, whole_share, greatest_depth, greatest_rate, greatest_count, port_at, first_port, second_port}
use Rattle.definitions.specs.Refusals.{refused}
use Rattle.scenarios.specs.Scenario.{Scenario, open_ℤ, join_ℤ, leave_ℤ, change_share_ℤ, change_rate_ℤ, request_ℤ, look_ℤ, same, disk, join_on, join, leave, change_share, change_rate, request, look, tick_both, tick, at_place, at_header, one_less, one_more, ◌gives◌, ◌lists◌, ◌refuses◌, keep, fits, spoils, set_balance, number, seen, greatest_number}

-- The scenarios by name: of the table at every call, then of each call.
pub data TurnedBack : Type 0 where
  not_in_order table_lengths opens join_arguments joins leaves changes_share changes_rate requests looks compares ticks : TurnedBack

unfoldable pub scenario : TurnedBack → Scenario
-- A table not in order is 1 at every call but open, also where an argument is outside its limits.
scenario not_in_order =
    join 1 root client weighted 1 1 gives refused 1
    ∷ join 0 root client weighted 1 1 gives refused 1
    ∷ leave 1 gives refused 1
    ∷ leave nodes gives refused 1
    ∷ change_share 1 weighted 1 gives refused 1
    ∷ change_share 1 weighted 0 gives refused 1
    ∷ change_rate 1000 gives refused 1
    ∷ change_rate 0 gives refused 1
    ∷ request 1 10 1 gives refused 1
    ∷ request 1 10 0 gives refused 1
    ∷ look 1 gives refused 1
    ∷ look nodes gives refused 1
    ∷ same gives refused 1
    ∷ tick 0 refuses 1
    ∷ []
-- A table with one number less or more than 2,568 is 1, also at open.
scenario table_lengths =
    spoils one_less
    ∷ disk 1000 40 gives refused 1
    ∷ disk 0 0 gives refused 1
    ∷ spoils one_more
    ∷ spoils one_more
    ∷ disk 1000 40 gives refused 1
    ∷ spoils one_less
    ∷ disk 1000 40 gives number 0
    ∷ spoils one_less
    ∷ look root gives refused 1
    ∷ fits one_more
    ∷ look root gives seen 1000 (pos 0) 0 1000
    ∷ spoils one_more
    ∷ look root gives refused 1
    ∷ []
-- Open: 2. It takes a table that is not in order.
scenario opens =
    disk 0 40 gives refused 2
    ∷ open_ℤ (neg_ℤ (pos 1)) (pos 40) gives refused 2
    ∷ disk (suc greatest_rate) 40 gives refused 2
    ∷ disk 1000 0 gives refused 2
    ∷ open_ℤ (pos 1000) (neg_ℤ (pos 1)) gives refused 2
    ∷ disk 1000 (suc greatest_depth) gives refused 2
    ∷ disk greatest_rate greatest_depth gives number 0
    ∷ disk 1 1 gives number 0
    ∷ []
-- Join: 2, for each argument.
scenario join_arguments =
    disk 1000 40 gives number 0
    ∷ join 0 root client weighted 1 1 gives refused 2
    ∷ join_ℤ (neg_ℤ (pos 1)) (pos root) (pos client) (pos weighted) (pos 1) (pos 1) (pos first_port) gives refused 2
    ∷ join nodes root client weighted 1 1 gives refused 2
    ∷ join_ℤ (pos 1) (neg_ℤ (pos 1)) (pos client) (pos weighted) (pos 1) (pos 1) (pos first_port) gives refused 2
    ∷ join 1 nodes client weighted 1 1 gives refused 2
    ∷ join 1 root unused weighted 1 1 gives refused 2
    ∷ join 1 root 3 weighted 1 1 gives refused 2
    ∷ join_ℤ (pos 1) (pos root) (pos client) (neg_ℤ (pos 1)) (pos 1) (pos 1) (pos first_port) gives refused 2
    ∷ join 1 root client (suc stated) 1 1 gives refused 2
    ∷ join 1 root client weighted 0 1 gives refused 2
    ∷ join 1 root client weighted (suc whole_share) 1 gives refused 2
    ∷ join 1 root client fixed (suc whole_share) 1 gives refused 2
    ∷ join 1 root client stated 0 1 gives refused 2
    ∷ join 1 root client stated (suc greatest_rate) 1 gives refused 2
    ∷ join 1 root client weighted 1 0 gives refused 2
    ∷ join 1 root client weighted 1 (suc greatest_depth) gives refused 2
    ∷ join_ℤ (pos 1) (pos root) (pos client) (pos weighted) (pos 1) (pos 1) (neg_ℤ (pos 1)) gives refused 2
    ∷ join_on (suc second_port) 1 root client weighted 1 1 gives refused 2
    ∷ join_on second_port 1 root class weighted 1 1 gives refused 2
    ∷ join_on second_port 1 root unused weighted 1 1 gives refused 2
    ∷ join 1 root client weighted whole_share 20 gives number 0
    ∷ join_on second_port 2 root client weighted whole_share 20 gives number 0
    ∷ []
-- Join: 2 before 3, 3, 3 before 4, 4, 4 before 5, 5, 5 before 6, 6, 6 before 7, 7, 7 before 8, 8, 8 before 16, 16 by the parent,
-- 8 before 16, 16 by the disk's rate, and none.
scenario joins =
    disk 1000 50 gives number 0
    ∷ join 1 root class fixed 5000 40 gives number 0
    ∷ join 2 1 class weighted 1 40 gives number 0
    ∷ join 3 2 class weighted 1 20 gives number 0
    ∷ join 4 3 client fixed whole_share 10 gives number 0
    ∷ join 5 2 client weighted 1 10 gives number 0
    ∷ join 6 9 client weighted 0 1 gives refused 2
    ∷ join_on (suc second_port) 6 9 client weighted 1 1 gives refused 2
    ∷ join 6 9 client weighted 1 1 gives refused 3
    ∷ join 4 9 client weighted 1 1 gives refused 3
    ∷ join 4 3 client weighted 1 1 gives refused 4
    ∷ join 4 5 client weighted 1 1 gives refused 4
    ∷ join 6 5 client weighted 1 1 gives refused 5
    ∷ join 6 5 class weighted 1 1 gives refused 5
    ∷ join 6 3 class weighted 1 1 gives refused 6
    ∷ join 6 3 class fixed 1 1 gives refused 6
    ∷ join 6 3 client fixed 1 1 gives refused 7
    ∷ join 6 3 client fixed 1 11 gives refused 7
    ∷ join 6 3 client weighted 1 11 gives refused 8
    ∷ join 6 3 client stated 1 11 gives refused 8
    ∷ join 6 3 client stated 1 10 gives refused 16
    ∷ join 6 3 client weighted 1 10 gives number 0
    ∷ join 7 root client stated 1001 11 gives refused 8
    ∷ join 7 root client stated 1001 10 gives refused 16
    ∷ join 7 root client stated 1000 10 gives number 0
    ∷ []
-- Leave: 5, 2 before 5, 2 before 3, 3, 5 before 9, 9 by children, 9 by waiting, 9 before 10, 10, and none: the rates are
-- renewed.
scenario leaves =
    disk 1000 40 gives number 0
    ∷ leave root gives refused 5
    ∷ leave_ℤ (neg_ℤ (pos 1)) gives refused 2
    ∷ join 1 root class fixed 5000 20 gives number 0
    ∷ join 2 1 client weighted 1 10 gives number 0
    ∷ join 3 root class weighted 1 10 gives number 0
    ∷ join 4 root client weighted 1 10 gives number 0
    ∷ request 2 20 1 gives number 1
    ∷ leave nodes gives refused 2
    ∷ leave 9 gives refused 3
    ∷ leave root gives refused 5
    ∷ leave 1 gives refused 9
    ∷ leave 2 gives refused 9
    ∷ set_balance 1 (neg_ℤ (pos 1))
    ∷ leave 1 gives refused 9
    ∷ set_balance 3 (neg_ℤ (pos 1))
    ∷ leave 3 gives refused 10
    ∷ set_balance 3 (pos 0)
    ∷ look 4 gives seen 250 (pos 0) 0 0
    ∷ leave 3 gives number 0
    ∷ look 3 gives refused 3
    ∷ look 4 gives seen 500 (pos 0) 0 0
    ∷ []
-- Change share: 2, 2 before 3, 2 before 5, 3, 5, 7, 16 by the disk's rate, 16 by the parent, and none: 500 are left, and weights 3
-- and 1 get 375 and 125; with 200 stated, 800 are to be divided, and the one weight gets 400.
scenario changes_share =
    disk 1000 40 gives number 0
    ∷ join 1 root class fixed 5000 10 gives number 0
    ∷ join 2 root client fixed 5000 10 gives number 0
    ∷ join 3 root client weighted 1 10 gives number 0
    ∷ join 4 1 client weighted 1 10 gives number 0
    ∷ change_share_ℤ (neg_ℤ (pos 1)) (pos weighted) (pos 1) gives refused 2
    ∷ change_share nodes weighted 1 gives refused 2
    ∷ change_share_ℤ (pos 1) (neg_ℤ (pos 1)) (pos 1) gives refused 2
    ∷ change_share 1 (suc stated) 1 gives refused 2
    ∷ change_share 1 weighted 0 gives refused 2
    ∷ change_share 1 weighted (suc whole_share) gives refused 2
    ∷ change_share 1 fixed (suc whole_share) gives refused 2
    ∷ change_share 1 stated 0 gives refused 2
    ∷ change_share 1 stated (suc greatest_rate) gives refused 2
    ∷ change_share 9 weighted 0 gives refused 2
    ∷ change_share root weighted 0 gives refused 2
    ∷ change_share 9 weighted 1 gives refused 3
    ∷ change_share root fixed whole_share gives refused 5
    ∷ change_share root stated 1000 gives refused 5
    ∷ change_share 2 fixed 5001 gives refused 7
    ∷ change_share 3 fixed 1 gives refused 7
    ∷ change_share 3 stated 1001 gives refused 16
    ∷ change_share 4 stated 1 gives refused 16
    ∷ change_share 2 fixed 5000 gives number 0
    ∷ change_share 2 weighted 3 gives number 0
    ∷ look 2 gives seen 375 (pos 0) 0 0
    ∷ look 3 gives seen 125 (pos 0) 0 0
    ∷ change_share 3 stated 200 gives number 0
    ∷ look 2 gives seen 400 (pos 0) 0 0
    ∷ look 3 gives seen 200 (pos 0) 0 0
    ∷ []
-- Change rate: 2 before 16, 2, 16, 1 before 16, and none: fixed 5000 gets half of the rate less stated 600.
scenario changes_rate =
    disk 1000 40 gives number 0
    ∷ join 1 root client fixed 5000 10 gives number 0
    ∷ join 2 root client stated 600 10 gives number 0
    ∷ change_rate 0 gives refused 2
    ∷ change_rate_ℤ (neg_ℤ (pos 1)) gives refused 2
    ∷ change_rate (suc greatest_rate) gives refused 2
    ∷ change_rate 599 gives refused 16
    ∷ spoils (at_header 1 (pos 1))
    ∷ change_rate 599 gives refused 1
    ∷ fits (at_header 1 (pos 0))
    ∷ change_rate 600 gives number 0
    ∷ look 1 gives seen 0 (pos 0) 0 0
    ∷ change_rate greatest_rate gives number 0
    ∷ look root gives seen greatest_rate (pos 0) 0 499999700
    ∷ look 1 gives seen 499999700 (pos 0) 0 0
    ∷ look 2 gives seen 600 (pos 0) 0 0
    ∷ []
-- Request: 2, 2 before 3, 2 before 5, 3 before 8, 5, 5 before 8, 8, none, 11, 8 before 11, 11 before 12, 12, and the last
-- number. At depth 16 size 12 costs 16, and 13 costs 17. A tag is any number.
scenario requests =
    disk 1000 40 gives number 0
    ∷ join 1 root class fixed 5000 16 gives number 0
    ∷ join 2 root client weighted 1 16 gives number 0
    ∷ request_ℤ (neg_ℤ (pos 1)) (pos 10) (pos 1) gives refused 2
    ∷ request nodes 10 1 gives refused 2
    ∷ request 2 20 0 gives refused 2
    ∷ request_ℤ (pos 2) (pos 20) (neg_ℤ (pos 1)) gives refused 2
    ∷ request 9 90 0 gives refused 2
    ∷ request 1 10 0 gives refused 2
    ∷ request 9 90 1 gives refused 3
    ∷ request 1 10 1 gives refused 5
    ∷ request 1 10 13 gives refused 5
    ∷ request 2 20 13 gives refused 8
    ∷ request 2 20 greatest_number gives refused 8
    ∷ request 2 20 12 gives number 1
    ∷ request_ℤ (pos 2) (neg_ℤ (pos 20)) (pos 1) gives number 2
    ∷ request 2 20 1 gives number 3
    ∷ request 2 20 1 gives number 4
    ∷ request 2 20 1 gives number 5
    ∷ request 2 20 1 gives number 6
    ∷ request 2 20 1 gives number 7
    ∷ request 2 20 1 gives number 8
    ∷ request 2 20 1 gives refused 11
    ∷ request 2 20 13 gives refused 8
    ∷ join 3 root client weighted 1 8 gives number 0
    ∷ fits (at_header 0 (pos greatest_count))
    ∷ request 2 20 1 gives refused 11
    ∷ request 3 30 1 gives refused 12
    ∷ fits (at_header 0 (pos (greatest_count - 1)))
    ∷ request 3 30 1 gives number greatest_count
    ∷ request 3 30 1 gives refused 12
    ∷ []
-- Look: 2, 2 before 3, 3, and none.
scenario looks =
    disk 1000 40 gives number 0
    ∷ look_ℤ (neg_ℤ (pos 1)) gives refused 2
    ∷ look nodes gives refused 2
    ∷ look last_node gives refused 3
    ∷ look root gives seen 1000 (pos 0) 0 1000
    ∷ []
-- Same: 1 for either table; yes is 1 and no is 0. It goes by nodes, shares and disk rate, and not by requests, balances and ports.
scenario compares =
    disk 1000 40 gives number 0
    ∷ same gives refused 1
    ∷ keep
    ∷ same gives number 1
    ∷ join 1 root client weighted 1 10 gives number 0
    ∷ same gives number 0
    ∷ keep
    ∷ request 1 10 1 gives number 1
    ∷ set_balance 1 (pos 500)
    ∷ same gives number 1
    ∷ change_share 1 weighted 2 gives number 0
    ∷ same gives number 0
    ∷ change_share 1 weighted 1 gives number 0
    ∷ change_rate 999 gives number 0
    ∷ same gives number 0
    ∷ change_rate 1000 gives number 0
    ∷ same gives number 1
    ∷ fits (at_place 1 port_at (pos second_port))
    ∷ same gives number 1
    ∷ spoils (at_header 1 (pos 1))
    ∷ same gives refused 1
    ∷ keep
    ∷ fits (at_header 1 (pos 0))
    ∷ same gives refused 1
    ∷ []
-- Tick: 13 by the first list and by the second, 1, 1 before 13, and none.
scenario ticks =
    disk 1000 40 gives number 0
    ∷ join 1 root client weighted 1 16 gives number 0
    ∷ join_on second_port 2 root client weighted 1 16 gives number 0
    ∷ request 1 10 12 gives number 1
    ∷ request 2 20 12 gives number 2
    ∷ tick_both 3 4 refuses 13
    ∷ tick_both 4 3 refuses 13
    ∷ spoils (at_header 1 (pos 1))
    ∷ tick_both 4 4 refuses 1
    ∷ tick_both 3 3 refuses 1
    ∷ fits (at_header 1 (pos 0))
    ∷ tick_both 4 4 lists []
    ∷ []
