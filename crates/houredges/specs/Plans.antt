-- The plans of the edges in bytes: a head, the entries, then the bodies, as document 01 says in "Same tree, and the plan file", and
-- document 02 in (f) of the second edition. Behind them windows.
use Rattle.std.specs.Prelude.{ℕ, List, [], ◌∷◌, ◌++◌, ℤ, pos}
use Rattle.definitions.specs.Limits.{root, greatest_rate}
use Rattle.planformat.specs.Bytes.{bytes2, bytes4}
use Rattle.planformat.specs.Kinds.{class_weighted, client_fixed, client_weighted, client_stated}

-- A head of 9 bytes: disk rate, root depth, count. An entry of 4: node, parent, offset of its body. A body of 7: kind, share, depth.
unfoldable pub head : (rate depth count : ℕ) → List ℕ
unfolding bytes2 bytes4
head rate depth count = bytes4 rate ++ bytes4 depth ++ (count ∷ [])

unfoldable pub entry : (node parent offset : ℕ) → List ℕ
unfolding bytes2
entry node parent offset = node ∷ parent ∷ bytes2 offset

unfoldable pub body : (kind share depth : ℕ) → List ℕ
unfolding bytes2 bytes4
body kind share depth = kind ∷ bytes2 share ++ bytes4 depth

-- In the second edition: four bytes before the head, and a body of 9.
abbrev pub mark : List ℕ
mark = 0xFF ∷ 0xFF ∷ 0xFF ∷ 0xFF ∷ []

unfoldable pub long_body : (kind share depth : ℕ) → List ℕ
unfolding bytes2 bytes4
long_body kind share depth = kind ∷ bytes4 share ++ bytes4 depth

-- Disk 1000, root depth 40, and three clients of depth 10: 1 and 2 fixed 2000, 3 of weight 1. The bodies begin at 9 + 3 x 4 = 21.
unfoldable pub suites : List ℕ
unfolding head entry body
suites =
    head 1000 40 3
    ++ entry 1 root 21
    ++ entry 2 root 28
    ++ entry 3 root 35
    ++ body client_fixed 2000 10
    ++ body client_fixed 2000 10
    ++ body client_weighted 1 10

-- The same with the entries of 1 and 2 exchanged: 15.
unfoldable pub out_of_order : List ℕ
unfolding head entry body
out_of_order =
    head 1000 40 3
    ++ entry 2 root 21
    ++ entry 1 root 28
    ++ entry 3 root 35
    ++ body client_fixed 2000 10
    ++ body client_fixed 2000 10
    ++ body client_weighted 1 10

-- Disk 1000, root depth 40, and two clients of depth 10: 1 fixed 2000, 2 of weight 1. The bodies begin at 9 + 2 x 4 = 17.
unfoldable pub pair : List ℕ
unfolding head entry body
pair = head 1000 40 2 ++ entry 1 root 17 ++ entry 2 root 24 ++ body client_fixed 2000 10 ++ body client_weighted 1 10

-- The same with fixed 6000 and 6000, which is 7; and with depths of 20 and 21, which is 8.
unfoldable pub shares_above_whole : List ℕ
unfolding head entry body
shares_above_whole = head 1000 40 2 ++ entry 1 root 17 ++ entry 2 root 24 ++ body client_fixed 6000 10 ++ body client_fixed 6000 10

unfoldable pub depths_above_root : List ℕ
unfolding head entry body
depths_above_root = head 1000 40 2 ++ entry 1 root 17 ++ entry 2 root 24 ++ body client_fixed 2000 20 ++ body client_weighted 1 21

-- Disk 1000, root depth 40, classes 1 and 2 of weight 1 and depth 20, and under class 1 client 3 of weight 1 and depth 10.
unfoldable pub classes : List ℕ
unfolding head entry body
classes =
    head 1000 40 3
    ++ entry 1 root 21
    ++ entry 2 root 28
    ++ entry 3 1 35
    ++ body class_weighted 1 20
    ++ body class_weighted 1 20
    ++ body client_weighted 1 10

-- Disk 1000, root depth 40, class 1 of weight 1 and depth 20, and under it clients 2 and 3, fixed 5000 and of depth 10.
unfoldable pub halves : List ℕ
unfolding head entry body
halves =
    head 1000 40 3
    ++ entry 1 root 21
    ++ entry 2 1 28
    ++ entry 3 1 35
    ++ body class_weighted 1 20
    ++ body client_fixed 5000 10
    ++ body client_fixed 5000 10

-- Second edition: disk 1000, root depth 40, and three clients of depth 10: 1 stated 300, 2 fixed 5000, 3 of weight 1. The bodies begin
-- at 4 + 9 + 3 x 4 = 25.
unfoldable pub playout : List ℕ
unfolding head entry long_body
playout =
    mark
    ++ head 1000 40 3
    ++ entry 1 root 25
    ++ entry 2 root 34
    ++ entry 3 root 43
    ++ long_body client_stated 300 10
    ++ long_body client_fixed 5000 10
    ++ long_body client_weighted 1 10

-- The same with client 3 fixed 5000.
unfoldable pub both_sums : List ℕ
unfolding head entry long_body
both_sums =
    mark
    ++ head 1000 40 3
    ++ entry 1 root 25
    ++ entry 2 root 34
    ++ entry 3 root 43
    ++ long_body client_stated 300 10
    ++ long_body client_fixed 5000 10
    ++ long_body client_fixed 5000 10

-- A stated rate of 1001 under a disk of 1000: 16. The one body begins at 4 + 9 + 4 = 17.
unfoldable pub stated_above_disk : List ℕ
unfolding head entry long_body
stated_above_disk = mark ++ head 1000 40 1 ++ entry 1 root 17 ++ long_body client_stated 1001 10

-- The greatest disk rate, root depth 40, and two clients of depth 10: 1 stated 300, 2 of weight 1. The bodies begin at 21.
unfoldable pub great_disk : List ℕ
unfolding head entry long_body
great_disk =
    mark
    ++ head greatest_rate 40 2
    ++ entry 1 root 21
    ++ entry 2 root 30
    ++ long_body client_stated 300 10
    ++ long_body client_weighted 1 10

-- A window: node, start minute, end minute, share.
abbrev pub window_ℤ : (node start end share : ℤ) → List ℤ
window_ℤ node start end share = node ∷ start ∷ end ∷ share ∷ []

abbrev pub window : (node start end share : ℕ) → List ℤ
window node start end share = window_ℤ (pos node) (pos start) (pos end) (pos share)

-- The windows of the worked week: clients 1 and 2 have fixed 7000 from minute 540 to 1080, and from 1200 to 1680.
abbrev pub rented : List ℤ
rented = window 1 540 1080 7000 ++ window 2 1200 1680 7000
