-- The figures of document 01, the third kind of document 02, (f), and the ports of (g): lengths, places, kinds and limits. No other
-- file writes them as figures.
use Rattle.std.specs.Prelude.{ℕ, ◌+◌, ◌*◌, cond, eqb}

-- The table: 8 numbers of header, then 64 records of 40.
abbrev pub header_length : ℕ
header_length = 8

abbrev pub record_length : ℕ
record_length = 40

abbrev pub nodes : ℕ
nodes = 64

abbrev pub table_length : ℕ
table_length = header_length + nodes * record_length

-- The greatest node number.
abbrev pub last_node : ℕ
last_node = 63

-- Places of a record.
abbrev pub sort_at : ℕ
sort_at = 0

abbrev pub parent_at : ℕ
parent_at = 1

abbrev pub level_at : ℕ
level_at = 2

abbrev pub kind_at : ℕ
kind_at = 3

abbrev pub share_at : ℕ
share_at = 4

abbrev pub depth_at : ℕ
depth_at = 5

abbrev pub rate_at : ℕ
rate_at = 6

abbrev pub balance_at : ℕ
balance_at = 7

abbrev pub waiting_at : ℕ
waiting_at = 8

abbrev pub port_at : ℕ
port_at = 9

-- Places 10 to 15 are zero.
abbrev pub spare_at : ℕ
spare_at = 10

abbrev pub spare_length : ℕ
spare_length = 6

-- The waiting places: eight of tag, size and arrival number, oldest first.
abbrev pub queue_at : ℕ
queue_at = 16

abbrev pub most_waiting : ℕ
most_waiting = 8

abbrev pub request_length : ℕ
request_length = 3

abbrev pub queue_length : ℕ
queue_length = most_waiting * request_length

abbrev pub tag_at : ℕ
tag_at = 0

abbrev pub size_at : ℕ
size_at = 1

abbrev pub arrival_at : ℕ
arrival_at = 2

-- Sorts and share kinds. A record of sort 0 is unused. A stated share is a rate.
abbrev pub unused : ℕ
unused = 0

abbrev pub class : ℕ
class = 1

abbrev pub client : ℕ
client = 2

abbrev pub fixed : ℕ
fixed = 0

abbrev pub weighted : ℕ
weighted = 1

abbrev pub stated : ℕ
stated = 2

-- How many kinds there are.
abbrev pub kinds : ℕ
kinds = 3

-- Ports, and how many there are.
abbrev pub first_port : ℕ
first_port = 0

abbrev pub second_port : ℕ
second_port = 1

abbrev pub ports : ℕ
ports = 2

-- Limits.
abbrev pub root : ℕ
root = 0

-- The lowest level of a class; clients stand at most one below.
abbrev pub last_class_level : ℕ
last_class_level = 3

abbrev pub last_level : ℕ
last_level = 4

-- The whole of a class, in shares.
abbrev pub whole_share : ℕ
whole_share = 10000

abbrev pub greatest_depth : ℕ
greatest_depth = 1000000

abbrev pub greatest_rate : ℕ
greatest_rate = 1000000000

-- The greatest share of a kind: of a stated one it is the greatest rate.
unfoldable pub share_limit : ℕ → ℕ
share_limit kind = cond (eqb kind stated) greatest_rate whole_share

-- The greatest port of a sort: of a class it is zero.
unfoldable pub port_limit : ℕ → ℕ
port_limit sort = cond (eqb sort client) second_port 0

abbrev pub greatest_count : ℕ
greatest_count = 9000000000000000000

-- Grains in a token.
abbrev pub grain_scale : ℕ
grain_scale = 1000

-- Numbers of one entry of a dispatch list: client, tag, size, supplier.
abbrev pub entry_length : ℕ
entry_length = 4

-- Numbers that look shows: rate, balance, waiting count, lost grains.
abbrev pub seen_length : ℕ
seen_length = 4
