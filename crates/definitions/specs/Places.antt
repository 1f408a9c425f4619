-- What stands where in the account table. Document 01, "The table".
-- Balances and tags are whole numbers. Every other number is read as its natural part; that a table in order has no
-- negative one is tested on the whole numbers themselves (Order).
use Rattle.std.specs.Prelude.{ℕ, ◌+◌, ◌*◌, List, get_or, set, ℤ, pos}
use Rattle.numbers.specs.Whole.{plus}
use Rattle.definitions.specs.Limits.{header_length, record_length, rate_at, balance_at, waiting_at, port_at, depth_at, queue_at, request_length, tag_at, size_at, arrival_at, grain_scale}

-- What stands at place p of node k's record.
unfoldable pub place : List ℤ → ℕ → ℕ → ℤ
place t k p = get_or t (header_length + record_length * k + p) (pos 0)

-- The table with v there.
unfoldable pub put : List ℤ → ℕ → ℕ → ℤ → List ℤ
put t k p v = set t (header_length + record_length * k + p) v

-- What stands at place p of the header, and the table with v there.
unfoldable pub header : List ℤ → ℕ → ℤ
header t p = get_or t p (pos 0)

unfoldable pub put_header : List ℤ → ℕ → ℤ → List ℤ
put_header t p v = set t p v

-- The count of accepted requests.
unfoldable pub count : List ℤ → ℕ
count t = plus (header t 0)

unfoldable pub rate : List ℤ → ℕ → ℕ
rate t k = plus (place t k rate_at)

unfoldable pub balance : List ℤ → ℕ → ℤ
balance t k = place t k balance_at

-- How many requests wait at a client.
unfoldable pub waiting : List ℤ → ℕ → ℕ
waiting t k = plus (place t k waiting_at)

-- The port of a client.
unfoldable pub port : List ℤ → ℕ → ℕ
port t k = plus (place t k port_at)

-- The depth in grains.
unfoldable pub depth_grains : List ℤ → ℕ → ℕ
depth_grains t k = plus (place t k depth_at) * grain_scale

-- The i-th waiting place of node k, oldest first from 0: the place of its tag.
abbrev pub queue_place : ℕ → ℕ
queue_place i = queue_at + request_length * i

unfoldable pub tag : List ℤ → ℕ → ℕ → ℤ
tag t k i = place t k (queue_place i + tag_at)

unfoldable pub size : List ℤ → ℕ → ℕ → ℕ
size t k i = plus (place t k (queue_place i + size_at))

unfoldable pub arrival : List ℤ → ℕ → ℕ → ℕ
arrival t k i = plus (place t k (queue_place i + arrival_at))
