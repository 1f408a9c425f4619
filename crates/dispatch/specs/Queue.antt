-- The two passes over the waiting places in which the oldest request is taken out.
use Rattle.std.specs.Prelude.{ℕ, ◌+◌, ◌-◌, List, ℤ, pos}
use Rattle.numbers.specs.Below.{for_below}
use Rattle.definitions.specs.Limits.{queue_at, queue_length, request_length}
use Rattle.definitions.specs.Places.{place, put}

-- The requests behind the oldest of client k move up.
unfoldable pub moved_up : List ℤ → ℕ → List ℤ
moved_up t k = for_below (queue_length - request_length) (λ p u. put u k (queue_at + p) (place u k (queue_at + request_length + p))) t

-- The last waiting place of client k is zeroed.
unfoldable pub last_cleared : List ℤ → ℕ → List ℤ
last_cleared t k = for_below request_length (λ p u. put u k (queue_at + (queue_length - request_length) + p) (pos 0)) t
