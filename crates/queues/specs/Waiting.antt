-- The waiting requests: the last stage of the in-order test. It is asked of every node: at a class and at an unused record
-- nothing waits.
use Rattle.std.specs.Prelude.{ℕ, Bool, List, [], ◌∷◌, ℤ}
use Rattle.numbers.specs.Tests.{every}
use Rattle.definitions.specs.Order.{queue_in_order, arrivals_differ}

-- The waiting requests of node k.
unfoldable pub waiting_in_order : List ℤ → ℕ → Bool
waiting_in_order t k = every (queue_in_order t k ∷ arrivals_differ t k ∷ [])
