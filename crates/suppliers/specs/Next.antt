-- Which request goes next, with its supplier.
use Rattle.std.specs.Prelude.{ℕ, Bool, true, cond, List, eqb, ℤ, Option, Some, None}
use Rattle.definitions.specs.Tick.{nobody, supplier, better, next}
use Rattle.suppliers.specs.declared.Turn.{Turn}
use Rattle.suppliers.specs.declared.Best.{Best}

-- The client whose oldest request goes next, and its supplier; or nothing where no request has one.
unfoldable pub next_in : List ℤ → Option Turn
next_in t = cond (eqb (next t) nobody) None (Some (record { client = next t; supplier = supplier t (next t) }))

-- Whether a request with these steps and this arrival number is better than the best so far, or there is no best.
unfoldable pub before_best : ℕ → ℕ → Option Best → Bool
before_best steps arrival None = true
before_best steps arrival (Some best) = better steps arrival best.steps best.arrival
