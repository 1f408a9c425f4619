-- What one dispatch makes of the table and of the two dispatch lists.
use Rattle.std.specs.Prelude.{ℕ, ◌+◌, ◌*◌, cond, List, [], set, eqb, ℤ, pos}
use Rattle.definitions.specs.Limits.{entry_length}
use Rattle.definitions.specs.Places.{port, tag, size}
use Rattle.definitions.specs.Tick.{dispatched}

-- The list with an entry of four numbers from place i on.
unfoldable pub entered : List ℤ → ℕ → ℤ → ℤ → ℤ → ℤ → List ℤ
entered list i client tag size supplier = set (set (set (set list i client) (i + 1) tag) (i + 2) size) (i + 3) supplier

-- The table after the oldest request of client k is dispatched with node s as supplier.
unfoldable pub table_after : List ℤ → ℕ → ℕ → List ℤ
table_after t k s = (dispatched (record { table = t; entries = [] }) k s).table

-- The list of port p, which has n entries, with the entry of a dispatch for a client on a port behind them where it is that port.
unfoldable pub entered_on : ℕ → ℕ → List ℤ → ℕ → ℤ → ℤ → ℤ → ℤ → List ℤ
entered_on p port list n client tag size supplier = cond (eqb port p) (entered list (entry_length * n) client tag size supplier) list

-- The list of port p after that dispatch of client k's oldest request.
unfoldable pub list_after : ℕ → List ℤ → ℕ → List ℤ → ℕ → ℕ → List ℤ
list_after p list n t k s = entered_on p (port t k) list n (pos k) (tag t k 0) (pos (size t k 0)) (pos s)
