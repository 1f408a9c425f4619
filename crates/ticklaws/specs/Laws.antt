-- What a tick of a table in order does, over the definitions of definitions/specs/Tick.
use Rattle.std.specs.Prelude.{ℕ, ◌+◌, ◌*◌, ◌<◌, ◌≡◌, true, List, length, ℤ}
use Rattle.numbers.specs.Whole.{plus, minus}
use Rattle.definitions.specs.Limits.{nodes, first_port, second_port, entry_length}
use Rattle.definitions.specs.Places.{balance, waiting, size}
use Rattle.definitions.specs.Tree.{tree_of, at_or_above}
use Rattle.definitions.specs.Order.{in_order}
use Rattle.definitions.specs.Tick.{grains, all_waiting, ticked, port_entries, port_waiting}

pub record TickLaws (t : List ℤ) : Type 0 where
  -- The table is in order again.
  pub order : in_order (ticked t).table ≡ true
  -- It ends when no request has a supplier: where one still waits at node k, every balance from k up to the root is below
  -- the grains of the oldest.
  pub ends :
      (k : ℕ) → k < nodes → 0 < waiting (ticked t).table k → (j : ℕ) → at_or_above (tree_of t) k j ≡ true
      → plus (balance (ticked t).table j) < minus (balance (ticked t).table j) + grains (size (ticked t).table k 0)
  -- Every request that waited still waits or has an entry of four numbers.
  pub entries : length (ticked t).entries + entry_length * all_waiting (ticked t).table ≡ entry_length * all_waiting t
  -- The same at each port, and the entries of the two ports are all.
  pub ports : (p : ℕ) → length (port_entries t p) + entry_length * port_waiting (ticked t).table p ≡ entry_length * port_waiting t p
  pub both : length (port_entries t first_port) + length (port_entries t second_port) ≡ length (ticked t).entries
