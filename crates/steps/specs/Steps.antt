-- Where a tick stands while its steps run: which tables it passes through, and what the table and the two dispatch lists show.
use Rattle.std.specs.Prelude.{ℕ, ◌+◌, ◌*◌, ◌<◌, ◌≤◌, ◌≡◌, true, List, length, ℤ}
use Rattle.definitions.specs.Limits.{nodes, entry_length, first_port, second_port}
use Rattle.definitions.specs.Places.{port, waiting}
use Rattle.definitions.specs.Order.{in_order}
use Rattle.definitions.specs.Tick.{State, grown, ready, served, cut, supplier, supplied, lent, all_waiting, of_port, port_waiting, listed}
use Rattle.table.specs.declared.PortCounts.{PortCounts}
use Rattle.dispatch.specs.Entries.{table_after}

-- A table in step 2: the balances of a table in order have grown, and requests of ready clients were dispatched.
pub data Serving : List ℤ → Type 0 where
  grew : (t : List ℤ) → in_order t ≡ true → Serving (grown t)
  served_one : (u : List ℤ) (k : ℕ) → Serving u → k < nodes → ready u k ≡ true → Serving (table_after u k k)

-- A table in step 4: the balances of a table in step 2 were cut, and requests that have a supplier were dispatched from it.
pub data Lending : List ℤ → Type 0 where
  was_cut : (u : List ℤ) → Serving u → Lending (cut u)
  lent_one : (u : List ℤ) (k : ℕ) → Lending u → k < nodes → supplied u k ≡ true → Lending (table_after u k (supplier u k))

-- Behind its n entries the list of port p has room for all requests that wait there.
unfoldable pub Room : ℕ → List ℤ → List ℤ → ℕ → Type 0
Room p t list n = entry_length * n + entry_length * port_waiting t p ≤ length list

-- The list of port p, with n entries written, shows the entries of its clients among those of a state, and beyond them what it had
-- at first; port_of gives each client's port.
pub record Lists (port_of : ℕ → ℕ) (p : ℕ) (from : List ℤ) (st : State) (l : List ℤ) (n : ℕ) : Type 0 where
  pub list : l ≡ listed (of_port port_of p st.entries) from
  pub count : entry_length * n ≡ length (of_port port_of p st.entries)
  pub room : Room p st.table l n

-- The table and the two lists, with n entries written, show a state.
pub record Shows (port_of : ℕ → ℕ) (from₀ from₁ : List ℤ) (st : State) (t list₀ list₁ : List ℤ) (n : PortCounts) : Type 0 where
  pub table : t ≡ st.table
  pub ports : (k : ℕ) → port t k ≡ port_of k
  pub all : entry_length * (n.first + n.second) ≡ length st.entries
  pub first : Lists port_of first_port from₀ st list₀ n.first
  pub second : Lists port_of second_port from₁ st list₁ n.second

-- Whatever state the table and the lists show, those after show what a step makes of it.
pub record Follows (step : State → State) (t list₀ list₁ : List ℤ) (n : PortCounts) (t' list₀' list₁' : List ℤ) (n' : PortCounts) : Type 0 where
  pub shows : (port_of : ℕ → ℕ) (from₀ from₁ : List ℤ) (st : State) → Shows port_of from₀ from₁ st t list₀ list₁ n → Shows port_of from₀ from₁ (step st) t' list₀' list₁' n'

-- Step 2 for client k, and step 4, of a state.
unfoldable pub serving : ℕ → State → State
serving k st = served (waiting st.table k) k st

unfoldable pub lending : State → State
lending st = lent (all_waiting st.table) st
