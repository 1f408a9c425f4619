-- Tick, in four steps over the table and the dispatch entries so far, which are then divided by port. Document 01, "Calls", and
-- document 02, (c) and (g).
use Rattle.std.specs.Prelude.{ℕ, zero, suc, ◌+◌, ◌*◌, ◌-◌, ◌/◌, Bool, true, false, not, cond, ◌&&◌, ◌||◌, List, [], ◌∷◌, ◌++◌, length, drop, eqb, ltb, ℤ, pos, ◌+ℤ◌, ◌-ℤ◌, Option, Some, None}
use Rattle.std.specs.Int.Signed.{le_z}
use Rattle.numbers.specs.Whole.{plus}
use Rattle.numbers.specs.Tests.{every}
use Rattle.numbers.specs.Below.{sum_below, for_below}
use Rattle.definitions.specs.Limits.{nodes, balance_at, waiting_at, queue_at, queue_length, request_length, grain_scale, entry_length, first_port, second_port}
use Rattle.definitions.specs.Places.{place, put, rate, balance, waiting, port, depth_grains, tag, size, arrival}
use Rattle.definitions.specs.Tree.{tree_of, count_if}
use Rattle.definitions.specs.Cost.{cost}
use Rattle.definitions.specs.Order.{in_order}
use Rattle.definitions.specs.Refusals.{cause, first, Outcome, outcome, kept}
use Rattle.definitions.specs.declared.Supplier.{Supplier}

-- What a request of this size is charged, in grains: its cost x 1000.
unfoldable pub grains : ℕ → ℕ
grains size = cost size * grain_scale

-- Whether node k has enough balance for an amount.
unfoldable pub enough : List ℤ → ℕ → ℕ → Bool
enough t amount k = le_z (pos amount) (balance t k)

-- No node: the number after the last.
abbrev pub nobody : ℕ
nobody = nodes

-- The search for a supplier on the way from node k, at level l and so many steps above the client, up to the root, both
-- included: it answers the first node with enough balance and the steps, or none where none has.
unfoldable pub supplier_from : List ℤ → ℕ → ℕ → ℕ → ℕ → Option Supplier
supplier_from t amount steps zero k = cond (enough t amount k) (Some (record { node = k; steps = steps })) None
supplier_from t amount steps (suc l) k =
    cond (enough t amount k) (Some (record { node = k; steps = steps })) (supplier_from t amount (steps + 1) l ((tree_of t).parent k))

-- Its answer for client k's oldest request. Steps count from the client: 0 is the client itself.
unfoldable pub supply : List ℤ → ℕ → Option Supplier
supply t k = supplier_from t (grains (size t k 0)) 0 ((tree_of t).level k) k

-- Whether such an answer has a supplier, which node it is, and the steps; nobody and 0 where there is none.
unfoldable pub is_found : Option Supplier → Bool
is_found (Some supplier) = true
is_found None = false

unfoldable pub node_found : Option Supplier → ℕ
node_found (Some supplier) = supplier.node
node_found None = nobody

unfoldable pub steps_found : Option Supplier → ℕ
steps_found (Some supplier) = supplier.steps
steps_found None = 0

-- The supplier of client k's oldest request, and how many steps it is above the client.
unfoldable pub supplier : List ℤ → ℕ → ℕ
supplier t k = node_found (supply t k)

unfoldable pub steps_above : List ℤ → ℕ → ℕ
steps_above t k = steps_found (supply t k)

-- A balance falls by an amount.
unfoldable pub lower : List ℤ → ℕ → ℕ → List ℤ
lower t amount k = put t k balance_at (balance t k -ℤ pos amount)

-- An amount is charged to node k, at level l, and to every node above it, the root included.
unfoldable pub charge : List ℤ → ℕ → ℕ → ℕ → List ℤ
charge t amount zero k = lower t amount k
charge t amount (suc l) k = charge (lower t amount k) amount l ((tree_of t).parent k)

-- The oldest request of client k is taken out, and those behind it move up.
unfoldable pub taken_out : List ℤ → ℕ → List ℤ
taken_out t k =
    put
    (for_below request_length (λ p u. put u k (queue_at + (queue_length - request_length) + p) (pos 0))
    (for_below (queue_length - request_length) (λ p u. put u k (queue_at + p) (place u k (queue_at + request_length + p))) t))
    k
    waiting_at
    (pos (waiting t k - 1))

-- The table, and the entries dispatched so far, four numbers each: client, tag, size, supplier.
pub record State : Type 0 where
  pub table : List ℤ
  pub entries : List ℤ

-- The oldest request of client k is dispatched with node s as supplier.
unfoldable pub dispatched : State → ℕ → ℕ → State
dispatched st k s =
    record {
      table = taken_out (charge st.table (grains (size st.table k 0)) ((tree_of st.table).level s) s) k;
      entries = st.entries ++ (pos k ∷ tag st.table k 0 ∷ pos (size st.table k 0) ∷ pos s ∷ []);
    }

-- Step 1: every node's balance grows by its rate.
unfoldable pub grown : List ℤ → List ℤ
grown t = for_below nodes (λ k u. put u k balance_at (balance u k +ℤ pos (rate u k))) t

-- Whether a request waits at client k whose grains are at most the client's balance.
unfoldable pub ready : List ℤ → ℕ → Bool
ready t k = every (ltb 0 (waiting t k) ∷ enough t (grains (size t k 0)) k ∷ [])

-- While that is so, it is dispatched with the client as supplier: at most n times.
unfoldable pub served : ℕ → ℕ → State → State
served zero k st = st
served (suc n) k st = elim (ready st.table k) [ true ↦ served n k (dispatched st k k) | false ↦ st ]

-- Step 2: clients in rising number.
unfoldable pub served_all : State → State
served_all st = for_below nodes (λ k s. served (waiting s.table k) k s) st

-- Step 3: every balance above depth x 1000 is cut to that.
unfoldable pub cut : List ℤ → List ℤ
cut t = for_below nodes (λ k u. cond (le_z (balance u k) (pos (depth_grains u k))) u (put u k balance_at (pos (depth_grains u k)))) t

-- Whether the oldest request of client k has a supplier.
unfoldable pub supplied : List ℤ → ℕ → Bool
supplied t k = every (ltb 0 (waiting t k) ∷ is_found (supply t k) ∷ [])

-- Whether a request with these steps and this arrival number is better than one with those: its supplier is fewer steps above
-- its client, or as many and its arrival number is lower. Document 02, (c).
unfoldable pub better : ℕ → ℕ → ℕ → ℕ → Bool
better steps arrival steps' arrival' = ltb steps steps' || (eqb steps steps' && ltb arrival arrival')

-- Whether client k's oldest request is better than that of best, or there is no best.
unfoldable pub goes_before : List ℤ → ℕ → ℕ → Bool
goes_before t k best = eqb best nobody || better (steps_above t k) (arrival t k 0) (steps_above t best) (arrival t best 0)

-- Of client k and the best so far, the one whose oldest request goes first: k where its request has a supplier and goes before
-- that of best.
unfoldable pub choice : List ℤ → ℕ → ℕ → ℕ
choice t k best = cond (every (supplied t k ∷ goes_before t k best ∷ [])) k best

-- The client whose oldest request goes next, or nobody where no request has a supplier.
unfoldable pub next : List ℤ → ℕ
next t = for_below nodes (choice t) nobody

-- Step 4: again and again the next client's oldest request is dispatched from its supplier, at most n times.
unfoldable pub lent : ℕ → State → State
lent zero st = st
lent (suc n) st = elim (eqb (next st.table) nobody) [ true ↦ st | false ↦ lent n (dispatched st (next st.table) (supplier st.table (next st.table))) ]

-- All waiting requests.
unfoldable pub all_waiting : List ℤ → ℕ
all_waiting t = sum_below nodes (waiting t)

-- The four steps.
unfoldable pub step_two : List ℤ → State
step_two t = served_all (record { table = grown t; entries = [] })

unfoldable pub step_three : List ℤ → State
step_three t = record { table = cut (step_two t).table; entries = (step_two t).entries }

unfoldable pub ticked : List ℤ → State
ticked t = lent (all_waiting (step_three t).table) (step_three t)

-- The entries of the clients of port p, in their order; port_of gives a client's port. Fewer than four numbers are no entry.
unfoldable pub of_port : (ℕ → ℕ) → ℕ → List ℤ → List ℤ
of_port port_of p [] = []
of_port port_of p (client ∷ []) = []
of_port port_of p (client ∷ a ∷ []) = []
of_port port_of p (client ∷ a ∷ b ∷ []) = []
of_port port_of p (client ∷ a ∷ b ∷ c ∷ entries) =
    cond (eqb (port_of (plus client)) p) (client ∷ a ∷ b ∷ c ∷ []) [] ++ of_port port_of p entries

-- The dispatches of a tick that go to port p, and how many there are.
unfoldable pub port_entries : List ℤ → ℕ → List ℤ
port_entries t p = of_port (port t) p (ticked t).entries

unfoldable pub port_count : List ℤ → ℕ → ℕ
port_count t p = length (port_entries t p) / entry_length

-- A port's list after: its entries, and beyond them the list as it came.
unfoldable pub listed : List ℤ → List ℤ → List ℤ
listed entries list = entries ++ drop (length entries) list

-- The waiting requests of the clients of port p.
unfoldable pub port_waiting : List ℤ → ℕ → ℕ
port_waiting t p = sum_below nodes (λ k. count_if (eqb (port t k) p) (waiting t) k)

-- Cause 13 for the list of port p: it is shorter than four numbers for each of these requests.
unfoldable pub list_short : List ℤ → ℕ → List ℤ → Bool
list_short t p list = ltb (length list) (entry_length * port_waiting t p)

-- Tick takes a list for each port.
unfoldable pub tick_refusal : List ℤ → List ℤ → List ℤ → ℕ
tick_refusal t list₀ list₁ =
    first (cause 1 (not (in_order t)) ∷ cause 13 (list_short t first_port list₀ || list_short t second_port list₁) ∷ [])

unfoldable pub tick_table : List ℤ → List ℤ → List ℤ → List ℤ
tick_table t list₀ list₁ = kept (tick_refusal t list₀ list₁) (ticked t).table t

unfoldable pub tick_first : List ℤ → List ℤ → List ℤ → List ℤ
tick_first t list₀ list₁ = kept (tick_refusal t list₀ list₁) (listed (port_entries t first_port) list₀) list₀

unfoldable pub tick_second : List ℤ → List ℤ → List ℤ → List ℤ
tick_second t list₀ list₁ = kept (tick_refusal t list₀ list₁) (listed (port_entries t second_port) list₁) list₁

-- How many were dispatched to the first port and to the second.
unfoldable pub tick_answer : List ℤ → List ℤ → List ℤ → Outcome
tick_answer t list₀ list₁ =
    outcome (tick_refusal t list₀ list₁) (pos (port_count t first_port) ∷ pos (port_count t second_port) ∷ [])
