-- Step 4. Every table that it passes through is within the limits, and each dispatch takes one request out.
use Prim.Native.Nat.{ℕ, zero, suc, ◌+◌, ◌<◌}
use mathlib.Core.Path.{◌≡◌, refl, sym, ap, subst, ◌∙◌}
use mathlib.Core.Bool.{true}
use mathlib.Core.List.{List, []}
use native.Mathlib.Omega.{arith}
use lib.IntN.{ℤ}
use Rattle.definitions.specs.Limits.{nodes}
use Rattle.definitions.specs.Places.{port, waiting}
use Rattle.definitions.specs.Tree.{tree_of}
use Rattle.definitions.specs.Tick.{nobody, State, dispatched, supplier, supplied, next, lent, all_waiting, port_waiting}
use Rattle.definitions.proofs.Facts.{InOrder}
use Rattle.definitions.proofs.Choice.{has_supplier, next_found}
use Rattle.ticklaws.proofs.Frame.{frame_port}
use Rattle.ticklaws.proofs.Ports.{port_falls}
use Rattle.ticklaws.proofs.Cut.{cut_reached, cut_under}
use Rattle.ticklaws.proofs.Dispatch.{Dispatch}
use Rattle.ticklaws.proofs.Lent.{Settled, lent_again, lent_done, supplier_at, lent_dispatch, lent_settled, waiting_falls}
use Rattle.balances.specs.Within.{Within}
use Rattle.suppliers.proofs.Answer.{Goes}
use Rattle.ticklaws.specs.Ports.{gets}
use Rattle.dispatch.specs.Entries.{table_after}
use Rattle.dispatch.proofs.Listed.{next_table}
use Rattle.steps.specs.Steps.{Lending, was_cut, lent_one, lending}
use Rattle.steps.proofs.Within.{settled_way, within}
use Rattle.steps.proofs.Serving.{serving_way}
use Rattle.steps.proofs.Shows.{Turn}

-- A table that a tick has reached from a table in order, with no balance above its depth.
record Level (u : List ℤ) : Type 0 where
  from : List ℤ
  order : InOrder from
  settled : Settled from u

-- One dispatch of a client whose oldest request has a supplier.
module _ (u : List ℤ) (w : Level u) (k : ℕ) (hk : k < nodes) (e : supplied u k ≡ true) where
  turn : Dispatch (tree_of w.from) u (table_after u k (supplier u k)) k (supplier u k)
  unfolding table_after
  turn = lent_dispatch w.from w.order (record { table = u; entries = [] }) w.settled k hk (has_supplier u k e)

  turn_level : Level (table_after u k (supplier u k))
  unfolding table_after
  turn_level =
      record {
        from = w.from;
        order = w.order;
        settled = lent_settled w.from w.order (record { table = u; entries = [] }) w.settled k hk (has_supplier u k e);
      }

lending_level : {u : List ℤ} → Lending u → Level u
lending_level (was_cut u s) =
    let w = serving_way s in
    record {
      from = w.from;
      order = w.order;
      settled = record { reached = cut_reached w.from u w.order w.reached; under = cut_under w.from u w.order w.reached };
    }
lending_level (lent_one u k s hk e) = turn_level u (lending_level s) k hk e

pub lending_within : (u : List ℤ) → Lending u → Within u
lending_within u s = let w = lending_level s in within u (settled_way w.from u w.order w.settled)

lent_falls : (u : List ℤ) → Lending u → (k : ℕ) → k < nodes → supplied u k ≡ true → all_waiting (table_after u k (supplier u k)) + 1 ≡ all_waiting u
lent_falls u s k hk e =
    let w = lending_level s in
    waiting_falls (tree_of w.from) u (table_after u k (supplier u k)) k (supplier u k) hk (turn u w k hk e)

lent_ports : (u : List ℤ) → Lending u → (k : ℕ) → k < nodes → supplied u k ≡ true → (j : ℕ) → port (table_after u k (supplier u k)) j ≡ port u j
lent_ports u s k hk e = frame_port u (table_after u k (supplier u k)) (turn u (lending_level s) k hk e).frame

lent_fewer : (u : List ℤ) → Lending u → (k : ℕ) → k < nodes → supplied u k ≡ true → (p : ℕ) → port_waiting (table_after u k (supplier u k)) p + gets p (port u k) ≡ port_waiting u p
lent_fewer u s k hk e =
    let w = lending_level s in
    port_falls (tree_of w.from) u (table_after u k (supplier u k)) k (supplier u k) hk (turn u w k hk e)

-- The client that goes next, and its supplier.
pub record Found (t : List ℤ) (k s : ℕ) : Type 0 where
  pub low : k < nodes
  pub has : supplied t k ≡ true
  pub node : s < nodes
  pub waits : 0 < waiting t k

pub found : (t : List ℤ) → Lending t → (k s : ℕ) → Goes t k s → Found t k s
found t on k s n =
    let first = next_found t (λ e. n.some (n.client ∙ e)) in
    let low : k < nodes = omega (arith, n.client, first.0) in
    let has : supplied t k ≡ true = rw n.client first.1 in
    let w = lending_level on in
    let at = supplier_at w.from w.order (record { table = t; entries = [] }) w.settled k low (has_supplier t k has) in
    record { low = low; has = has; node = omega (arith, n.node, at.low); waits = (has_supplier t k has).waits }

-- One request less waits.
falls : (t : List ℤ) → Lending t → (k s : ℕ) → Goes t k s → all_waiting (table_after t k s) + 1 ≡ all_waiting t
falls t on k s n = let f = found t on k s n in rw n.node (lent_falls t on k f.low f.has)

-- Lending goes on while there is a next client, and then is done.
lending_again : (st : State) → Lending st.table → (k s : ℕ) → Goes st.table k s → lending st ≡ lending (dispatched st k s)
unfolding lending
lending_again st on k s n =
    let m = all_waiting (dispatched st k s).table in
    let more : all_waiting st.table ≡ suc m = omega (arith, falls st.table on k s n, ap all_waiting (next_table st k s)) in
    ap (λ w. lent w st) more
    ∙ lent_again m st (λ e. n.some (n.client ∙ e))
    ∙ ap (λ j. lent m (dispatched st j (supplier st.table j))) (sym n.client)
    ∙ ap (λ j. lent m (dispatched st k j)) (sym n.node)

lent_idle : (n : ℕ) (st : State) → next st.table ≡ nobody → lent n st ≡ st
unfolding lent
lent_idle zero st e = refl
lent_idle (suc n) st e = lent_done n st e

pub lending_turn : (t : List ℤ) → Lending t → (k s : ℕ) → Goes t k s → Turn Lending lending t k s
lending_turn t on k s n =
    let f = found t on k s n in
    record {
      on = rw n.node (lent_one t k on f.low f.has);
      falls = falls t on k s n;
      small = (lending_within t on).port k f.low;
      ports = rw n.node (lent_ports t on k f.low f.has);
      fewer = rw n.node (lent_fewer t on k f.low f.has);
      again = λ st same. lending_again st (subst Lending same on) k s (subst (λ (u : List ℤ). Goes u k s) same n);
    }

pub lending_done : (t : List ℤ) → next t ≡ nobody → (st : State) → t ≡ st.table → lending st ≡ st
unfolding lending
lending_done t e st same = lent_idle (all_waiting st.table) st (sym (ap next same) ∙ e)
