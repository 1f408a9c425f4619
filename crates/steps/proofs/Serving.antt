-- Step 2. Every table that it passes through is within the limits, and each dispatch takes one request out.
use Prim.Native.Nat.{ℕ, zero, suc, ◌+◌, ◌^◌, ◌≤◌, ◌<◌}
use mathlib.Core.Path.{◌≡◌, refl, sym, ap, subst, ◌∙◌}
use mathlib.Core.Bool.{Bool, true, false, ◌&&◌}
use mathlib.Core.List.{List, []}
use native.Mathlib.Omega.{arith}
use borrow.Author.Tests.{lt-ltb, le-ltb}
use lib.IntN.{ℤ, pos}
use Rattle.numbers.specs.Whole.{plus, minus}
use Rattle.numbers.specs.Below.{for_below}
use Rattle.numbers.proofs.Tests.{by_test}
use Rattle.numbers.proofs.Every.{head_fails, every_two}
use Rattle.numbers.proofs.Parts.{zarith, add_parts, one_is_zero, plus_pos}
use Rattle.numbers.proofs.Steps.{for_keeps}
use Rattle.definitions.specs.Limits.{nodes, waiting_at, queue_at, size_at}
use Rattle.definitions.specs.Places.{place, rate, balance, waiting, port, size}
use Rattle.definitions.specs.Tree.{tree_of, there}
use Rattle.definitions.specs.Tick.{State, grains, enough, grown, dispatched, ready, served, all_waiting, port_waiting}
use Rattle.definitions.proofs.Facts.{InOrder, facts}
use Rattle.treelaws.proofs.Floors.{grounds, under_of}
use Rattle.ticklaws.proofs.Grown.{grown_swept, grown_reached}
use Rattle.ticklaws.proofs.Dispatch.{Dispatch, dispatch, dispatch_reached, dispatch_falls}
use Rattle.ticklaws.proofs.Served.{served_again, served_done, served_keeps, ready_facts, client_at, client_room}
use Rattle.ticklaws.proofs.Lent.{waiting_falls}
use Rattle.ticklaws.proofs.Frame.{frame_port}
use Rattle.ticklaws.proofs.Ports.{port_falls}
use Rattle.balances.specs.Within.{Within}
use Rattle.ticklaws.specs.Ports.{gets}
use Rattle.dispatch.specs.Entries.{table_after}
use Rattle.dispatch.proofs.Listed.{next_table}
use Rattle.steps.specs.Steps.{Serving, grew, served_one, serving}
use Rattle.treelaws.proofs.Rounding.{rate_small}
use Rattle.steps.proofs.Within.{Way, depth_small, within}
use Rattle.steps.proofs.Shows.{Turn}

grown_credit : (t : List ℤ) → InOrder t → (k : ℕ) → k < nodes → plus (balance (grown t) k) ≤ 2 ^ 60
unfolding plus minus
grown_credit t f k hk =
    by_test (there (tree_of t) k)
    (λ h.
    omega (
      arith,
      zarith,
      (grown_swept t f.long).new k hk,
      add_parts (balance t k) (pos (rate t k)),
      (under_of t (grounds t f)).most k hk h,
      depth_small t f k hk,
      rate_small t f k hk,
      one_is_zero (balance (grown t) k),
    ))
    (λ h. omega (arith, ap plus ((grown_reached t f).vacant.zero k hk h), plus_pos 0))

-- Whether a client is ready: not where nothing waits, and else by its balance.
module _ (t : List ℤ) (k w : ℕ) (waits : w ≡ plus (place t k waiting_at)) where
  pub not_waiting : w ≡ 0 → false ≡ ready t k
  unfolding ready waiting
  not_waiting e = sym (head_fails _ _ (le-ltb 0 (waiting t k) (omega arith)))

  pub is_waiting : (w ≡ 0 → ⊥) → (n a : ℕ) (r : Bool) → n ≡ plus (place t k (queue_at + size_at)) → a ≡ grains n → r ≡ enough t a k → r ≡ ready t k
  unfolding ready waiting size
  is_waiting some n a r e f g =
      rw (g, f, e) (sym (every_two _ _ ∙ ap (λ b. b && enough t (grains (plus (place t k (queue_at + size_at)))) k) (lt-ltb 0 (waiting t k) (omega arith))))

-- What the test whether a client is ready needs of these.
pub ruleset readiness = (not_waiting, is_waiting)

-- One dispatch of a ready client.
module _ (u : List ℤ) (w : Way u) (k : ℕ) (hk : k < nodes) (e : ready u k ≡ true) where
  turn : Dispatch (tree_of w.from) u (table_after u k k) k k
  unfolding table_after
  turn =
      let waits = (ready_facts u k e).waits in
      dispatch w.from w.order (record { table = u; entries = [] }) w.reached k hk waits k (client_at w.from u w.reached k hk waits)

  turn_way : Way (table_after u k k)
  unfolding table_after
  turn_way =
      let r = ready_facts u k e in
      record {
        from = w.from;
        order = w.order;
        reached =
            dispatch_reached w.from w.order (record { table = u; entries = [] }) w.reached k hk r.waits k
            (client_at w.from u w.reached k hk r.waits)
            (client_room w.from u w.reached k hk r.waits (grains (size u k 0)) r.enough);
        credit = λ j hj.
            omega (arith, zarith, w.credit j hj, dispatch_falls (tree_of w.from) u (table_after u k k) k k turn j, one_is_zero (balance (table_after u k k) j));
      }

pub serving_way : {u : List ℤ} → Serving u → Way u
serving_way (grew t h) = let f = facts t h in record { from = t; order = f; reached = grown_reached t f; credit = grown_credit t f }
serving_way (served_one u k s hk e) = turn_way u (serving_way s) k hk e

pub serving_within : (u : List ℤ) → Serving u → Within u
serving_within u s = within u (serving_way s)

-- One request less waits.
module _ (u : List ℤ) (s : Serving u) (k : ℕ) (hk : k < nodes) (e : ready u k ≡ true) where
  pub served_own : waiting (table_after u k k) k + 1 ≡ waiting u k
  served_own = (turn u (serving_way s) k hk e).own.waits

  pub served_falls : all_waiting (table_after u k k) + 1 ≡ all_waiting u
  served_falls = waiting_falls (tree_of (serving_way s).from) u (table_after u k k) k k hk (turn u (serving_way s) k hk e)

  served_ports : (j : ℕ) → port (table_after u k k) j ≡ port u j
  served_ports = frame_port u (table_after u k k) (turn u (serving_way s) k hk e).frame

  served_fewer : (p : ℕ) → port_waiting (table_after u k k) p + gets p (port u k) ≡ port_waiting u p
  served_fewer = port_falls (tree_of (serving_way s).from) u (table_after u k k) k k hk (turn u (serving_way s) k hk e)

-- Serving a client goes on while it is ready, and then is done.
serving_again : (k : ℕ) (st : State) → Serving st.table → k < nodes → ready st.table k ≡ true → serving k st ≡ serving k (dispatched st k k)
unfolding serving
serving_again k st s hk e =
    let m = waiting (dispatched st k k).table k in
    let more : waiting st.table k ≡ suc m = omega (arith, served_own st.table s k hk e, ap (λ (u : List ℤ). waiting u k) (next_table st k k)) in
    ap (λ n. served n k st) more ∙ served_again m k st e

served_idle : (n k : ℕ) (st : State) → ready st.table k ≡ false → served n k st ≡ st
unfolding served
served_idle zero k st e = refl
served_idle (suc n) k st e = served_done n k st e

pub serving_turn : (k : ℕ) (t : List ℤ) → Serving t → k < nodes → ready t k ≡ true → Turn Serving (serving k) t k k
serving_turn k t s hk e =
    record {
      on = served_one t k s hk e;
      falls = served_falls t s k hk e;
      small = (serving_within t s).port k hk;
      ports = served_ports t s k hk e;
      fewer = served_fewer t s k hk e;
      again = λ st same. serving_again k st (subst Serving same s) hk (subst (λ (u : List ℤ). ready u k ≡ true) same e);
    }

pub serving_done : (k : ℕ) (t : List ℤ) → ready t k ≡ false → (st : State) → t ≡ st.table → serving k st ≡ st
unfolding serving
serving_done k t e st same = served_idle (waiting st.table k) k st (subst (λ (u : List ℤ). ready u k ≡ false) same e)

-- The clients below m served.
next_served : (k : ℕ) (st : State) → k < nodes → Serving st.table → ready st.table k ≡ true → Serving (dispatched st k k).table
next_served k st hk on e = subst Serving (next_table st k k) (served_one st.table k on hk e)

pub passed : (t : List ℤ) → Serving t → (m : ℕ) → m ≤ nodes → (u : List ℤ) → u ≡ (for_below m serving (record { table = t; entries = [] })).table → Serving u
unfolding serving
passed t on m hm u e =
    rw e
    (for_keeps (λ (st : State). Serving st.table) m serving
    (λ k st hk c. served_keeps (λ (v : State). Serving v.table) k (λ v. next_served k v (omega arith)) (waiting st.table k) st c)
    (record { table = t; entries = [] })
    on)
