-- Step 2: each client in turn is served from its own balance while its oldest request is ready. The waiting count is
-- enough fuel, since each dispatch takes one request out; and serving one client makes no other ready, since balances
-- only fall. So afterwards no client is ready.
use Prim.Native.Nat.{ℕ, zero, suc, ◌≤◌, ◌<◌}
use mathlib.Core.Path.{◌≡◌, refl}
use mathlib.Core.Bool.{true, false}
use mathlib.Core.List.{List}
use native.Mathlib.Omega.{arith}
use borrow.Author.Tests.{ltb-true, lt-ltb}
use lib.IntN.{ℤ, pos}
use lib.Signed.{le_z}
use Rattle.numbers.specs.Whole.{plus, minus}
use Rattle.numbers.proofs.Tests.{by_test, true_false}
use Rattle.numbers.proofs.Every.{head_holds, rest_hold, holds_with, none_left}
use Rattle.numbers.proofs.Parts.{zarith}
use Rattle.numbers.proofs.All.{below_cases}
use Rattle.numbers.proofs.Steps.{for_keeps, for_reaches}
use Rattle.definitions.specs.Limits.{nodes}
use Rattle.definitions.specs.Places.{balance, count, waiting, size}
use Rattle.definitions.specs.Tree.{tree_of}
use Rattle.definitions.specs.Tick.{State, grains, enough, dispatched, ready, served, served_all}
use Rattle.definitions.proofs.Facts.{InOrder}
use Rattle.treelaws.proofs.Floors.{Room}
use Rattle.treelaws.proofs.Sorts.{client_there, client_class}
use Rattle.treelaws.proofs.Way.{At}
use Rattle.ticklaws.proofs.Queues.{Shifted, shifted_size, waiting_client}
use Rattle.ticklaws.proofs.Reached.{Reached}
use Rattle.ticklaws.proofs.Dispatch.{Dispatch, dispatch, dispatch_reached, dispatch_falls}

pub served_again : (n k : ℕ) (st : State) → ready st.table k ≡ true → served (suc n) k st ≡ served n k (dispatched st k k)
unfolding served
served_again n k st e = rw (e, served)

pub served_done : (n k : ℕ) (st : State) → ready st.table k ≡ false → served (suc n) k st ≡ st
unfolding served
served_done n k st e = rw (e, served)

-- What each dispatch keeps, serving a client keeps.
pub served_keeps : (P : State → Type 0) (k : ℕ) → ((st : State) → P st → ready st.table k ≡ true → P (dispatched st k k)) → (n : ℕ) (st : State) → P st → P (served n k st)
unfolding served
served_keeps P k each zero st p = p
served_keeps P k each (suc n) st p =
    by_test (ready st.table k)
    (λ e. rw (served_again n k st e) (served_keeps P k each n (dispatched st k k) (each st p e)))
    (λ e. rw (served_done n k st e) p)

pub record Ready (t : List ℤ) (k : ℕ) : Type 0 where
  pub waits : 0 < waiting t k
  pub enough : le_z (pos (grains (size t k 0))) (balance t k) ≡ true

pub ready_facts : (t : List ℤ) (k : ℕ) → ready t k ≡ true → Ready t k
unfolding ready enough
ready_facts t k h = record { waits = ltb-true 0 (waiting t k) (head_holds _ _ h); enough = head_holds _ _ (rest_hold _ _ h) }

pub facts_ready : (t : List ℤ) (k : ℕ) → Ready t k → ready t k ≡ true
unfolding ready enough
facts_ready t k f = holds_with _ _ (lt-ltb 0 (waiting t k) f.waits) (holds_with _ _ f.enough none_left)

-- A waiting client at a table that is reached is there, and covers what is enough from its own balance.
module _ (t u : List ℤ) (r : Reached t u) (k : ℕ) (hk : k < nodes) (waits : 0 < waiting u k) where
  pub client_at : At (tree_of t) ((tree_of t).level k) k
  client_at =
      record { low = hk; there = client_there (tree_of t) k (waiting_client (tree_of t) (count t) u r.queues k 0 hk waits); level = refl }

  pub client_room : (a : ℕ) → le_z (pos a) (balance u k) ≡ true → Room (tree_of t) (balance u) a k
  unfolding plus minus
  client_room a h =
      let client = waiting_client (tree_of t) (count t) u r.queues k 0 hk waits in
      record {
        class = λ e. absurd (true_false e (client_class (tree_of t) k client));
        client = λ e. omega (arith, zarith);
      }

module _ (t : List ℤ) (f : InOrder t) (k : ℕ) (hk : k < nodes) where
  -- One turn of the loop.
  turn : (st : State) → Reached t st.table → ready st.table k ≡ true → Dispatch (tree_of t) st.table (dispatched st k k).table k k
  turn st r h = let waits = (ready_facts st.table k h).waits in dispatch t f st r k hk waits k (client_at t st.table r k hk waits)

  turn_reached : (st : State) → Reached t st.table → ready st.table k ≡ true → Reached t (dispatched st k k).table
  turn_reached st r h =
      let e = ready_facts st.table k h in
      dispatch_reached t f st r k hk e.waits k (client_at t st.table r k hk e.waits)
      (client_room t st.table r k hk e.waits (grains (size st.table k 0)) e.enough)

  pub served_reached : (n : ℕ) (st : State) → Reached t st.table → Reached t (served n k st).table
  served_reached = served_keeps (λ st. Reached t st.table) k turn_reached

  -- The waiting count is enough fuel.
  pub served_suffices : (n : ℕ) (st : State) → Reached t st.table → waiting st.table k ≤ n → ready (served n k st).table k ≡ false
  unfolding served
  served_suffices zero st r h = by_test (ready st.table k) (λ e. absurd (none (ready_facts st.table k e).waits)) (λ e. e)
    where
      none : 0 < waiting st.table k → ⊥
      none l = omega arith
  served_suffices (suc n) st r h =
      by_test (ready st.table k)
      (λ e. rw (served_again n k st e) (served_suffices n (dispatched st k k) (turn_reached st r e) (omega (arith, (turn st r e).own))))
      (λ e. rw (served_done n k st e) e)

-- Who is ready after others were dispatched, and balances have only fallen, was ready before.
pub ready_before : (t u : List ℤ) (k : ℕ) → Shifted t u k 0 → le_z (balance u k) (balance t k) ≡ true → ready u k ≡ true → ready t k ≡ true
ready_before t u k s falls h =
    let r = ready_facts u k h in
    facts_ready t k
    (record {
      waits = omega (arith, s, r.waits);
      enough = rw (← shifted_size t u k 0 s 0 (omega arith)) (omega (arith, zarith, r.enough));
    })

-- The clients below n are not ready.
record Unready (t : List ℤ) (n : ℕ) (st : State) : Type 0 where
  reached : Reached t st.table
  none : (k : ℕ) → k < n → ready st.table k ≡ false

module _ (t : List ℤ) (f : InOrder t) where
  unready_served : (n k : ℕ) → k < nodes → n ≤ k → (m : ℕ) (st : State) → Unready t n st → Unready t n (served m k st)
  unready_served n k hk low = served_keeps (Unready t n) k each
    where
      each : (st : State) → Unready t n st → ready st.table k ≡ true → Unready t n (dispatched st k k)
      each st p e =
          let d = turn t f k hk st p.reached e in
          record {
            reached = turn_reached t f k hk st p.reached e;
            none = λ j hj.
                by_test (ready (dispatched st k k).table j)
                (λ h.
                absurd
                (true_false
                (ready_before st.table (dispatched st k k).table j (d.other j (λ e. omega arith)) (dispatch_falls (tree_of t) st.table (dispatched st k k).table k k d j) h)
                (p.none j hj)))
                (λ h. h);
          }

  unready_all : (st : State) → Reached t st.table → Unready t nodes (served_all st)
  unfolding served_all
  unready_all st r =
      for_reaches (Unready t) nodes (λ k s. served (waiting s.table k) k s)
      (λ k s hk p.
      let q = unready_served k k hk (omega arith) (waiting s.table k) s p in
      record {
        reached = q.reached;
        none = λ j hj.
            below_cases k j hj (q.none j)
            (λ e. rw e (served_suffices t f k hk (waiting s.table k) s p.reached (omega arith)));
      })
      st
      (record { reached = r; none = λ j hj. absurd (omega arith) })

  pub served_all_reached : (st : State) → Reached t st.table → Reached t (served_all st).table
  served_all_reached st r = (unready_all st r).reached

  -- After step 2 no client is ready.
  pub served_all_suffices : (st : State) → Reached t st.table → (k : ℕ) → k < nodes → ready (served_all st).table k ≡ false
  served_all_suffices st r = (unready_all st r).none

-- What each dispatch of a ready client keeps, step 2 keeps.
pub served_all_keeps : (P : State → Type 0) → ((k : ℕ) (st : State) → k < nodes → P st → ready st.table k ≡ true → P (dispatched st k k)) → (st : State) → P st → P (served_all st)
unfolding served_all
served_all_keeps P each =
    for_keeps P nodes (λ k s. served (waiting s.table k) k s) (λ k s hk p. served_keeps P k (λ st. each k st hk) (waiting s.table k) s p)

-- The same with what is known at each dispatch.
pub served_all_with : (t : List ℤ) → InOrder t → (P : State → Type 0) → ((k : ℕ) (st : State) → k < nodes → Reached t st.table → Ready st.table k → Dispatch (tree_of t) st.table (dispatched st k k).table k k → P st → P (dispatched st k k)) → (st : State) → Reached t st.table → P st → P (served_all st)
served_all_with t f P each st r p =
    (served_all_keeps (λ s. Reached t s.table × P s)
    (λ k s hk q e. (turn_reached t f k hk s q.0 e, each k s hk q.0 (ready_facts s.table k e) (turn t f k hk s q.0 e) q.1))
    st (r, p)).1
