-- Step 4: again and again the next client's request is dispatched from its supplier. A supplier stands the grains above
-- its floor, since it has them and its children's balances sum to at most its depth. Each dispatch takes one request out,
-- so the count of all waiting requests is enough fuel, and afterwards no request has a supplier.
use Prim.Native.Nat.{ℕ, zero, suc, ◌+◌, ◌≤◌, ◌<◌}
use mathlib.Core.Path.{◌≡◌}
use mathlib.Core.Bool.{true, false}
use mathlib.Core.List.{List}
use native.Mathlib.Omega.{arith}
use native.Mathlib.Decide.{ℕ_discrete}
use borrow.Author.Tests.{eq-eqb, ne_eqb}
use lib.IntN.{ℤ, pos}
use lib.Signed.{le_z}
use Rattle.numbers.specs.Whole.{plus, minus}
use Rattle.numbers.proofs.Tests.{by_test}
use Rattle.numbers.proofs.Parts.{zarith}
use Rattle.numbers.proofs.Sums.{sum_changed, term_le_sum}
use Rattle.definitions.specs.Limits.{nodes}
use Rattle.definitions.specs.Places.{balance, waiting, size}
use Rattle.definitions.specs.Tree.{Tree, tree_of}
use Rattle.definitions.specs.Tick.{nobody, State, grains, enough, dispatched, supplier, supplied, next, lent, all_waiting}
use Rattle.definitions.specs.Choice.{HasSupplier}
use Rattle.definitions.proofs.Facts.{InOrder}
use Rattle.definitions.proofs.Choice.{has_supplier, next_found, none_next}
use Rattle.treelaws.proofs.Floors.{children_under, Levels, Room, Under, levels, grounds}
use Rattle.treelaws.proofs.Way.{ways_of, At, above_there}
use Rattle.ticklaws.proofs.Frame.{frame_tree}
use Rattle.ticklaws.proofs.Reached.{Reached}
use Rattle.ticklaws.proofs.Supplier.{supplier_way}
use Rattle.ticklaws.proofs.Dispatch.{Dispatch, dispatch, dispatch_reached, dispatch_under}
use Rattle.ticklaws.proofs.Served.{client_at}

pub lent_again : (n : ℕ) (st : State) → (next st.table ≡ nobody → ⊥) → lent (suc n) st ≡ lent n (dispatched st (next st.table) (supplier st.table (next st.table)))
unfolding lent
lent_again n st ne = rw (ne_eqb (next st.table) nobody ne, lent)

pub lent_done : (n : ℕ) (st : State) → next st.table ≡ nobody → lent (suc n) st ≡ st
unfolding lent
lent_done n st e = rw (eq-eqb (next st.table) nobody e, lent)

-- What each dispatch of a request that has a supplier keeps, step 4 keeps.
pub lent_keeps : (P : State → Type 0) → ((st : State) → P st → (k : ℕ) → k < nodes → HasSupplier st.table k → P (dispatched st k (supplier st.table k))) → (n : ℕ) (st : State) → P st → P (lent n st)
unfolding lent
lent_keeps P each zero st p = p
lent_keeps P each (suc n) st p =
    elim (ℕ_discrete (next st.table) nobody) [
      | yes e ↦ rw (lent_done n st e) p
      | no ne ↦
          let k = next st.table in
          let found = next_found st.table ne in
          rw (lent_again n st ne)
          (lent_keeps P each n (dispatched st k (supplier st.table k)) (each st p k found.0 (has_supplier st.table k found.1)))
    ]

-- A node with enough balance, in a tree where no balance exceeds its depth, stands that amount above its floor.
pub supplier_room : (tree : Tree) → Levels tree → (B : ℕ → ℤ) → Under tree B → (a s : ℕ) → s < nodes → le_z (pos a) (B s) ≡ true → Room tree B a s
unfolding plus minus
supplier_room tree L B under a s hs h =
    record {
      class = λ e. omega (arith, zarith, children_under tree B L under s hs e);
      client = λ e. omega (arith, zarith);
    }

-- A table that is reached, with no balance above its depth.
pub record Settled (t u : List ℤ) : Type 0 where
  pub reached : Reached t u
  pub under : Under (tree_of t) (balance u)

module _ (t : List ℤ) (f : InOrder t) (st : State) (r : Settled t st.table) (k : ℕ) (hk : k < nodes) (s : HasSupplier st.table k) where
  same : tree_of st.table ≡ tree_of t
  same = frame_tree t st.table r.reached.frame

  pub supplier_at : At (tree_of t) ((tree_of t).level (supplier st.table k)) (supplier st.table k)
  supplier_at =
      above_there (tree_of t) (ways_of t f) k (supplier st.table k) (client_at t st.table r.reached k hk s.waits) (rw same at (supplier_way st.table k s))

  pub lent_dispatch : Dispatch (tree_of t) st.table (dispatched st k (supplier st.table k)).table k (supplier st.table k)
  lent_dispatch = dispatch t f st r.reached k hk s.waits (supplier st.table k) supplier_at

  pub lent_settled : Settled t (dispatched st k (supplier st.table k)).table
  unfolding enough
  lent_settled =
      let u = st.table in
      let v = (dispatched st k (supplier u k)).table in
      record {
        reached =
            dispatch_reached t f st r.reached k hk s.waits (supplier u k) supplier_at
            (supplier_room (tree_of t) (levels t (grounds t f)) (balance u) r.under (grains (size u k 0)) (supplier u k) supplier_at.low s.enough);
        under = dispatch_under (tree_of t) u v k (supplier u k) lent_dispatch r.under;
      }

-- A dispatch takes one waiting request out.
pub waiting_falls : (tree : Tree) (t u : List ℤ) (k s : ℕ) → k < nodes → Dispatch tree t u k s → all_waiting u + 1 ≡ all_waiting t
unfolding all_waiting
waiting_falls tree t u k s hk d =
    omega (
      arith,
      sum_changed nodes k (waiting u) (waiting t) hk (λ j hj ne. omega (arith, d.other j ne)),
      d.own,
    )

none_supplied : (t : List ℤ) → all_waiting t ≡ 0 → (k : ℕ) → k < nodes → supplied t k ≡ false
unfolding all_waiting
none_supplied t e k hk = by_test (supplied t k) (λ h. absurd (none (has_supplier t k h).waits)) (λ h. h)
  where
    none : 0 < waiting t k → ⊥
    none l = omega (arith, term_le_sum nodes k (waiting t) hk)

module _ (t : List ℤ) (f : InOrder t) where
  pub lent_reached : (n : ℕ) (st : State) → Settled t st.table → Settled t (lent n st).table
  lent_reached = lent_keeps (λ st. Settled t st.table) (lent_settled t f)

  -- All waiting requests are enough fuel.
  pub lent_suffices : (n : ℕ) (st : State) → Settled t st.table → all_waiting st.table ≤ n → next (lent n st).table ≡ nobody
  unfolding lent
  lent_suffices zero st r h = none_next st.table (none_supplied st.table (omega arith))
  lent_suffices (suc n) st r h =
      elim (ℕ_discrete (next st.table) nobody) [
        | yes e ↦ rw (lent_done n st e) e
        | no ne ↦
            let k = next st.table in
            let s = supplier st.table k in
            let found = next_found st.table ne in
            let facts = has_supplier st.table k found.1 in
            rw (lent_again n st ne)
            (lent_suffices n (dispatched st k s) (lent_settled t f st r k found.0 facts)
            (omega (arith, waiting_falls (tree_of t) st.table (dispatched st k s).table k s found.0 (lent_dispatch t f st r k found.0 facts))))
      ]

-- What each dispatch of step 4 keeps, with what is known at it, step 4 keeps.
pub lent_with : (t : List ℤ) → InOrder t → (P : State → Type 0) → ((st : State) → Settled t st.table → (k : ℕ) → k < nodes → HasSupplier st.table k → Dispatch (tree_of t) st.table (dispatched st k (supplier st.table k)).table k (supplier st.table k) → P st → P (dispatched st k (supplier st.table k))) → (n : ℕ) (st : State) → Settled t st.table → P st → P (lent n st)
lent_with t f P each n st r p =
    (lent_keeps (λ s. Settled t s.table × P s)
    (λ s q k hk e. (lent_settled t f s q.0 k hk e, each s q.0 k hk e (lent_dispatch t f s q.0 k hk e) q.1))
    n st (r, p)).1
