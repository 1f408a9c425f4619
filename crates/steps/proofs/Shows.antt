-- A dispatch of the code, seen on the states: where the table and the lists show a state, they show it dispatched afterwards. And a
-- loop of dispatches, which makes the whole of a step.
use Prim.Native.Nat.{ℕ, ◌+◌, ◌*◌, ◌-◌, ◌≤◌}
use mathlib.Core.Path.{◌≡◌, refl, sym, ap, ◌∙◌}
use mathlib.Core.List.{List, []}
use native.Mathlib.Omega.{arith}
use borrow.Author.Tests.{eqb-true, eqb-false}
use lib.Dec.{eqb}
use lib.ListN.{length, drop, length-append, length-drop}
use lib.IntN.{ℤ, pos}
use Rattle.numbers.specs.Below.{for_below}
use Rattle.numbers.proofs.Steps.{for_next}
use Rattle.numbers.proofs.Tests.{by_test, cond_true, cond_false}
use Rattle.definitions.specs.Limits.{entry_length, first_port, second_port}
use Rattle.definitions.specs.Places.{port, tag, size}
use Rattle.definitions.specs.Tick.{State, dispatched, of_port, port_waiting, listed, all_waiting}
use Rattle.definitions.proofs.Ports.{whole, whole_of, port_none}
use Rattle.ticklaws.proofs.Ports.{entry_here, entry_other, entry_length_law}
use Rattle.ticklaws.proofs.Dispatch.{dispatch_entry}
use Rattle.table.specs.declared.PortCounts.{PortCounts}
use Rattle.ticklaws.specs.Ports.{gets}
use Rattle.dispatch.specs.Entries.{entered, table_after, entered_on, list_after}
use Rattle.dispatch.proofs.Gets.{length_list_after}
use Rattle.dispatch.proofs.Listed.{listed_entry, next_table}
use Rattle.steps.specs.Steps.{Room, Lists, Shows, Follows}

-- A list is as long as at first, where its entries are no longer.
listed_length : (entries first : List ℤ) → length (listed entries first) ≡ length entries + (length first - length entries)
unfolding listed
listed_length entries first = length-append entries (drop (length entries) first) ∙ ap (λ n. length entries + n) (length-drop (length entries) first)

-- One of the two lists gets an entry.
gets_both : (q : ℕ) → q ≤ second_port → gets first_port q + gets second_port q ≡ 1
unfolding gets
gets_both q small =
    by_test (eqb q first_port)
    (λ y. by_test (eqb q second_port) (λ z. absurd (omega (arith, eqb-true q first_port y, eqb-true q second_port z))) (λ z. rw (y, z)))
    (λ y. by_test (eqb q second_port) (λ z. rw (y, z)) (λ z. absurd (omega (arith, eqb-false q first_port y, eqb-false q second_port z))))

-- The list of a port after a dispatch.
module _ (port_of : ℕ → ℕ) (p : ℕ) (from : List ℤ) (st : State) (l : List ℤ) (n k s : ℕ) (h : Lists port_of p from st l n) (w : whole st.entries) (same : port st.table k ≡ port_of k) where
  out : List ℤ
  out = of_port port_of p st.entries

  list_here : port st.table k ≡ p → entry_length * n + entry_length ≤ length l → entered l (entry_length * n) (pos k) (tag st.table k 0) (pos (size st.table k 0)) (pos s) ≡ listed (of_port port_of p (dispatched st k s).entries) from
  unfolding out
  list_here e room =
      rw (h.list, h.count, entry_here port_of p st k s w (sym same ∙ e))
      (listed_entry out from (pos k) (tag st.table k 0) (pos (size st.table k 0)) (pos s) (omega (arith, h.count, ap length h.list, listed_length out from)))

  list_next : entry_length * (n + gets p (port st.table k)) ≤ length l → list_after p l n st.table k s ≡ listed (of_port port_of p (dispatched st k s).entries) from
  unfolding gets list_after entered_on
  list_next room =
      by_test (eqb (port st.table k) p)
      (λ y. cond_true _ _ l y ∙ list_here (eqb-true _ p y) (omega (arith, cond_true {A = ℕ} (eqb (port st.table k) p) 1 0 y)))
      (λ y. cond_false _ _ l y ∙ h.list ∙ ap (λ (es : List ℤ). listed es from) (sym (entry_other port_of p st k s w (λ e. eqb-false _ p y (same ∙ e)))))

  count_next : entry_length * (n + gets p (port st.table k)) ≡ length (of_port port_of p (dispatched st k s).entries)
  unfolding gets
  count_next = omega (arith, h.count, entry_length_law port_of p st k s w, ap (λ (q : ℕ). gets p q) same)

-- At first the lists have no entry.
pub shows_first : (t a b : List ℤ) (n : PortCounts) → n.first ≡ 0 → n.second ≡ 0 → Room first_port t a 0 → Room second_port t b 0 → Shows (port t) a b (record { table = t; entries = [] }) t a b n
unfolding listed
shows_first t a b n zero₀ zero₁ room₀ room₁ =
    record {
      table = refl;
      ports = λ k. refl;
      all = omega arith;
      first = lists_first first_port a n.first zero₀ room₀;
      second = lists_first second_port b n.second zero₁ room₁;
    }
  where
    lists_first : (p : ℕ) (l : List ℤ) (m : ℕ) → m ≡ 0 → Room p t l 0 → Lists (port t) p l (record { table = t; entries = [] }) l m
    lists_first p l m zero room =
        record { list = rw (port_none (port t) p); count = omega (arith, ap length (port_none (port t) p)); room = rw zero room }

-- A turn of a loop of dispatches that makes a step: a dispatch for client k with node s as supplier is the first of the step.
pub record Turn (On : List ℤ → Type 0) (step : State → State) (t : List ℤ) (k s : ℕ) : Type 0 where
  pub on : On (table_after t k s)
  pub falls : all_waiting (table_after t k s) + 1 ≡ all_waiting t
  pub small : port t k ≤ second_port
  pub ports : (j : ℕ) → port (table_after t k s) j ≡ port t j
  pub fewer : (p : ℕ) → port_waiting (table_after t k s) p + gets p (port t k) ≡ port_waiting t p
  pub again : (st : State) → t ≡ st.table → step st ≡ step (dispatched st k s)

-- There is room for its entry.
pub entry_room : (On : List ℤ → Type 0) (step : State → State) (t : List ℤ) (k s : ℕ) → Turn On step t k s → (p : ℕ) (l : List ℤ) (n : ℕ) → Room p t l n → entry_length * (n + gets p (port t k)) ≤ length l
unfolding Room
entry_room On step t k s turn p l n room = omega (arith, room, turn.fewer p)

-- The list m of port p, with n' entries written, after that dispatch of the list l with n.
record Listed (p : ℕ) (t : List ℤ) (k s : ℕ) (l : List ℤ) (n : ℕ) (m : List ℤ) (n' : ℕ) : Type 0 where
  list : m ≡ list_after p l n t k s
  count : n' ≡ n + gets p (port t k)

-- The list of a port has room again.
room_next : (On : List ℤ → Type 0) (step : State → State) (t : List ℤ) (k s : ℕ) → Turn On step t k s → (p : ℕ) (l m : List ℤ) (n n' : ℕ) → Room p t l n → Listed p t k s l n m n' → (u : List ℤ) → u ≡ table_after t k s → Room p u m n'
unfolding Room
room_next On step t k s turn p l m n n' room made u e =
    omega (arith, room, turn.fewer p, made.count, ap length made.list, length_list_after p l n t k s, ap (λ (v : List ℤ). port_waiting v p) e)

lists_next : (On : List ℤ → Type 0) (step : State → State) (t : List ℤ) (k s : ℕ) → Turn On step t k s → (port_of : ℕ → ℕ) (p : ℕ) (from : List ℤ) (st : State) (l m : List ℤ) (n n' : ℕ) → t ≡ st.table → whole st.entries → port t k ≡ port_of k → Lists port_of p from st l n → Listed p t k s l n m n' → Lists port_of p from (dispatched st k s) m n'
unfolding Room
lists_next On step t k s turn port_of p from st l m n n' e w same h made =
    let at : port st.table k ≡ port_of k = rw (← e) same in
    let fits : entry_length * (n + gets p (port st.table k)) ≤ length l = rw (← e) (entry_room On step t k s turn p l n (rw e h.room)) in
    record {
      list = made.list ∙ rw e (list_next port_of p from st l n k s h w at fits);
      count = omega (arith, made.count, ap (λ (v : List ℤ). gets p (port v k)) e, count_next port_of p from st l n k s h w at);
      room = room_next On step t k s turn p l m n n' (rw e h.room) made _ (sym (ap (λ (v : List ℤ). table_after v k s) e ∙ next_table st k s));
    }

shows_next : (On : List ℤ → Type 0) (step : State → State) (t : List ℤ) (k s : ℕ) → Turn On step t k s → (port_of : ℕ → ℕ) (from₀ from₁ : List ℤ) (st : State) (a b a' b' : List ℤ) (n n' : PortCounts) → Shows port_of from₀ from₁ st t a b n → Listed first_port t k s a n.first a' n'.first → Listed second_port t k s b n.second b' n'.second → Shows port_of from₀ from₁ (dispatched st k s) (table_after t k s) a' b' n'
shows_next On step t k s turn port_of from₀ from₁ st a b a' b' n n' h first second =
    let w = whole_of (n.first + n.second) st.entries (sym h.all) in
    record {
      table = ap (λ (u : List ℤ). table_after u k s) h.table ∙ next_table st k s;
      ports = λ j. turn.ports j ∙ h.ports j;
      all = omega (arith, h.all, first.count, second.count, gets_both (port t k) turn.small, dispatch_entry st k s);
      first = lists_next On step t k s turn port_of first_port from₀ st a a' n.first n'.first h.table w (h.ports k) h.first first;
      second = lists_next On step t k s turn port_of second_port from₁ st b b' n.second n'.second h.table w (h.ports k) h.second second;
    }

-- No step, and a step after another.
module _ (t a b : List ℤ) (n : PortCounts) where
  pub follows_none : (step : ℕ → State → State) → Follows (for_below 0 step) t a b n t a b n
  unfolding for_below
  follows_none step = record { shows = λ port_of from₀ from₁ st h. h }

  pub follows_then : (step : ℕ → State → State) (k : ℕ) (u a' b' : List ℤ) (m : PortCounts) → Follows (for_below k step) t a b n u a' b' m → (v a″ b″ : List ℤ) (r : PortCounts) → Follows (step k) u a' b' m v a″ b″ r → Follows (for_below (k + 1) step) t a b n v a″ b″ r
  follows_then step k u a' b' m f v a″ b″ r g =
      record { shows = λ port_of from₀ from₁ st h. rw (for_next k step st) (g.shows port_of from₀ from₁ (for_below k step st) (f.shows port_of from₀ from₁ st h)) }

-- What a loop of steps needs of these.
pub ruleset following = (follows_none, follows_then)

-- A loop of dispatches that makes a step, on its way: the table is one that the step passes through, the lists have room for all that
-- wait, and what is left of the step from here amounts to the whole of it from the start.
pub record Going (On : List ℤ → Type 0) (step : State → State) (t₀ a₀ b₀ : List ℤ) (n₀ : PortCounts) (t a b : List ℤ) (n : PortCounts) : Type 0 where
  pub on : On t
  pub first : Room first_port t a n.first
  pub second : Room second_port t b n.second
  pub left : (t' a' b' : List ℤ) (n' : PortCounts) → Follows step t a b n t' a' b' n' → Follows step t₀ a₀ b₀ n₀ t' a' b' n'

module _ (On : List ℤ → Type 0) (step : State → State) (t₀ a₀ b₀ : List ℤ) (n₀ : PortCounts) where
  pub going_first : On t₀ → Room first_port t₀ a₀ n₀.first → Room second_port t₀ b₀ n₀.second → Going On step t₀ a₀ b₀ n₀ t₀ a₀ b₀ n₀
  going_first on first second = record { on = on; first = first; second = second; left = λ t' a' b' n' f. f }

  pub going_next : (t a b : List ℤ) (n : PortCounts) (k s : ℕ) → Going On step t₀ a₀ b₀ n₀ t a b n → Turn On step t k s → (u a' b' : List ℤ) (n' : PortCounts) → u ≡ table_after t k s → a' ≡ list_after first_port a n.first t k s → b' ≡ list_after second_port b n.second t k s → (n'.first ≡ n.first + gets first_port (port t k)) × (n'.second ≡ n.second + gets second_port (port t k)) → Going On step t₀ a₀ b₀ n₀ u a' b' n'
  going_next t a b n k s g turn u a' b' n' e made₀ made₁ counts =
      let first : Listed first_port t k s a n.first a' n'.first = record { list = made₀; count = counts.0 } in
      let second : Listed second_port t k s b n.second b' n'.second = record { list = made₁; count = counts.1 } in
      record {
        on = rw e turn.on;
        first = room_next On step t k s turn first_port a a' n.first n'.first g.first first u e;
        second = room_next On step t k s turn second_port b b' n.second n'.second g.second second u e;
        left = λ t' x' y' m f.
            g.left t' x' y' m
            (record {
              shows = λ port_of from₀ from₁ st h.
                  rw (turn.again st h.table)
                  (f.shows port_of from₀ from₁ (dispatched st k s) (rw e (shows_next On step t k s turn port_of from₀ from₁ st a b a' b' n n' h first second)));
            });
      }

  pub going_done : (t a b : List ℤ) (n : PortCounts) → Going On step t₀ a₀ b₀ n₀ t a b n → ((st : State) → t ≡ st.table → step st ≡ st) → Follows step t₀ a₀ b₀ n₀ t a b n
  going_done t a b n g done = g.left t a b n (record { shows = λ port_of from₀ from₁ st h. rw (done st h.table) h })
