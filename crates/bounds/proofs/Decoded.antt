-- What an observer reads from the numbers that a tick writes: each dispatch writes four, so after it the observer reads one
-- entry more, behind those before it, whatever the list holds beyond. Counts over entries grow by that entry's term.
use Prim.Native.Nat.{ℕ, zero, suc, ◌+◌, ◌*◌, ◌/◌, ◌≤◌}
use mathlib.Core.Path.{◌≡◌, refl, ap, ◌∙◌}
use mathlib.Core.Bool.{cond}
use mathlib.Core.List.{List, [], ◌∷◌, ◌++◌, append-nil}
use native.Mathlib.Omega.{arith}
use native.Mathlib.Nat.{zero-add, suc-add}
use lib.Dec.{eqb}
use lib.ListN.{length}
use lib.IntN.{ℤ, pos}
use Rattle.numbers.specs.Whole.{plus}
use Rattle.definitions.specs.Limits.{entry_length, first_port, second_port}
use Rattle.definitions.specs.Places.{size, tag}
use Rattle.definitions.specs.Tick.{State, dispatched, of_port}
use Rattle.definitions.proofs.Ports.{whole, whole_of, by_entries, by_port, port_none, port_here, port_other}
use Rattle.ticklaws.proofs.Dispatch.{dispatch_entry}
use Rattle.bounds.specs.Observer.{Entry, entries_in, entries_for}
use Rattle.bounds.specs.Counts.{sum_over}

-- The entries of a list of numbers, and then those of what stands behind it.
pub entries_append : (n m : ℕ) (list more : List ℤ) → length list ≡ entry_length * n → entries_in (n + m) (list ++ more) ≡ entries_in n list ++ entries_in m more
unfolding entries_in
entries_append zero m [] more e = rw (zero-add m)
entries_append zero m (a ∷ list) more e = absurd (omega arith)
entries_append (suc n) m [] more e = absurd (omega arith)
entries_append (suc n) m (a ∷ []) more e = absurd (omega arith)
entries_append (suc n) m (a ∷ b ∷ []) more e = absurd (omega arith)
entries_append (suc n) m (a ∷ b ∷ c ∷ []) more e = absurd (omega arith)
entries_append (suc n) m (a ∷ b ∷ c ∷ d ∷ list) more e = rw (suc-add n m, entries_in, entries_append n m list more (omega arith))

-- A sum over entries with one entry more.
pub sum_last : (f : Entry → ℕ) (list : List Entry) (e : Entry) → sum_over f (list ++ (e ∷ [])) ≡ sum_over f list + f e
unfolding sum_over
sum_last f [] e = omega arith
sum_last f (a ∷ list) e = omega (arith, sum_last f list e)

pub entries_for_last : (k : ℕ) (list : List Entry) (e : Entry) → entries_for k (list ++ (e ∷ [])) ≡ entries_for k list + cond (eqb e.client k) 1 0
unfolding entries_for
entries_for_last k [] e = omega arith
entries_for_last k (a ∷ list) e = omega (arith, entries_for_last k list e)

-- The entries that a list of whole entries holds.
unfoldable pub told : List ℤ → List Entry
told list = entries_in (length list / entry_length) list

pub told_none : told [] ≡ []
unfolding told entries_in
told_none = refl

pub whole_none : whole []
whole_none = whole_of 0 [] refl

-- An observer reads them from any list that begins with them.
pub told_first : (list more : List ℤ) → whole list → entries_in (length list / entry_length) (list ++ more) ≡ told list
unfolding told whole entries_in
told_first list more w =
    let none : length list / entry_length ≡ length list / entry_length + 0 = omega arith in
    ap (λ (n : ℕ). entries_in n (list ++ more)) none ∙ entries_append (length list / entry_length) 0 list more w ∙ append-nil (told list)

-- The entry of a dispatch for client k with node s as supplier.
unfoldable pub entry_of : List ℤ → ℕ → ℕ → Entry
entry_of t k s = record { client = k; size = size t k 0; supplier = s }

module _ (st : State) (k s : ℕ) (w : whole st.entries) where
  pub told_dispatched : told (dispatched st k s).entries ≡ told st.entries ++ (entry_of st.table k s ∷ [])
  unfolding told whole dispatched entries_in plus entry_of
  told_dispatched =
      let one : length (dispatched st k s).entries / entry_length ≡ length st.entries / entry_length + 1 = omega (arith, dispatch_entry st k s) in
      ap (λ (n : ℕ). entries_in n (dispatched st k s).entries) one
      ∙ entries_append (length st.entries / entry_length) 1 st.entries (pos k ∷ tag st.table k 0 ∷ pos (size st.table k 0) ∷ pos s ∷ []) w

-- The entries in front of others.
pub sum_append : (f : Entry → ℕ) (list more : List Entry) → sum_over f (list ++ more) ≡ sum_over f list + sum_over f more
unfolding sum_over
sum_append f [] more = omega arith
sum_append f (e ∷ list) more = omega (arith, sum_append f list more)

-- Entries for a client are a sum over entries, too.
pub entries_for_sum : (k : ℕ) (list : List Entry) → entries_for k list ≡ sum_over (λ e. cond (eqb e.client k) 1 0) list
unfolding entries_for sum_over
entries_for_sum k [] = refl
entries_for_sum k (e ∷ list) = omega (arith, entries_for_sum k list)

sum_none : (f : Entry → ℕ) → sum_over f (told []) ≡ 0
unfolding sum_over
sum_none f = ap (sum_over f) told_none

-- One entry more in front.
sum_first : (f : Entry → ℕ) (a b c d : ℤ) (list : List ℤ) → sum_over f (told (a ∷ b ∷ c ∷ d ∷ list)) ≡ f (record { client = plus a; size = plus c; supplier = plus d }) + sum_over f (told list)
unfolding told entries_in sum_over
sum_first f a b c d list =
    let one : length (a ∷ b ∷ c ∷ d ∷ list) / entry_length ≡ suc (length list / entry_length) = omega arith in
    ap (λ (n : ℕ). sum_over f (entries_in n (a ∷ b ∷ c ∷ d ∷ list))) one

-- A sum over the entries of both ports is that over all.
pub sum_ports : (f : Entry → ℕ) (port_of : ℕ → ℕ) → ((k : ℕ) → port_of k ≤ second_port) → (list : List ℤ) → whole list → sum_over f (told (of_port port_of first_port list)) + sum_over f (told (of_port port_of second_port list)) ≡ sum_over f (told list)
sum_ports f port_of small =
    by_entries (λ (l : List ℤ). sum_over f (told (of_port port_of first_port l)) + sum_over f (told (of_port port_of second_port l)) ≡ sum_over f (told l))
    (omega (arith, sum_none f, ap (λ (l : List ℤ). sum_over f (told l)) (port_none port_of first_port), ap (λ (l : List ℤ). sum_over f (told l)) (port_none port_of second_port)))
    (λ a b c d l e.
    let of : List ℤ → ℕ = λ m. sum_over f (told m) in
    by_port port_of small (plus a)
    (λ here other.
    omega (
      arith,
      e,
      sum_first f a b c d l,
      sum_first f a b c d (of_port port_of first_port l),
      ap of (port_here port_of first_port a b c d l here),
      ap of (port_other port_of second_port a b c d l other),
    ))
    (λ other here.
    omega (
      arith,
      e,
      sum_first f a b c d l,
      sum_first f a b c d (of_port port_of second_port l),
      ap of (port_other port_of first_port a b c d l other),
      ap of (port_here port_of second_port a b c d l here),
    )))
