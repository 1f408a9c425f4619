-- Ports: a table in order has no other than the first and the second, and entries divided by port are whole entries, in their order,
-- and together all of them.
use Prim.Native.Nat.{ℕ, zero, suc, ◌+◌, ◌*◌, ◌/◌, ◌≤◌, ◌<◌}
use mathlib.Core.Path.{◌≡◌, refl, sym, ap, ◌∙◌}
use mathlib.Core.Bool.{cond}
use mathlib.Core.List.{List, [], ◌∷◌, ◌++◌, append-nil, append_assoc}
use native.Mathlib.Omega.{arith}
use native.Mathlib.Decide.{dec_lt}
use borrow.Author.Tests.{eqb-true, eqb-false, eq-eqb, ne_eqb}
use lib.Dec.{eqb}
use lib.ListN.{length, get_or-eq_default}
use lib.IntN.{ℤ, pos}
use Rattle.numbers.specs.Whole.{plus, minus}
use Rattle.numbers.proofs.Tests.{by_test, cond_true, cond_false}
use Rattle.numbers.proofs.Parts.{zarith, plus_pos, minus_pos}
use Rattle.definitions.specs.Limits.{table_length, header_length, record_length, nodes, sort_at, port_at, client, first_port, second_port, port_limit, entry_length}
use Rattle.definitions.specs.Places.{place, port}
use Rattle.definitions.specs.Tree.{tree_of, there}
use Rattle.definitions.specs.Tick.{of_port}
use Rattle.definitions.proofs.Facts.{InOrder}

-- No limit of a port is above the second.
pub limit_second : (sort : ℕ) → port_limit sort ≤ second_port
unfolding port_limit
limit_second sort = by_test (eqb sort client) (λ e. rw (cond_true _ second_port 0 e) (omega arith)) (λ e. rw (cond_false _ second_port 0 e) (omega arith))

-- Behind the last record there is none.
pub port_beyond : (t : List ℤ) (k : ℕ) → length t ≡ table_length → (k < nodes → ⊥) → port t k ≡ first_port
unfolding port place
port_beyond t k long high =
    let beyond : length t ≤ header_length + record_length * k + port_at = omega (arith, high) in
    ap plus (get_or-eq_default t (pos 0) beyond) ∙ plus_pos 0

pub ports_small : (t : List ℤ) → InOrder t → (k : ℕ) → port t k ≤ second_port
unfolding port
ports_small t f k =
    elim (dec_lt k nodes) [
      | yes hk ↦
          by_test (there (tree_of t) k)
          (λ e. omega (arith, zarith, (f.limits k hk e).port, limit_second (plus (place t k sort_at))))
          (λ e. omega (arith, ap plus (f.empty k hk e port_at (omega arith)), plus_pos 0))
      | no high ↦ omega (arith, port_beyond t k f.long high)
    ]

-- None is below 0.
pub port_whole_number : (t : List ℤ) → InOrder t → (k : ℕ) → k < nodes → minus (place t k port_at) ≡ 0
port_whole_number t f k hk =
    by_test (there (tree_of t) k)
    (λ e. omega (arith, zarith, (f.limits k hk e).port))
    (λ e. ap minus (f.empty k hk e port_at (omega arith)) ∙ minus_pos 0)

-- A list of whole entries. What holds of none, and of one more in front, holds of it.
unfoldable pub whole : List ℤ → Type 0
whole list = length list ≡ entry_length * (length list / entry_length)

pub whole_of : (n : ℕ) (list : List ℤ) → length list ≡ entry_length * n → whole list
unfolding whole
whole_of n list e = omega arith

pub by_entries : (P : List ℤ → Type 0) → P [] → ((a b c d : ℤ) (list : List ℤ) → P list → P (a ∷ b ∷ c ∷ d ∷ list)) → (list : List ℤ) → whole list → P list
unfolding whole
by_entries P none more list w = go (length list / entry_length) list w
  where
    go : (n : ℕ) (list : List ℤ) → length list ≡ entry_length * n → P list
    go zero [] e = none
    go zero (a ∷ list) e = absurd (omega arith)
    go (suc n) [] e = absurd (omega arith)
    go (suc n) (a ∷ []) e = absurd (omega arith)
    go (suc n) (a ∷ b ∷ []) e = absurd (omega arith)
    go (suc n) (a ∷ b ∷ c ∷ []) e = absurd (omega arith)
    go (suc n) (a ∷ b ∷ c ∷ d ∷ list) e = more a b c d list (go n list (omega arith))

module _ (port_of : ℕ → ℕ) (p : ℕ) where
  pub port_none : of_port port_of p [] ≡ []
  unfolding of_port
  port_none = refl

  -- An entry in front goes to its client's port and to no other.
  module _ (a b c d : ℤ) (list : List ℤ) where
    pub port_here : port_of (plus a) ≡ p → of_port port_of p (a ∷ b ∷ c ∷ d ∷ list) ≡ a ∷ b ∷ c ∷ d ∷ of_port port_of p list
    unfolding of_port
    port_here e = ap (λ (l : List ℤ). l ++ of_port port_of p list) (cond_true _ (a ∷ b ∷ c ∷ d ∷ []) [] (eq-eqb _ p e))

    pub port_other : (port_of (plus a) ≡ p → ⊥) → of_port port_of p (a ∷ b ∷ c ∷ d ∷ list) ≡ of_port port_of p list
    unfolding of_port
    port_other ne = ap (λ (l : List ℤ). l ++ of_port port_of p list) (cond_false _ (a ∷ b ∷ c ∷ d ∷ []) [] (ne_eqb _ p ne))

  -- The entries of a list, and then those of what stands behind it.
  pub port_append : (list more : List ℤ) → whole list → of_port port_of p (list ++ more) ≡ of_port port_of p list ++ of_port port_of p more
  unfolding of_port
  port_append list more =
      by_entries (λ (l : List ℤ). of_port port_of p (l ++ more) ≡ of_port port_of p l ++ of_port port_of p more)
      refl
      (λ a b c d l e.
      let one : List ℤ = cond (eqb (port_of (plus a)) p) (a ∷ b ∷ c ∷ d ∷ []) [] in
      ap (λ (rest : List ℤ). one ++ rest) e ∙ sym (append_assoc one (of_port port_of p l) (of_port port_of p more)))
      list

  -- One entry more behind.
  module _ (a b c d : ℤ) (list : List ℤ) (w : whole list) where
    pub port_gets : port_of (plus a) ≡ p → of_port port_of p (list ++ (a ∷ b ∷ c ∷ d ∷ [])) ≡ of_port port_of p list ++ (a ∷ b ∷ c ∷ d ∷ [])
    port_gets e =
        port_append list (a ∷ b ∷ c ∷ d ∷ []) w
        ∙ ap (λ (l : List ℤ). of_port port_of p list ++ l) (port_here a b c d [] e ∙ ap (λ (l : List ℤ). a ∷ b ∷ c ∷ d ∷ l) port_none)

    pub port_stays : (port_of (plus a) ≡ p → ⊥) → of_port port_of p (list ++ (a ∷ b ∷ c ∷ d ∷ [])) ≡ of_port port_of p list
    port_stays ne =
        port_append list (a ∷ b ∷ c ∷ d ∷ []) w
        ∙ ap (λ (l : List ℤ). of_port port_of p list ++ l) (port_other a b c d [] ne ∙ port_none)
        ∙ append-nil (of_port port_of p list)

  pub port_whole : (list : List ℤ) → whole list → whole (of_port port_of p list)
  unfolding whole
  port_whole list =
      by_entries (λ (l : List ℤ). length (of_port port_of p l) ≡ entry_length * (length (of_port port_of p l) / entry_length))
      (rw port_none)
      (λ a b c d l e.
      by_test (eqb (port_of (plus a)) p)
      (λ y. omega (arith, ap length (port_here a b c d l (eqb-true _ p y))))
      (λ n. omega (arith, ap length (port_other a b c d l (eqb-false _ p n)))))
      list

-- An entry goes to one of the two ports.
pub by_port : (port_of : ℕ → ℕ) → ((k : ℕ) → port_of k ≤ second_port) → {P : Type 0} (k : ℕ) → (port_of k ≡ first_port → (port_of k ≡ second_port → ⊥) → P) → ((port_of k ≡ first_port → ⊥) → port_of k ≡ second_port → P) → P
by_port port_of small k first second =
    by_test (eqb (port_of k) first_port)
    (λ y. let e = eqb-true (port_of k) first_port y in first e (λ s. omega arith))
    (λ n. let ne = eqb-false (port_of k) first_port n in second ne (omega (arith, small k)))

-- Together they get all.
pub ports_all : (port_of : ℕ → ℕ) → ((k : ℕ) → port_of k ≤ second_port) → (list : List ℤ) → whole list → length (of_port port_of first_port list) + length (of_port port_of second_port list) ≡ length list
ports_all port_of small =
    by_entries (λ (l : List ℤ). length (of_port port_of first_port l) + length (of_port port_of second_port l) ≡ length l)
    (omega (arith, ap length (port_none port_of first_port), ap length (port_none port_of second_port)))
    (λ a b c d l e.
    by_port port_of small (plus a)
    (λ here other. omega (arith, ap length (port_here port_of first_port a b c d l here), ap length (port_other port_of second_port a b c d l other)))
    (λ other here. omega (arith, ap length (port_other port_of first_port a b c d l other), ap length (port_here port_of second_port a b c d l here))))

-- Where all are on one port, it gets them as they are.
pub port_alone : (port_of : ℕ → ℕ) (p : ℕ) → ((k : ℕ) → port_of k ≡ p) → (list : List ℤ) → whole list → of_port port_of p list ≡ list
port_alone port_of p alone =
    by_entries (λ (l : List ℤ). of_port port_of p l ≡ l)
    (port_none port_of p)
    (λ a b c d l e. port_here port_of p a b c d l (alone (plus a)) ∙ ap (λ (rest : List ℤ). a ∷ b ∷ c ∷ d ∷ rest) e)
