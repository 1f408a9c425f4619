-- What the answer of the search says of the client that goes next and of its supplier.
use Prim.Native.Nat.{ℕ}
use mathlib.Core.Path.{◌≡◌, sym, ap, ◌∙◌}
use mathlib.Core.List.{List}
use lib.Dec.{eqb}
use lib.IntN.{ℤ}
use borrow.Author.Tests.{eqb-true, eqb-false, eq-eqb, ne_eqb}
use Rattle.std.specs.Prelude.{Some, None}
use Rattle.numbers.proofs.Tests.{by_test, cond_true, cond_false}
use Rattle.definitions.specs.Tick.{nobody, supplier, next}
use Rattle.suppliers.specs.declared.Turn.{Turn}
use Rattle.suppliers.specs.Next.{next_in}

-- Client k goes next, and node s is its supplier.
pub record Goes (t : List ℤ) (k s : ℕ) : Type 0 where
  pub some : k ≡ nobody → ⊥
  pub client : k ≡ next t
  pub node : s ≡ supplier t k

module _ (t : List ℤ) where
  pub answer_nothing : next t ≡ nobody → None ≡ next_in t
  unfolding next_in
  answer_nothing e = sym (cond_true (eqb (next t) nobody) _ _ (eq-eqb (next t) nobody e))

  pub answer_client : (k s : ℕ) → Goes t k s → Some (record { client = k; supplier = s }) ≡ next_in t
  unfolding next_in
  answer_client k s g =
      ap (λ (s : ℕ). Some (record { client = k; supplier = s })) g.node
      ∙ ap (λ (j : ℕ). Some (record { client = j; supplier = supplier t j })) g.client
      ∙ sym (cond_false (eqb (next t) nobody) _ _ (ne_eqb (next t) nobody (λ e. g.some (g.client ∙ e))))

  pub turn_answer : (turn : Turn) → Some turn ≡ next_in t → Goes t turn.client turn.supplier
  unfolding next_in
  turn_answer turn e =
      by_test (eqb (next t) nobody)
      (λ h. absurd (let is = rw h at e in cc))
      (λ h.
      let is = rw h at e in
      let client : turn.client ≡ next t = cc in
      let node : turn.supplier ≡ supplier t (next t) = cc in
      record { some = λ d. eqb-false (next t) nobody h (sym client ∙ d); client = client; node = node ∙ ap (supplier t) (sym client) })

  pub none_answer : None ≡ next_in t → next t ≡ nobody
  unfolding next_in
  none_answer e =
      by_test (eqb (next t) nobody)
      (eqb-true (next t) nobody)
      (λ h. absurd (let is = rw h at e in cc))
