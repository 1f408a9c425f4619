-- Look at the root is accepted exactly when the table is in order.
use Prim.Native.Nat.{ℕ}
use mathlib.Core.Path.{◌≡◌, refl, sym, ap, ◌∙◌}
use mathlib.Core.Bool.{true, false, not}
use mathlib.Core.List.{List}
use native.Mathlib.Omega.{arith}
use borrow.Author.Tests.{not-false}
use lib.IntN.{ℤ, pos}
use Rattle.numbers.specs.Whole.{plus, within_ℤ}
use Rattle.numbers.proofs.Tests.{by_test}
use Rattle.definitions.specs.Limits.{root}
use Rattle.definitions.specs.Order.{in_order}
use Rattle.definitions.specs.Refusals.{Outcome, accepted, refused, number_told}
use Rattle.definitions.specs.Calls.{look_refusal, look_answer}
use Rattle.definitions.proofs.Facts.{facts, root_there}
use Rattle.definitions.proofs.Refusals.{none_first, first_none, first_end, outcome_accepted, number_outcome}

pub look_accepted : (t : List ℤ) (values : List ℤ) → look_answer t (pos root) ≡ accepted values → in_order t ≡ true
unfolding look_answer look_refusal number_told
look_accepted t values h = not-false _ (none_first 1 _ _ (omega arith) (sym (number_outcome _ _) ∙ ap number_told h)).0

-- The root of a table in order is there.
root_seen : (t : List ℤ) → in_order t ≡ true → look_refusal t (pos root) ≡ 0
unfolding look_refusal plus within_ℤ
root_seen t h = first_none 1 _ _ (ap not h) (first_none 2 _ _ refl (first_none 3 _ _ (ap not (root_there t (facts t h).root)) first_end))

not_both : (o : Outcome) (values : List ℤ) (number : ℕ) → o ≡ accepted values → o ≡ refused number → ⊥
not_both o values number a r = let z : ◌≡◌ {A = ℕ} 0 1 = cc in omega arith

pub look_refused : (t : List ℤ) (number : ℕ) → look_answer t (pos root) ≡ refused number → in_order t ≡ false
unfolding look_answer
look_refused t number h = by_test (in_order t) (λ e. absurd (not_both _ _ number (outcome_accepted _ _ (root_seen t e)) h)) (λ e. e)
