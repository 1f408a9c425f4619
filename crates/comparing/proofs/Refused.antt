-- Where one of two tables is not in order, or has another length, same is refused with 1.
use mathlib.Core.Path.{◌≡◌, sym, ap, ◌∙◌}
use mathlib.Core.Bool.{false, not}
use mathlib.Core.List.{List, [], ◌∷◌}
use native.Mathlib.Omega.{arith}
use lib.ListN.{length}
use lib.IntN.{ℤ}
use Rattle.std.specs.Prelude.{Err}
use Rattle.numbers.specs.Tests.{every}
use Rattle.numbers.proofs.Every.{head_fails, rest_fail}
use Rattle.definitions.specs.Limits.{table_length}
use Rattle.definitions.specs.Order.{in_order}
use Rattle.definitions.specs.Refusals.{refused}
use Rattle.definitions.specs.Calls.{same_refusal, same_answer}
use Rattle.definitions.proofs.Refusals.{first_here, outcome_refused}
use Rattle.order.proofs.Length.{other_length}
use Rattle.answers.specs.declared.Refusal.TheVariants.{NotInOrder}
use Rattle.answers.specs.Answers.{told_compared}

-- Refused with 1 where one is not in order.
not_both : (a b : List ℤ) → every (in_order a ∷ in_order b ∷ []) ≡ false → told_compared (Err NotInOrder) ≡ same_answer a b
unfolding told_compared same_answer same_refusal
not_both a b h =
    let number = first_here 1 (not (every (in_order a ∷ in_order b ∷ []))) [] (ap not h) in
    sym (outcome_refused _ _ (λ e. omega (arith, number, e)) ∙ ap refused number)

pub not_first : (a b : List ℤ) → in_order a ≡ false → told_compared (Err NotInOrder) ≡ same_answer a b
not_first a b h = not_both a b (head_fails _ _ h)

pub not_second : (a b : List ℤ) → in_order b ≡ false → told_compared (Err NotInOrder) ≡ same_answer a b
not_second a b h = not_both a b (rest_fail _ _ (head_fails _ _ h))

pub short_first : (a b : List ℤ) → (length a ≡ table_length → ⊥) → told_compared (Err NotInOrder) ≡ same_answer a b
short_first a b h = not_first a b (sym (other_length a h))

pub short_second : (a b : List ℤ) → (length b ≡ table_length → ⊥) → told_compared (Err NotInOrder) ≡ same_answer a b
short_second a b h = not_second a b (sym (other_length b h))
