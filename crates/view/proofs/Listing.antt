-- The search for a node's entry: the entry here decides, or what is left does.
use Prim.Native.Nat.{ℕ, suc, ◌+◌, ◌-◌, ◌≤◌, ◌<◌}
use mathlib.Core.Path.{◌≡◌, sym, ap, ◌∙◌}
use mathlib.Core.Bool.{true, false, cond}
use mathlib.Core.List.{List, []}
use native.Mathlib.Omega.{arith}
use lib.Dec.{eqb}
use borrow.Author.Tests.{eq-eqb, ne_eqb}
use Rattle.numbers.proofs.Tests.{cond_true, cond_false}
use Rattle.definitions.specs.Refusals.{accepted, refused}
use Rattle.answers.specs.Answers.{number_of}
use Rattle.answers.specs.declared.Refusal.TheVariants.{PlanWrong}
use Rattle.planformat.specs.Format.{count_in, entry_in, formed}
use Rattle.view.specs.declared.Body.{Body}
use Rattle.std.specs.Prelude.{Some, Ok}
use Rattle.view.specs.Views.{BodyAt}
use Rattle.view.specs.Answer.{body_values, listed_from, body_answer, told_found}

module _ (s : List ℕ) (number : ℕ) where
  step : (i n : ℕ) → i < n → listed_from s number i (n - i) ≡ cond (eqb (entry_in s i).node number) (body_values (entry_in s i)) (listed_from s number (i + 1) (n - (i + 1)))
  unfolding listed_from
  step i n h =
      let more : n - i ≡ suc (n - (i + 1)) = omega arith in
      ap (listed_from s number i) more

  pub listed_here : (i n : ℕ) → i < n → (entry_in s i).node ≡ number → listed_from s number i (n - i) ≡ body_values (entry_in s i)
  listed_here i n h e = step i n h ∙ cond_true _ _ _ (eq-eqb (entry_in s i).node number e)

  pub listed_later : (i n : ℕ) → i < n → ((entry_in s i).node ≡ number → ⊥) → listed_from s number i (n - i) ≡ listed_from s number (i + 1) (n - (i + 1))
  listed_later i n h e = step i n h ∙ cond_false _ _ _ (ne_eqb (entry_in s i).node number e)

  pub listed_none : (i n : ℕ) → n ≤ i → listed_from s number i (n - i) ≡ []
  unfolding listed_from
  listed_none i n h =
      let none : n - i ≡ 0 = omega arith in
      ap (listed_from s number i) none

  -- The answer for a plan, and for bytes that are none.
  pub answer_plan : (n : ℕ) → formed s ≡ true → n ≡ count_in s → accepted (listed_from s number 0 (n - 0)) ≡ body_answer s number
  unfolding body_answer
  answer_plan n right counted =
      let all : n - 0 ≡ count_in s = omega arith in
      ap (λ (k : ℕ). accepted (listed_from s number 0 k)) all ∙ sym (cond_true _ _ _ right)

  pub answer_no_plan : formed s ≡ false → refused (number_of PlanWrong) ≡ body_answer s number
  unfolding body_answer
  answer_no_plan wrong = sym (cond_false _ _ _ wrong)

-- The body that is handed out of entry i tells its values.
pub body_told : (s : List ℕ) (i : ℕ) (b : Body) → BodyAt s i b → told_found (Ok (Some b)) ≡ accepted (body_values (entry_in s i))
unfolding told_found body_values
body_told s i b h = let kind = h.kind in let share = h.share in let depth = h.depth in cc
