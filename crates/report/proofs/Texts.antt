-- The text of a plan that is accepted, and of one that is refused.
use Prim.Native.Nat.{ℕ, ◌≤◌}
use mathlib.Core.Path.{◌≡◌, sym, ap, ◌∙◌}
use mathlib.Core.List.{List}
use native.Mathlib.Omega.{arith}
use borrow.Author.Tests.{eq-eqb, ne_eqb}
use lib.ListN.{length, take, length-replicate}
use lib.Seq.{length-take-le}
use lib.Dec.{eqb}
use lib.IntN.{ℤ, pos}
use Rattle.std.specs.Prelude.{Result, Ok, Err}
use Rattle.numbers.proofs.Tests.{cond_true, cond_false}
use Rattle.definitions.specs.Limits.{table_length}
use Rattle.definitions.specs.Refusals.{number_told}
use Rattle.definitions.specs.Calls.{blank}
use Rattle.definitions.proofs.Refusals.{number_outcome}
use Rattle.answers.specs.declared.Refusal.{Refusal}
use Rattle.answers.specs.Answers.{number_of, told}
use Rattle.answers.proofs.Answers.{numbered}
use Rattle.planformat.specs.Format.{start_of, share_length}
use Rattle.planlaws.specs.Reading.{plan_table, plan_answer, check_answer}
use Rattle.planlaws.proofs.Stages.{too_long}
use Rattle.text.specs.Text.{input_length, refused_line}
use Rattle.report.specs.Text.{lines_of, report_of}

-- The number told of a plan read into a table of zeros.
pub told_check : (s : List ℕ) → number_told (plan_answer blank s) ≡ check_answer s
unfolding plan_answer check_answer
told_check s = number_outcome _ _

pub accepted_report : (s : List ℕ) → check_answer s ≡ 0 → lines_of (plan_table blank s) ≡ report_of s
unfolding report_of
accepted_report s h = sym (cond_true (eqb (check_answer s) 0) _ _ (eq-eqb (check_answer s) 0 h))

pub refused_report : (s : List ℕ) → (check_answer s ≡ 0 → ⊥) → refused_line (check_answer s) ≡ report_of s
unfolding report_of
refused_report s h = sym (cond_false (eqb (check_answer s) 0) _ _ (ne_eqb (check_answer s) 0 h))

-- The text for what reading answers.
module _ (s : List ℕ) (answer : Result ℤ Refusal) (is : told answer ≡ plan_answer blank s) where
  number : number_told (told answer) ≡ check_answer s
  number = ap number_told is ∙ told_check s

  pub accepted_text : (value : ℤ) → answer ≡ Ok value → lines_of (plan_table blank s) ≡ report_of s
  unfolding told number_told
  accepted_text value e = accepted_report s (sym number ∙ ap (λ (r : Result ℤ Refusal). number_told (told r)) e)

  pub refused_text : (why : Refusal) → answer ≡ Err why → refused_line (number_of why) ≡ report_of s
  unfolding told number_told
  refused_text why e =
      let same : check_answer s ≡ number_of why = sym number ∙ ap (λ (r : Result ℤ Refusal). number_told (told r)) e in
      ap refused_line (sym same) ∙ refused_report s (λ z. absurd (omega (arith, same, numbered why)))

-- It is enough to read the first bytes of an input: no plan is so long.
pub first_bytes : (s : List ℕ) → input_length ≤ length s → report_of (take input_length s) ≡ report_of s
unfolding report_of check_answer blank start_of share_length
first_bytes s long =
    let cut = take input_length s in
    let size : length cut ≡ input_length = length-take-le input_length s long in
    let zeros = length-replicate table_length (pos 0) in
    rw (too_long _ cut zeros (omega (arith, size)), too_long _ s zeros (omega arith))
