-- Refused where either table is not in order, else as the trees compare.
use Rattle.std.proofs.Common.{◌≡◌, Bool, true, false, not, cond, ℤ, pos, List, [], ◌∷◌, Ok, refl, sym, ap, ◌∙◌}
use Rattle.numbers.specs.Tests.{every}
use Rattle.std.proofs.lemmas.Result.{err_from_is_err_and}
use Rattle.numbers.proofs.Every.{holds_with, none_left}
use Rattle.definitions.specs.Order.{in_order}
use Rattle.definitions.specs.Refusals.{accepted}
use Rattle.definitions.specs.Calls.{same_tree, same_refusal, same_answer}
use Rattle.definitions.proofs.Refusals.{first_past, first_end, outcome_accepted}
use Rattle.answers.specs.Answers.{told_compared}
use Rattle.comparing.proofs.Refused.{not_first, not_second}
use Rattle.comparing.proofs.same.Goals as goal

answers : (b : Bool) → told_compared (Ok b) ≡ accepted (cond b (pos 1) (pos 0) ∷ [])
unfolding told_compared
answers true = refl
answers false = refl

both : (a b : List ℤ) {is : Bool} → in_order a ≡ true → in_order b ≡ true → is ≡ same_tree a b → told_compared (Ok is) ≡ same_answer a b
unfolding same_answer same_refusal
both a b {is} ha hb e =
    answers is
    ∙ ap (λ (d : Bool). accepted (cond d (pos 1) (pos 0) ∷ [])) e
    ∙ sym (outcome_accepted _ _ (first_past 1 (not (every (in_order a ∷ in_order b ∷ []))) [] (ap not (holds_with _ _ ha (holds_with _ _ hb none_left))) ∙ first_end))

-- What is known of the array that a slice was read as is known of the slice.
of_slice : {t u : List ℤ} {d : Bool} → u ≡ t → in_order u ≡ d → in_order t ≡ d
of_slice same h = ap in_order (sym same) ∙ h

pub returns-in_err-judge : goal.returns-in_err-judge
returns-in_err-judge c =
    let p = err_from_is_err_and c.from_residual.result c.from_residual.ensures.1 in
    rw (p.1, p.2, c.in_err-judge.ensures.0) (not_first _ _ (of_slice c.in-Some-Some.ensures.cases.same c.in_err-judge.ensures.1))

pub returns-in_err-judge-2 : goal.returns-in_err-judge-2
returns-in_err-judge-2 c =
    let p = err_from_is_err_and c.from_residual-in_err-judge-2.result c.from_residual-in_err-judge-2.ensures.1 in
    rw (p.1, p.2, c.in_err-judge-2.ensures.0) (not_second _ _ (of_slice c.in-Some-Some.ensures'.cases.same c.in_err-judge-2.ensures.1))

pub returns : goal.returns
returns c =
    let first = c.in-Some-Some.ensures.cases.same in
    let second = c.in-Some-Some.ensures'.cases.same in
    both _ _ (of_slice first c.in_ok-judge.ensures.1) (of_slice second c.in_ok-judge-2.ensures.1) (rw (first, second) at c.same_tree.ensures)
