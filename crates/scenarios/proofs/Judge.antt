-- A test for what a step says, and that it is exact: it passes where the step holds, and nowhere else. So a scenario is
-- judged by computing the tests of its steps in turn.
use mathlib.Core.Path.{◌≡◌, refl, sym, ap, ap₂}
use mathlib.Core.Bool.{Bool, true, false, not, ◌&&◌, true≢false}
use mathlib.Core.List.{List, [], ◌∷◌}
use borrow.Author.Tests.{eqb-true, eq-eqb, not-true}
use lib.Dec.{eqb}
use lib.IntN.{ℤ}
use Rattle.numbers.specs.Whole.{same_ℤ}
use Rattle.numbers.proofs.Tests.{and_true, and_left, and_right}
use Rattle.numbers.proofs.Parts.{same_eq, eq_same}
use Rattle.definitions.specs.Order.{in_order}
use Rattle.definitions.specs.Refusals.{Outcome, accepted, refused}
use Rattle.runs.specs.Runs.{after as after_call}
use Rattle.scenarios.specs.Scenario.{Step, ◌gives◌, ◌answers◌leaving◌and◌, keep, fits, spoils, Scenario, ticks, answer, changed, Says, after, kept_after, Hold}

-- Whether two lists, or two answers, are the same.
unfoldable pub same_list : List ℤ → List ℤ → Bool
same_list [] [] = true
same_list [] (y ∷ ys) = false
same_list (x ∷ xs) [] = false
same_list (x ∷ xs) (y ∷ ys) = same_ℤ x y && same_list xs ys

unfoldable pub same_outcome : Outcome → Outcome → Bool
same_outcome (accepted xs) (accepted ys) = same_list xs ys
same_outcome (accepted xs) (refused n) = false
same_outcome (refused m) (accepted ys) = false
same_outcome (refused m) (refused n) = eqb m n

-- They are exact.
list_itself : (xs : List ℤ) → same_list xs xs ≡ true
unfolding same_list
list_itself [] = refl
list_itself (x ∷ xs) = and_true (same_ℤ x x) (same_list xs xs) (eq_same x x refl) (list_itself xs)

outcome_itself : (a : Outcome) → same_outcome a a ≡ true
unfolding same_outcome
outcome_itself (accepted xs) = list_itself xs
outcome_itself (refused n) = eq-eqb n n refl

list_same : (xs ys : List ℤ) → xs ≡ ys → same_list xs ys ≡ true
list_same xs ys e = rw e (list_itself ys)

outcome_same : (a b : Outcome) → a ≡ b → same_outcome a b ≡ true
outcome_same a b e = rw e (outcome_itself b)

same_list_law : (xs ys : List ℤ) → same_list xs ys ≡ true → xs ≡ ys
unfolding same_list
same_list_law [] [] h = refl
same_list_law [] (y ∷ ys) h = absurd (true≢false (sym h))
same_list_law (x ∷ xs) [] h = absurd (true≢false (sym h))
same_list_law (x ∷ xs) (y ∷ ys) h =
    ap₂ (λ (z : ℤ) (zs : List ℤ). z ∷ zs) (same_eq x y (and_left (same_ℤ x y) (same_list xs ys) h))
    (same_list_law xs ys (and_right (same_ℤ x y) (same_list xs ys) h))

same_outcome_law : (a b : Outcome) → same_outcome a b ≡ true → a ≡ b
unfolding same_outcome
same_outcome_law (accepted xs) (accepted ys) h = ap accepted (same_list_law xs ys h)
same_outcome_law (accepted xs) (refused n) h = absurd (true≢false (sym h))
same_outcome_law (refused m) (accepted ys) h = absurd (true≢false (sym h))
same_outcome_law (refused m) (refused n) h = ap refused (eqb-true m n h)

-- Whether a step holds.
unfoldable pub holds : Step → (kept t : List ℤ) → Bool
holds (c gives outcome) kept t = same_outcome (answer c kept t) outcome
holds (c answers outcome leaving first and second) kept t =
    same_outcome (after_call t (ticks c)).answer outcome
    && (same_list (after_call t (ticks c)).first first && same_list (after_call t (ticks c)).second second)
holds keep kept t = true
holds (fits change) kept t = in_order (changed change t)
holds (spoils change) kept t = not (in_order (changed change t))

says_holds : (step : Step) (kept t : List ℤ) → Says step kept t → holds step kept t ≡ true
unfolding Says holds
says_holds (c gives outcome) kept t h = outcome_same (answer c kept t) outcome (cc)
says_holds (c answers outcome leaving first and second) kept t h =
    and_true _ _ (outcome_same (after_call t (ticks c)).answer outcome (cc))
    (and_true _ _ (list_same (after_call t (ticks c)).first first (cc)) (list_same (after_call t (ticks c)).second second (cc)))
says_holds keep kept t h = refl
says_holds (fits change) kept t h = cc
says_holds (spoils change) kept t h = let e : in_order (changed change t) ≡ false = cc in rw e

holds_says : (step : Step) (kept t : List ℤ) → holds step kept t ≡ true → Says step kept t
unfolding Says holds
holds_says (c gives outcome) kept t h = cc (same_outcome_law (answer c kept t) outcome h)
holds_says (c answers outcome leaving first and second) kept t h =
    let answered : Bool = same_outcome (after_call t (ticks c)).answer outcome in
    let listed₀ : Bool = same_list (after_call t (ticks c)).first first in
    let listed₁ : Bool = same_list (after_call t (ticks c)).second second in
    let lists = and_right answered (listed₀ && listed₁) h in (
      cc (same_outcome_law (after_call t (ticks c)).answer outcome (and_left answered (listed₀ && listed₁) h)),
      cc (same_list_law (after_call t (ticks c)).first first (and_left listed₀ listed₁ lists)),
      cc (same_list_law (after_call t (ticks c)).second second (and_right listed₀ listed₁ lists)),
    )
holds_says keep kept t h = tt
holds_says (fits change) kept t h = cc
holds_says (spoils change) kept t h = cc (not-true (in_order (changed change t)) h)

-- Whether all steps hold, one after the other.
unfoldable pub run : Scenario → (kept t : List ℤ) → Bool
run [] kept t = true
run (step ∷ steps) kept t = holds step kept t && run steps (kept_after step kept t) (after step t)

hold_run : (steps : Scenario) (kept t : List ℤ) → Hold steps kept t → run steps kept t ≡ true
unfolding Hold run
hold_run [] kept t h = refl
hold_run (step ∷ steps) kept t h =
    and_true _ _ (says_holds step kept t search) (hold_run steps (kept_after step kept t) (after step t) search)

pub run_hold : (steps : Scenario) (kept t : List ℤ) → run steps kept t ≡ true → Hold steps kept t
unfolding Hold run
run_hold [] kept t h = tt
run_hold (step ∷ steps) kept t h =
    let first : Bool = holds step kept t in
    let rest : Bool = run steps (kept_after step kept t) (after step t) in
    let now = holds_says step kept t (and_left first rest h) in
    let then = run_hold steps (kept_after step kept t) (after step t) (and_right first rest h) in
    (search, search)
