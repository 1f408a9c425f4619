-- Refused, the number only; accepted, three places of the record and the lost grains.
use Rattle.std.proofs.Common.{◌≡◌, ◌<◌, ℕ, ℤ, List, [], ◌∷◌, not, Ok, Err, refl, sym, ap, ◌∙◌, arith}
use Rattle.std.proofs.lemmas.Result.{err_from_is_err_and}
use borrow.Author.Rules.{sfits_of}
use borrow.Author.Tests.{not-false}
use mir.Syntax.{w64}
use mir.Val.{SFits, of_z, to_z}
use mir.ValLaws.{to_z-of_z}
use Rattle.numbers.specs.Whole.{plus}
use Rattle.definitions.specs.Limits.{nodes, rate_at, balance_at, waiting_at}
use Rattle.definitions.specs.Places.{place}
use Rattle.definitions.specs.Refusals.{outcome}
use Rattle.definitions.specs.Calls.{look_refusal, look_answer}
use Rattle.definitions.proofs.Refusals.{first_here, none_first, outcome_accepted, outcome_refused, natural_of}
use Rattle.definitions.proofs.Passed.{below}
use Rattle.order.proofs.Length.{length_first}
use Rattle.answers.specs.declared.Refusal.{Refusal}
use Rattle.answers.specs.declared.Refusal.TheVariants.{NotInOrder}
use Rattle.answers.specs.Answers.{number_of, number_in, told_seen}
use Rattle.answers.proofs.Answers.{numbered}
use Rattle.looking.proofs.look.Goals as goal

-- What a refused look and an accepted one tell.
refused_shows : (why : Refusal) (n : ℕ) (values : List ℤ) → n ≡ number_of why → told_seen (Err why) ≡ outcome n values
unfolding told_seen
refused_shows why n values e = sym (rw e (outcome_refused (number_of why) values (λ z. absurd (omega (arith, numbered why)))))

shown : (n : ℕ) {r b w l r' b' w' l' : ℤ} → n ≡ 0 → r ≡ r' → b ≡ b' → w ≡ w' → l ≡ l' → told_seen (Ok (record { rate = r; balance = b; waiting = w; lost = l })) ≡ outcome n (r' ∷ b' ∷ w' ∷ l' ∷ [])
unfolding told_seen
shown n zero e1 e2 e3 e4 = rw (e1, e2, e3, e4) (sym (outcome_accepted n _ zero))

-- The number that the code found, of the table and the node as they came.
number : (t u : List ℤ) (z : ℤ) {n : ℕ} → SFits w64 z → u ≡ t → n ≡ look_refusal u (to_z w64 (of_z w64 z)) → look_refusal t z ≡ n
number t u z f same e = sym (rw (to_z-of_z w64 z f, same) at e)

-- An accepted look has a node within its limits.
safe : (u : List ℤ) (z : ℤ) {n k : ℕ} → SFits w64 z → n ≡ look_refusal u (to_z w64 (of_z w64 z)) → n ≡ 0 → k ≡ plus (to_z w64 (of_z w64 z)) → k < nodes
unfolding look_refusal
safe u z f e zero is =
    let p = none_first 2 _ _ (omega arith) (none_first 1 _ _ (omega arith) (number u u z f refl e ∙ zero)).1 in
    omega (arith, natural_of is f, below 0 z (not-false _ p.0))

-- A place that was read and handed on.
stored : (t u : List ℤ) (p k : ℕ) (z r : ℤ) → SFits w64 z → SFits w64 r → u ≡ t → k ≡ plus (to_z w64 (of_z w64 z)) → r ≡ place u k p → to_z w64 (of_z w64 r) ≡ place t (plus z) p
stored t u p k z r f g same is e = to_z-of_z w64 r g ∙ rw (same, natural_of is f) at e

pub returns-in_default : goal.returns-in_default
unfolding look_answer look_refusal
returns-in_default c = refused_shows NotInOrder _ _ (length_first _ _ c.in_default.ensures.cases)

pub returns-in_err-ordered : goal.returns-in_err-ordered
unfolding look_answer look_refusal
returns-in_err-ordered c =
    let p = err_from_is_err_and c.from_residual.result c.from_residual.ensures.1 in
    let fails = rw c.in-Some.ensures.cases.same at c.in_err-ordered.ensures.1 in
    rw (p.1, p.2, c.in_err-ordered.ensures.0) (refused_shows NotInOrder _ _ (first_here 1 _ _ (ap not fails)))

pub returns-in_err-look_refusal : goal.returns-in_err-look_refusal
unfolding look_answer number_in
returns-in_err-look_refusal c =
    let p = err_from_is_err_and c.from_residual-in_err-look_refusal.result c.from_residual-in_err-look_refusal.ensures.1 in
    let first = rw c.in_ok-ordered.ensures.0 at c.in_err-look_refusal.ensures.first in
    rw (p.1, p.2) (refused_shows _ _ _ (number _ _ _ c.ranges.node c.in-Some.ensures.cases.same first))

pub get-requires : goal.get-requires
unfolding number_in
get-requires c = (safe _ _ c.ranges.node c.in_ok-look_refusal.ensures.first refl c.natural-k.ensures, omega arith)

pub get-requires-2 : goal.get-requires-2
unfolding number_in
get-requires-2 c = (safe _ _ c.ranges.node c.in_ok-look_refusal.ensures.first refl c.natural-k.ensures, omega arith)

pub get-requires-3 : goal.get-requires-3
unfolding number_in
get-requires-3 c = (safe _ _ c.ranges.node c.in_ok-look_refusal.ensures.first refl c.natural-k.ensures, omega arith)

pub lost_grains-requires : goal.lost_grains-requires
unfolding number_in
lost_grains-requires c = safe _ _ c.ranges.node c.in_ok-look_refusal.ensures.first refl c.natural-k.ensures

pub returns : goal.returns
unfolding look_answer number_in
returns c =
    let f = c.ranges.node in
    let same = c.in-Some.ensures.cases.same in
    let is = c.natural-k.ensures in
    let first = rw c.in_ok-ordered.ensures.0 at c.in_ok-look_refusal.ensures.first in
    let lost = rw c.in_ok-ordered.ensures.0 at c.lost_grains.ensures in
    shown _ (number _ _ _ f same first)
    (stored _ _ rate_at _ _ _ f (sfits_of c.get.type_inv) same is c.get.ensures)
    (stored _ _ balance_at _ _ _ f (sfits_of c.get-2.type_inv) same is c.get-2.ensures)
    (stored _ _ waiting_at _ _ _ f (sfits_of c.get-3.type_inv) same is c.get-3.ensures)
    (to_z-of_z w64 _ (sfits_of c.lost_grains.type_inv) ∙ rw (same, natural_of is f) at lost)
