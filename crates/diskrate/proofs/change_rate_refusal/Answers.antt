-- Each test is what its cause says. `search` goes through the causes by the tests that the code made on the way.
use Rattle.std.proofs.Common.{◌≡◌, ℕ, ℤ, List, Bool, true, not, ltb, sym, ap, ◌∙◌}
use Rattle.std.proofs.lemmas.Result.{err_from_is_err_and}
use mir.Syntax.{w64}
use mir.Val.{SFits, of_z, to_z}
use mir.Facts.{to_z-of_z}
use Rattle.numbers.specs.Whole.{plus, within_ℤ}
use Rattle.definitions.specs.Limits.{root, rate_at, greatest_rate}
use Rattle.definitions.specs.Places.{put}
use Rattle.definitions.specs.Tree.{tree_of}
use Rattle.definitions.specs.Rates.{stated_sum}
use Rattle.definitions.specs.Order.{in_order}
use Rattle.definitions.specs.Calls.{stated_wrong, change_rate_refusal}
use Rattle.definitions.proofs.Facts.{facts}
use Rattle.definitions.proofs.Refusals.{first_here, causes, found, natural_of}
use Rattle.calllaws.proofs.ChangeRate.{stated_rerated}
use Rattle.answers.specs.Answers.{number_in}
use Rattle.diskrate.proofs.change_rate_refusal.Goals as goal

-- The tests of the second and the third cause, in the caller's own number.
fits : {b : Bool} {z : ℤ} → SFits w64 z → b ≡ within_ℤ 1 greatest_rate (to_z w64 (of_z w64 z)) → b ≡ within_ℤ 1 greatest_rate z
fits r e = e ∙ ap (within_ℤ 1 greatest_rate) (to_z-of_z r)

stated : (t : List ℤ) (z : ℤ) {b : Bool} {n : ℕ} → SFits w64 z → in_order t ≡ true → n ≡ plus (to_z w64 (of_z w64 z)) → b ≡ ltb n (stated_sum (tree_of t) root) → b ≡ stated_wrong (put t root rate_at z)
stated t z r order e is =
    is
    ∙ ap (λ (n : ℕ). ltb n (stated_sum (tree_of t) root)) (natural_of e r)
    ∙ sym (stated_rerated t z (facts _ order))

pub returns-in_err-ordered : goal.returns-in_err-ordered
unfolding number_in change_rate_refusal
returns-in_err-ordered c =
    let p = err_from_is_err_and c.from_residual.result c.from_residual.ensures.1 in
    rw (p.1, p.2, c.in_err-ordered.ensures.0) (record { first = sym (first_here 1 _ _ (ap not c.in_err-ordered.ensures.1)) })

pub returns-then-not-within : goal.returns-then-not-within
unfolding number_in change_rate_refusal
returns-then-not-within c =
    record { first = found _ _ (search (causes, c.in_ok-ordered.ensures.1, fits c.ranges.rate c.within.ensures)) }

pub returns-then-stated_above : goal.returns-then-stated_above
unfolding number_in change_rate_refusal
returns-then-stated_above c =
    let wrong = stated _ _ c.ranges.rate c.in_ok-ordered.ensures.1 c.natural.ensures (rw c.in_ok-ordered.ensures.0 at c.stated_above.ensures) in
    record { first = found _ _ (search (causes, c.in_ok-ordered.ensures.1, fits c.ranges.rate c.within.ensures, wrong)) }

pub returns : goal.returns
unfolding number_in change_rate_refusal
returns c =
    let wrong = stated _ _ c.ranges.rate c.in_ok-ordered.ensures.1 c.natural.ensures (rw c.in_ok-ordered.ensures.0 at c.stated_above.ensures) in
    record { first = found _ _ (search (causes, c.in_ok-ordered.ensures.1, fits c.ranges.rate c.within.ensures, wrong)) }
