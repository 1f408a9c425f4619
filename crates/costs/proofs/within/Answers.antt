use Rattle.std.proofs.Common.{◌≡◌, ℕ, ℤ, pos, Bool, ltb, ap, sym, ◌∙◌}
use Rattle.std.proofs.lemmas.Bool.{le-ltb}
use mathlib.Core.Bool.{not, ◌&&◌, and-true as and-with-true}
use native.Mathlib.Omega.{arith}
use borrow.Author.Tests.{leb-true, le-leb, lt-leb, ltb-true, ltb-false}
use lib.Dec.{leb}
use lib.Signed.{le_z}
use Rattle.numbers.specs.Whole.{plus, minus}
use Rattle.numbers.proofs.Tests.{by_test, same_truth}
use Rattle.numbers.proofs.Every.{joined_as, same_tests, last_test}
use Rattle.numbers.proofs.Parts.{zarith, one_is_zero, parts_fit}
use Rattle.definitions.specs.Cost.{cost, size_within}
use Rattle.definitions.proofs.Cost.{cost_bounds}
use Rattle.definitions.proofs.Refusals.{natural_of}
use Rattle.costs.proofs.within.Goals as goal

at_least_one : (z : ℤ) → leb 1 (plus z) ≡ le_z (pos 1) z
unfolding plus minus
at_least_one z =
    same_truth _ _ (λ h. omega (arith, zarith, leb-true, one_is_zero z)) (λ h. le-leb _ _ (omega (arith, zarith, one_is_zero z)))

not_below : (a b : ℕ) → not (ltb a b) ≡ leb b a
not_below a b =
    by_test (ltb a b) (λ h. rw h (sym (lt-leb b a (ltb-true a b h)))) (λ h. rw h (sym (le-leb b a (ltb-false a b h))))

tests : (depth n : ℕ) (size : ℤ) (above : Bool) → n ≡ plus size → above ≡ ltb depth (cost n) → (leb 1 n && not above) ≡ size_within depth size
unfolding size_within
tests depth n size above e h =
    joined_as
    (same_tests (ap (leb 1) e ∙ at_least_one size)
    (last_test (ap not h ∙ not_below depth (cost n) ∙ ap (λ (k : ℕ). leb (cost k) depth) e)))

pub overflow_add-tokens : goal.overflow_add-tokens
overflow_add-tokens c = omega (arith, natural_of c.natural-tokens.ensures c.ranges.size, parts_fit c.args.size c.ranges.size)

pub returns-then-tokens-depth : goal.returns-then-tokens-depth
returns-then-tokens-depth c =
    sym (and-with-true _)
    ∙ tests _ _ _ _ (natural_of c.natural-tokens.ensures c.ranges.size)
    (sym (le-ltb c.args.depth (cost c.natural-tokens.result) (omega (arith, cost_bounds c.natural-tokens.result))))

pub returns : goal.returns
returns c = tests _ _ _ _ (natural_of c.natural-tokens.ensures c.ranges.size) c.above-above.ensures
