use Rattle.std.proofs.Common.{◌≡◌, refl, sym, ap, ap₂, ◌∙◌, Bool, ℕ, ltb, ℤ, arith, rules}
use mir.Syntax.{w64}
use mir.Val.{SFits, to_z, of_z}
use mir.ValLaws.{to_z-of_z}
use Rattle.numbers.specs.Whole.{plus, within_ℤ}
use Rattle.numbers.proofs.Every.{joined_as, same_tests, last_test, head_fails, rest_fail}
use Rattle.numbers.proofs.Parts.{within_parts}
use Rattle.definitions.specs.Limits.{last_node}
use Rattle.definitions.specs.Tree.{tree_of, there}
use Rattle.hourlaws.specs.Windows.{window_number, window_formed}
use Rattle.windows.proofs.window_formed.Goals as goal

-- What a test of a number of the window answers, in the list's own number.
tested : {b : Bool} {x y : ℤ} (low high : ℕ) → SFits w64 x → x ≡ y → b ≡ within_ℤ low high (to_z w64 (of_z w64 x)) → b ≡ within_ℤ low high y
tested low high f e t = rw (to_z-of_z w64 _ f) at t ∙ ap (within_ℤ low high) e

pub returns-then-not-node : goal.returns-then-not-node
unfolding window_formed window_number
returns-then-not-node c =
    let node = tested _ _ (search rules) refl c.within-node.ensures in
    sym (rest_fail _ _ (rest_fail _ _ (rest_fail _ _ (head_fails _ _ (sym node ∙ c.if-not-node.true)))))

pub there-there-requires : goal.there-there-requires
unfolding window_number
there-there-requires c =
    let node = tested {x = c.args.window.node} _ _ (search rules) refl c.within-node.ensures in
    let at : c.natural_node.result ≡ plus c.args.window.node = cc in
    omega (arith, within_parts 1 last_node _ (sym node ∙ c.if-not-node.false))

pub returns : goal.returns
unfolding window_formed window_number
returns c =
    let start : c.natural_start.result ≡ plus c.args.window.start = cc in
    let end : c.natural_end.result ≡ plus c.args.window.end = cc in
    let at : c.natural_node.result ≡ plus c.args.window.node = cc in
    joined_as
    (same_tests (tested _ _ (search rules) refl c.within-start.ensures)
    (same_tests (tested _ _ (search rules) refl c.within-end.ensures)
    (same_tests (ap₂ ltb start end)
    (same_tests (tested _ _ (search rules) refl c.within-node.ensures)
    (last_test (c.there-there.ensures ∙ ap (there (tree_of c.args.plan.now)) at))))))
