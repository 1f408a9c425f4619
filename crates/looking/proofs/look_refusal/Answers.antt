-- Each test is what its cause says. `search` goes through the causes by the tests that the code made on the way.
use Rattle.std.proofs.Common.{◌≡◌, Bool, ℕ, ℤ, List, sym, ap, ◌∙◌, arith}
use mir.Syntax.{w64}
use mir.Val.{SFits, of_z, to_z}
use mir.Facts.{to_z-of_z}
use Rattle.numbers.specs.Whole.{plus, within_ℤ}
use Rattle.definitions.specs.Limits.{last_node}
use Rattle.definitions.specs.Tree.{tree_of, there}
use Rattle.definitions.specs.Calls.{look_refusal}
use Rattle.definitions.proofs.Refusals.{causes, found, natural_of}
use Rattle.definitions.proofs.Passed.{below}
use Rattle.answers.specs.Answers.{number_in}
use Rattle.looking.proofs.look_refusal.Goals as goal

-- The tests of the second and the third cause, of the node as it came.
fits : {b : Bool} {z : ℤ} → SFits w64 z → b ≡ within_ℤ 0 last_node (to_z w64 (of_z w64 z)) → b ≡ within_ℤ 0 last_node z
fits r e = e ∙ ap (within_ℤ 0 last_node) (to_z-of_z r)

is_there : (t : List ℤ) {b : Bool} {z : ℤ} {n : ℕ} → SFits w64 z → n ≡ plus (to_z w64 (of_z w64 z)) → b ≡ there (tree_of t) n → b ≡ there (tree_of t) (plus z)
is_there t r is e = e ∙ ap (there (tree_of t)) (natural_of is r)

pub returns-then-not-within : goal.returns-then-not-within
unfolding number_in look_refusal
returns-then-not-within c = record { first = found _ _ (search (causes, c.args.ordered.in_order, fits c.ranges.node c.within.ensures)) }

pub there-requires : goal.there-requires
there-requires c =
    omega (arith, natural_of c.natural.ensures c.ranges.node, below 0 _ (sym (fits c.ranges.node c.within.ensures) ∙ c.if-not-within.false))

pub returns-then-not-there : goal.returns-then-not-there
unfolding number_in look_refusal
returns-then-not-there c =
    record { first = found _ _ (search (causes, c.args.ordered.in_order, fits c.ranges.node c.within.ensures, is_there _ c.ranges.node c.natural.ensures c.there.ensures)) }

pub returns : goal.returns
unfolding number_in look_refusal
returns c =
    record { first = found _ _ (search (causes, c.args.ordered.in_order, fits c.ranges.node c.within.ensures, is_there _ c.ranges.node c.natural.ensures c.there.ensures)) }
