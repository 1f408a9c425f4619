-- Each test is what its cause says. `search` goes through the causes by the tests that the code made on the way.
use Rattle.std.proofs.Common.{◌≡◌, ◌<◌, ◌≤◌, ℕ, ℤ, pos, List, Bool, true, ltb, sym, ap, ◌∙◌, arith}
use Rattle.numbers.specs.Whole.{plus}
use Rattle.numbers.proofs.Every.{head_holds}
use Rattle.numbers.proofs.Parts.{zarith}
use Rattle.definitions.specs.Limits.{nodes, depth_at, greatest_depth}
use Rattle.definitions.specs.Places.{place, waiting}
use Rattle.definitions.specs.Tree.{tree_of, there}
use Rattle.definitions.specs.Cost.{cost}
use Rattle.definitions.specs.Order.{in_order}
use Rattle.definitions.specs.Calls.{request_limits, request_refusal}
use Rattle.definitions.proofs.Facts.{facts}
use Rattle.definitions.proofs.Refusals.{causes, found}
use Rattle.definitions.proofs.Passed.{below}
use Rattle.answers.specs.Answers.{number_in}
use Rattle.requesting.proofs.tree_refusal.Goals as goal

low : (k size : ℕ) → request_limits (pos k) (pos size) ≡ true → k < nodes
unfolding request_limits plus
low k size h = below 0 (pos k) (head_holds _ _ h)

-- The depth of a node that is there is within its limit.
depth_most : (t : List ℤ) → in_order t ≡ true → (k : ℕ) → k < nodes → there (tree_of t) k ≡ true → plus (place t k depth_at) ≤ greatest_depth
depth_most t h k hk e = omega (arith, zarith, ((facts t h).limits k hk e).depth)

-- The tests of cause 8 and of cause 11.
costly : (t : List ℤ) (k size : ℕ) {b : Bool} {d : ℕ} → b ≡ ltb d (cost size) → d ≡ plus (place t k depth_at) → b ≡ ltb (plus (place t k depth_at)) (cost size)
costly t k size e d = e ∙ ap (λ (n : ℕ). ltb n (cost size)) d

pub there-requires : goal.there-requires
there-requires c = low _ _ c.requires

pub is_class-requires : goal.is_class-requires
is_class-requires c = omega (arith, low _ _ c.requires)

pub natural-depth-requires : goal.natural-depth-requires
natural-depth-requires c = (low _ _ c.requires, omega arith)

pub above-requires : goal.above-requires
above-requires c =
    omega (
      arith,
      c.natural-depth.ensures,
      depth_most _ c.args.ordered.in_order c.args.k (low _ _ c.requires) (sym c.there.ensures ∙ c.if-not-there.false),
    )

pub natural-full-requires : goal.natural-full-requires
natural-full-requires c = (low _ _ c.requires, omega arith)

pub returns-then-not-there : goal.returns-then-not-there
unfolding number_in request_refusal request_limits plus
returns-then-not-there c = record { first = found _ _ (search (causes, c.args.ordered.in_order)) }

pub returns-then-is_class : goal.returns-then-is_class
unfolding number_in request_refusal request_limits plus
returns-then-is_class c = record { first = found _ _ (search (causes, c.args.ordered.in_order)) }

pub returns-then-above : goal.returns-then-above
unfolding number_in request_refusal request_limits tree_of plus
returns-then-above c =
    record { first = found _ _ (search (causes, c.args.ordered.in_order, costly c.args.ordered.table.now c.args.k c.args.size c.above.ensures c.natural-depth.ensures) depth 8 fits 4000) }

pub returns-then-full : goal.returns-then-full
unfolding number_in request_refusal request_limits tree_of waiting plus
returns-then-full c =
    record { first = found _ _ (search (causes, c.args.ordered.in_order, costly c.args.ordered.table.now c.args.k c.args.size c.above.ensures c.natural-depth.ensures) depth 8 fits 4000) }

pub returns-then-count-eq-GREATEST_COUNT : goal.returns-then-count-eq-GREATEST_COUNT
unfolding number_in request_refusal request_limits tree_of waiting plus
returns-then-count-eq-GREATEST_COUNT c =
    record { first = found _ _ (search (causes, c.args.ordered.in_order, costly c.args.ordered.table.now c.args.k c.args.size c.above.ensures c.natural-depth.ensures) depth 8 fits 4000) }

pub returns : goal.returns
unfolding number_in request_refusal request_limits tree_of waiting plus
returns c =
    record { first = found _ _ (search (causes, c.args.ordered.in_order, costly c.args.ordered.table.now c.args.k c.args.size c.above.ensures c.natural-depth.ensures) depth 8 fits 4000) }
