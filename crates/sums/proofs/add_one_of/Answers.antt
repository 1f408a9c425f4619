-- The node's terms are added to the sums of its parent; the one that is 0 leaves its sums.
use Rattle.std.proofs.Common.{◌∙◌, sym, arith}
use Rattle.numbers.proofs.Tests.{true_false}
use Rattle.definitions.specs.Tree.{tree_of}
use Rattle.sums.proofs.NodeByNode.{sums_same, sums_room, sums_added}
use Rattle.sums.proofs.add_one_of.Goals as goal

pub returns-then-not-there : goal.returns-then-not-there
returns-then-not-there c =
    let gone = sym c.there.ensures ∙ c.if-not-there.true in
    (sums_same _ _ _ _ (λ e. absurd (true_false e gone)) c.requires.5, sums_same _ _ _ _ (λ e. absurd (true_false e gone)) c.requires.6)

pub add_to-requires : goal.add_to-requires
unfolding tree_of
add_to-requires c =
    sums_room _ _ _ c.requires.0 c.requires.2 c.requires.3 (sym c.there.ensures ∙ c.if-not-there.false) _ _ _ c.requires.5 c.natural-c.ensures (omega (arith, c.requires.4))

pub add_to-requires-else-is_first : goal.add_to-requires-else-is_first
unfolding tree_of
add_to-requires-else-is_first c =
    sums_room _ _ _ c.requires.1 c.requires.2 c.requires.3 (sym c.there.ensures ∙ c.if-not-there.false) _ _ _ c.requires.6 c.natural-c.ensures (omega (arith, c.requires.4))

pub returns-then-is_first : goal.returns-then-is_first
unfolding tree_of
returns-then-is_first c = (
  sums_added _ _ _ c.requires.0 c.requires.2 c.requires.3 (sym c.there.ensures ∙ c.if-not-there.false) _ _ _ _ c.requires.5 c.natural-c.ensures (omega (arith, c.requires.4)) c.add_to.ensures,
  sums_same _ _ _ _ (λ e. omega (arith, c.requires.4)) c.requires.6,
)

pub returns-else-is_first : goal.returns-else-is_first
unfolding tree_of
returns-else-is_first c = (
  sums_same _ _ _ _ (λ e. omega (arith, c.requires.4)) c.requires.5,
  sums_added _ _ _ c.requires.1 c.requires.2 c.requires.3 (sym c.there.ensures ∙ c.if-not-there.false) _ _ _ _ c.requires.6 c.natural-c.ensures (omega (arith, c.requires.4)) c.add_to-else-is_first.ensures,
)
