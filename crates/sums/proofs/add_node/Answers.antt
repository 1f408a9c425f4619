-- The node's term is added to the sum of its parent.
use Rattle.std.proofs.Common.{◌∙◌, sym}
use Rattle.numbers.proofs.Tests.{true_false}
use Rattle.definitions.specs.Tree.{tree_of}
use Rattle.sums.proofs.NodeByNode.{sums_same, sums_room, sums_added}
use Rattle.sums.proofs.add_node.Goals as goal

pub returns-then-not-there : goal.returns-then-not-there
returns-then-not-there c = sums_same _ _ _ _ (λ e. absurd (true_false e (sym c.there.ensures ∙ c.if-not-there.true))) c.requires.3

pub add_to-requires : goal.add_to-requires
unfolding tree_of
add_to-requires c =
    sums_room _ _ _ c.requires.0 c.requires.1 c.requires.2 (sym c.there.ensures ∙ c.if-not-there.false) _ _ _ c.requires.3 c.natural-c.ensures c.term.ensures

pub returns : goal.returns
unfolding tree_of
returns c =
    sums_added _ _ _ c.requires.0 c.requires.1 c.requires.2 (sym c.there.ensures ∙ c.if-not-there.false) _ _ _ _ c.requires.3 c.natural-c.ensures c.term.ensures c.add_to.ensures
