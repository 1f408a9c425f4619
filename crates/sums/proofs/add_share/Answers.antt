-- The node's share is added to the sum of its kind under its parent.
use Rattle.std.proofs.Common.{arith}
use Rattle.definitions.specs.Tree.{tree_of}
use Rattle.sums.proofs.NodeByNode.{share_sums_same, share_room, share_added}
use Rattle.sums.proofs.add_share.Goals as goal

pub overflow_add-shares : goal.overflow_add-shares
unfolding tree_of
overflow_add-shares c =
    omega (arith, share_room _ _ c.requires.0 c.requires.1 c.requires.2 c.in-Some.ensures.0 _ _ _ c.requires.3 c.in-Some.ensures.1 c.natural.ensures)

pub returns-in-Some : goal.returns-in-Some
unfolding tree_of
returns-in-Some c =
    share_added _ _ c.requires.0 c.requires.1 c.requires.2 c.in-Some.ensures.0 _ _ _ c.requires.3 c.in-Some.ensures.1 c.natural.ensures

pub returns-in_default : goal.returns-in_default
returns-in_default c = share_sums_same _ _ _ c.in_default.ensures c.requires.3
