-- The node's share at the minute is added to the sum of its kind under its parent.
use Rattle.std.proofs.Common.{arith}
use Rattle.definitions.specs.Tree.{tree_of, there}
use Rattle.sums.proofs.NodeByNode.{share_sums_same, share_room, share_added}
use Rattle.week.specs.Week.{cell_tree}
use Rattle.week.proofs.Sums.{cells_shareable}
use Rattle.week.proofs.add_node.Goals as goal

pub sum_of-requires : goal.sum_of-requires
sum_of-requires c = (
  c.requires.4,
  λ here. c.requires.0.parent _ c.requires.4 here (λ e. omega arith),
  λ here. c.requires.0.kind _ c.requires.4 here (λ e. omega arith),
)

pub overflow_add-sums : goal.overflow_add-sums
unfolding cell_tree there
overflow_add-sums c =
    omega (
      arith,
      share_room (cell_tree (tree_of c.args.plan.now) c.args.part.now c.args.j) c.args.k (cells_shareable _ _ _ c.requires.0 c.requires.1 c.requires.2) c.requires.3 c.requires.4 c.in-Some.ensures.0 _ _ _ c.requires.5 c.in-Some.ensures.1 c.share_at.ensures,
    )

pub returns-in-Some : goal.returns-in-Some
unfolding cell_tree there
returns-in-Some c =
    share_added (cell_tree (tree_of c.args.plan.now) c.args.part.now c.args.j) c.args.k (cells_shareable _ _ _ c.requires.0 c.requires.1 c.requires.2) c.requires.3 c.requires.4 c.in-Some.ensures.0 _ _ _ c.requires.5 c.in-Some.ensures.1 c.share_at.ensures

pub returns-in_default : goal.returns-in_default
unfolding cell_tree there
returns-in_default c = share_sums_same _ _ _ c.in_default.ensures c.requires.5
