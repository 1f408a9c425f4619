-- The sums of the nodes so far.
use Rattle.definitions.specs.Tree.{tree_of}
use Rattle.sums.specs.Sums.{ShareSums}
use Rattle.week.specs.Week.{cell_tree}
use Rattle.week.proofs.add_nodes.Given as goal

abbrev pub invariant-loop-k : goal.invariant-loop-k
invariant-loop-k l = ShareSums (cell_tree (tree_of l.plan) l.part l.j) l.k l.sums
