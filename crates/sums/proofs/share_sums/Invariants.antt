-- The invariant: the sums of the nodes so far.
use Rattle.definitions.specs.Tree.{tree_of}
use Rattle.sums.specs.Sums.{ShareSums}
use Rattle.sums.proofs.share_sums.Given as goal

abbrev pub invariant-loop-k : goal.invariant-loop-k
invariant-loop-k l = ShareSums (tree_of l.table) l.k l.shares
