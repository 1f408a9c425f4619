-- The invariant: the sum is that of the nodes so far.
use Rattle.std.proofs.Common.{◌≡◌}
use Rattle.definitions.specs.Tree.{tree_of}
use Rattle.sums.specs.Sums.{term, under_below}
use Rattle.sums.proofs.sum_under.Given as goal

abbrev pub invariant-loop-k : goal.invariant-loop-k
invariant-loop-k l = l.sum ≡ under_below l.k (tree_of l.table) l.c (term l.which l.table)
