-- The invariant: the test of the nodes so far; the root has no class.
use Rattle.std.proofs.Common.{◌≡◌}
use Rattle.numbers.specs.Below.{all_below}
use Rattle.definitions.specs.Tree.{tree_of, there, test_if}
use Rattle.ratetest.specs.Following.{rate_follows}
use Rattle.ratetest.proofs.rates_in_order.Given as goal

abbrev pub invariant-loop-k : goal.invariant-loop-k
invariant-loop-k l = l.ok ≡ all_below l.k (λ j. test_if (there (tree_of l.table) j) (rate_follows l.table) j)
