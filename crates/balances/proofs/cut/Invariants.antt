-- The invariant: the nodes so far took their step.
use Rattle.std.proofs.Common.{◌≡◌}
use Rattle.numbers.specs.Below.{for_below}
use Rattle.balances.proofs.Sweeps.{cutting}
use Rattle.balances.proofs.cut.Given as goal

abbrev pub invariant-loop-k : goal.invariant-loop-k
invariant-loop-k l = l.table ≡ for_below l.k cutting l.fn.table
