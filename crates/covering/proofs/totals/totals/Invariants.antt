-- The invariant: the sums of the nodes so far.
use Rattle.covering.specs.Cover.{Totals}
use Rattle.covering.proofs.totals.totals.Given as goal

abbrev pub invariant-loop-k : goal.invariant-loop-k
invariant-loop-k l = Totals l.table l.k l.sums.shares l.sums.depths l.sums.credits l.sums.debts
