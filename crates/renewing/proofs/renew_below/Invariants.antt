-- The invariant: the nodes below the class that stand above this level have their rates, and renewing the table gives what it
-- gave at the start.
use Rattle.std.proofs.Common.{◌*◌}
use Rattle.definitions.specs.Limits.{nodes}
use Rattle.renewing.specs.Renewal.{Onward}
use Rattle.renewing.proofs.renew_below.Given as goal

abbrev pub invariant-loop-level : goal.invariant-loop-level
invariant-loop-level l = Onward l.fn.table l.table l.c (l.level * nodes) l.below
