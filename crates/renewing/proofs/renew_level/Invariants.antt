-- The invariant: the nodes so far have had their turn at this level.
use Rattle.std.proofs.Common.{◌+◌, ◌*◌}
use Rattle.definitions.specs.Limits.{nodes}
use Rattle.renewing.specs.Renewal.{Onward}
use Rattle.renewing.proofs.renew_level.Given as goal

abbrev pub invariant-loop-k : goal.invariant-loop-k
invariant-loop-k l = Onward l.fn.table l.table l.c (l.level * nodes + l.k) l.below
