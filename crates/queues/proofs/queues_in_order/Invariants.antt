-- The invariant: every node's requests so far are in order, and their marks are set.
use Rattle.std.proofs.Common.{◌≡◌}
use Rattle.numbers.specs.Below.{all_below}
use Rattle.queues.specs.Waiting.{waiting_in_order}
use Rattle.queues.specs.Marks.{MarkedBelow}
use Rattle.queues.proofs.queues_in_order.Given as goal

abbrev pub invariant-loop-k : goal.invariant-loop-k
invariant-loop-k l = record {
  in_order : l.ok ≡ all_below l.k (waiting_in_order l.table);
  marks : MarkedBelow l.table l.marked l.k;
}
