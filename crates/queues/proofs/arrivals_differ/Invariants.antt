-- The invariant: every number so far differs at each lower node, and its mark is set.
use Rattle.std.proofs.Common.{◌≡◌}
use Rattle.numbers.specs.Below.{all_below}
use Rattle.definitions.specs.Places.{arrival}
use Rattle.definitions.specs.Order.{differs_at}
use Rattle.queues.proofs.Marks.{Marking}
use Rattle.queues.proofs.arrivals_differ.Given as goal

abbrev pub invariant-loop-i : goal.invariant-loop-i
invariant-loop-i l = record {
  differ : l.ok ≡ all_below l.i (λ i. all_below l.k (differs_at l.table (arrival l.table l.k i)));
  marking : Marking l.table l.marked l.k l.i;
}
