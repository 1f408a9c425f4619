-- The invariant: the sums are those of the nodes so far, of all requests and of those at the second port.
use Rattle.std.proofs.Common.{◌≡◌, ◌*◌, ◌≤◌}
use Rattle.numbers.specs.Below.{sum_below}
use Rattle.definitions.specs.Limits.{most_waiting}
use Rattle.definitions.specs.Places.{waiting}
use Rattle.ticking.proofs.Waiting.{adds}
use Rattle.ticking.proofs.waiting_by_port.Given as goal

abbrev pub invariant-loop-k : goal.invariant-loop-k
invariant-loop-k l = record {
  few : l.all ≤ most_waiting * l.k;
  less : l.second ≤ l.all;
  all : l.all ≡ sum_below l.k (waiting l.ordered.table.now);
  second : l.second ≡ sum_below l.k (adds l.ordered.table.now);
}
