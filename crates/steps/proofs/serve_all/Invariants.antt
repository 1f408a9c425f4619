-- The invariant: the clients so far are served.
use Rattle.numbers.specs.Below.{for_below}
use Rattle.definitions.specs.Limits.{first_port, second_port}
use Rattle.dispatch.specs.Lists.{SameLists}
use Rattle.steps.specs.Steps.{Serving, Room, Follows, serving}
use Rattle.steps.proofs.serve_all.Given as goal

abbrev pub invariant-loop-k : goal.invariant-loop-k
invariant-loop-k l = record {
  on : Serving l.table;
  first : Room first_port l.table l.lists.first.now l.lists.counts.first;
  second : Room second_port l.table l.lists.second.now l.lists.counts.second;
  follows : Follows (for_below l.k serving) l.fn.table l.fn.lists.first.now l.fn.lists.second.now l.fn.lists.counts l.table l.lists.first.now l.lists.second.now l.lists.counts;
  same : SameLists l.fn.lists l.lists;
}
