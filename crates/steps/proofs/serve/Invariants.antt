-- The invariant: what is left of the serving from here amounts to the whole. The measure is how many requests wait at the client.
use Rattle.definitions.specs.Places.{waiting}
use Rattle.dispatch.specs.Lists.{SameLists}
use Rattle.steps.specs.Steps.{Serving, serving}
use Rattle.steps.proofs.Shows.{Going}
use Rattle.steps.proofs.serve.Given as goal

abbrev pub invariant-loop-table : goal.invariant-loop-table
invariant-loop-table l = record {
  going : Going Serving (serving l.k) l.fn.table l.fn.lists.first.now l.fn.lists.second.now l.fn.lists.counts l.table l.lists.first.now l.lists.second.now l.lists.counts;
  same : SameLists l.fn.lists l.lists;
}

abbrev pub decreases-loop-table : goal.decreases-loop-table
decreases-loop-table l = waiting l.table l.k
