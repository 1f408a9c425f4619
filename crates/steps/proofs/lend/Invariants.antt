-- The invariant: what is left of the lending from here amounts to the whole. The measure is how many requests wait.
use Rattle.definitions.specs.Tick.{all_waiting}
use Rattle.dispatch.specs.Lists.{SameLists}
use Rattle.steps.specs.Steps.{Lending, lending}
use Rattle.steps.proofs.Shows.{Going}
use Rattle.steps.proofs.lend.Given as goal

abbrev pub invariant-loop-turn : goal.invariant-loop-turn
invariant-loop-turn l = record {
  going : Going Lending lending l.fn.table l.fn.lists.first.now l.fn.lists.second.now l.fn.lists.counts l.table l.lists.first.now l.lists.second.now l.lists.counts;
  same : SameLists l.fn.lists l.lists;
}

abbrev pub decreases-loop-turn : goal.decreases-loop-turn
decreases-loop-turn l = all_waiting l.table
