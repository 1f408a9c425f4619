-- The minutes so far are judged.
use Rattle.definitions.specs.Tree.{tree_of}
use Rattle.week.specs.Week.{TurnsJudged}
use Rattle.week.proofs.judge_turns.Given as goal

abbrev pub invariant-loop-j : goal.invariant-loop-j
invariant-loop-j l = TurnsJudged (tree_of l.plan) l.part l.turns l.disk l.j l.fixed l.stated
