use Rattle.std.proofs.Common.{arith}
use Rattle.definitions.specs.Tree.{tree_of}
use Rattle.windows.proofs.Written.{written_more}
use Rattle.windows.proofs.plan_shares.Goals as goal

pub loop-k-preserved : goal.loop-k-preserved
unfolding tree_of
loop-k-preserved c = written_more _ _ _ _ (omega arith) c.natural.ensures c.loop-k.invariant
