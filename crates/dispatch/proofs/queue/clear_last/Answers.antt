use Rattle.std.proofs.Common.{arith, length-drop, length-take}
use Rattle.dispatch.proofs.Moved.{zeroed}
use Rattle.dispatch.proofs.queue.clear_last.Goals as goal

pub returns : goal.returns
returns c = zeroed c.args.table.now c.args.k c.told-table c.requires _ _ _ (c.fill.ensures.after (λ y e. e)) (simp (length-take, length-drop) (omega arith)) (omega arith)
