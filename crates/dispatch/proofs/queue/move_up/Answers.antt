use Rattle.std.proofs.Common.{◌∙◌, arith}
use Rattle.dispatch.proofs.Moved.{moved}
use Rattle.dispatch.proofs.queue.move_up.Goals as goal

pub returns : goal.returns
returns c = c.copy_within.ensures.after ∙ moved c.args.table.now c.args.k c.told-table c.requires _ (omega arith)
