-- What reading a node asks, a view says of each.
use Rattle.std.proofs.Common.{arith}
use Rattle.view.proofs.Viewed.{viewed}
use Rattle.view.proofs.View.node.Goals as goal

pub node_at-requires : goal.node_at-requires
node_at-requires c = viewed _ _ _ _ c.args.self.views (omega arith)
