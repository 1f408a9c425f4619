use Rattle.std.proofs.Common.{arith}
use Rattle.balances.proofs.Limits.{depth_grains_small}
use Rattle.balances.proofs.cut_node.Goals as goal

-- src/lib.rt:72:34
pub whole-requires : goal.whole-requires
whole-requires c = omega (arith, depth_grains_small c.args.table.now c.args.k c.requires.1)
