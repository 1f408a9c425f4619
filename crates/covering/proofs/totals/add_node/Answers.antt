use Rattle.sums.specs.declared.Summand.TheVariants.{Depths, Credits, Debts}
use Rattle.sums.proofs.NodeByNode.{one_side}
use Rattle.covering.proofs.Small.{summable, shareable}
use Rattle.covering.proofs.totals.add_node.Goals as goal

pub add_share-requires : goal.add_share-requires
add_share-requires c = (shareable _ c.requires.0, c.requires.1, c.requires.2, c.requires.3.shares)

pub add_node-requires : goal.add_node-requires
add_node-requires c = (summable Depths _ c.requires.0, c.requires.1, c.requires.2, c.requires.3.depths)

pub add_one_of-requires : goal.add_one_of-requires
add_one_of-requires c =
    (summable Credits _ c.requires.0, summable Debts _ c.requires.0, c.requires.1, c.requires.2, one_side _ _, c.requires.3.credits, c.requires.3.debts)
