use Rattle.std.proofs.Common.{◌∙◌, sym, arith}
use Rattle.numbers.proofs.All.{all_grows, all_done}
use Rattle.definitions.specs.Tree.{each_node}
use Rattle.ratetest.proofs.Following.{root_follows, follow_right}
use Rattle.ratetest.proofs.rates_in_order.Goals as goal

pub loop-k-init : goal.loop-k-init
loop-k-init c = sym (root_follows _)

pub loop-k-preserved : goal.loop-k-preserved
loop-k-preserved c = all_grows _ _ _ _ c.loop-k.invariant c.rate_follows-ok.ensures

pub returns : goal.returns
unfolding each_node
returns c = all_done _ _ _ _ c.loop-k.invariant (omega arith) ∙ follow_right _ c.requires.0
