-- The sum is that of the stated rates.
use Rattle.std.proofs.Common.{ltb, ap}
use Rattle.definitions.specs.Rates.{kind_sum}
use Rattle.definitions.proofs.Facts.{facts}
use Rattle.sums.specs.Sums.{term}
use Rattle.sums.proofs.Summable.{in_order_summable}
use Rattle.diskrate.proofs.stated_above.Goals as goal

pub sum_under-requires : goal.sum_under-requires
sum_under-requires c = in_order_summable _ _ (facts _ c.args.ordered.in_order)

pub returns : goal.returns
unfolding term kind_sum
returns c = ap (ltb c.args.rate) c.sum_under.ensures
