use Rattle.std.proofs.Common.{arith}
use Rattle.definitions.specs.Tick.{grains}
use Rattle.definitions.proofs.Cost.{cost_bounds}
use Rattle.balances.proofs.Limits.{size_at_law}
use Rattle.steps.proofs.ready.Goals as goal

pub grains-amount-requires : goal.grains-amount-requires
grains-amount-requires c = omega (arith, size_at_law _ c.requires.0 _ c.requires.1)

pub enough-requires : goal.enough-requires
unfolding grains
enough-requires c = omega (arith, size_at_law _ c.requires.0 _ c.requires.1, cost_bounds c.natural-2.result)
