use Rattle.std.proofs.Common.{◌≡◌, ℕ, List, ℤ, ap, arith}
use Rattle.numbers.specs.Whole.{plus}
use Rattle.definitions.specs.Limits.{waiting_at}
use Rattle.definitions.specs.Places.{waiting}
use Rattle.definitions.specs.Tick.{grains, charge}
use Rattle.definitions.proofs.Cost.{cost_bounds}
use Rattle.balances.proofs.Limits.{size_at_law}
use Rattle.balances.proofs.Charged.{charge_place}
use Rattle.dispatch.proofs.dispatch.Goals as goal

pub grains-requires : goal.grains-requires
grains-requires c = omega (arith, size_at_law _ c.requires.0 _ c.requires.1)

pub charge-requires : goal.charge-requires
unfolding grains
charge-requires c =
    (c.requires.0, omega arith, omega (arith, size_at_law _ c.requires.0 _ c.requires.1, cost_bounds c.natural.result))

-- A charge leaves the waiting requests as they were.
waits : (t u : List ℤ) (amount l s k : ℕ) → u ≡ charge t amount l s → waiting u k ≡ waiting t k
unfolding waiting
waits t u amount l s k e = rw e (ap plus (charge_place l t amount s k waiting_at (omega arith) (λ e. omega arith)))

pub take_out-requires : goal.take_out-requires
take_out-requires c =
    let same = waits _ _ _ _ _ c.args.k c.charge.ensures in
    (c.requires.1, omega (arith, same), omega (arith, same, c.requires.0.waiting _ c.requires.1))
