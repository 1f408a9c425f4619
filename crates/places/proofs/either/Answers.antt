use Rattle.places.proofs.Bits.{either_zero}
use Rattle.places.proofs.either.Goals as goal

pub returns : goal.returns
returns c = either_zero c.args.a c.args.b c.ranges.a c.ranges.b
