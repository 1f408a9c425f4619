use Rattle.definitions.specs.Calls.{join_limits}
use Rattle.definitions.proofs.Refusals.{tested, limits}
use Rattle.admission.proofs.join_limits.Goals as goal

pub returns : goal.returns
unfolding join_limits
returns c = tested _ _ (search limits depth 9 fits 9000)
