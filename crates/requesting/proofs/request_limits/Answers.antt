use Rattle.definitions.specs.Calls.{request_limits}
use Rattle.definitions.proofs.Refusals.{limits, tested}
use Rattle.requesting.proofs.request_limits.Goals as goal

pub returns : goal.returns
unfolding request_limits
returns c = tested _ _ (search limits)
