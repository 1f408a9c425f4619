use Rattle.definitions.specs.Calls.{change_share_limits}
use Rattle.definitions.proofs.Refusals.{tested, limits}
use Rattle.sharing.proofs.change_share_limits.Goals as goal

pub returns : goal.returns
unfolding change_share_limits
returns c = tested _ _ (search limits depth 6)
