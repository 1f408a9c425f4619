use Rattle.covering.proofs.Small.{totals_start}
use Rattle.covering.proofs.totals.ClassSums.none.Goals as goal

pub returns : goal.returns
returns c t = totals_start t
