use Rattle.std.proofs.Common.{ap, eqb}
use Rattle.numbers.proofs.Every.{joined_as, same_tests, last_test}
use Rattle.definitions.specs.Tree.{tree_of}
use Rattle.renewing.specs.Renewal.{at_level}
use Rattle.renewing.proofs.at_level.Goals as goal

pub returns : goal.returns
unfolding tree_of at_level
returns c = joined_as (same_tests c.there.ensures (last_test (ap (λ n. eqb n c.args.level) c.natural.ensures)))
