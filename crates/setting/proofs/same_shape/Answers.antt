use Rattle.numbers.proofs.Every.{joined_as, same_tests, last_test}
use Rattle.hourlaws.specs.SetMinute.{same_shape}
use Rattle.setting.proofs.same_shape.Goals as goal

pub returns : goal.returns
unfolding same_shape
returns c = joined_as (same_tests c.same_nodes-nodes.ensures (last_test c.same_place-rate.ensures))
