use Rattle.numbers.proofs.Every.{joined_as, same_tests, last_test}
use Rattle.hourlaws.specs.SetMinute.{same_node}
use Rattle.setting.proofs.same_node.Goals as goal

pub returns : goal.returns
unfolding same_node
returns c = joined_as (same_tests c.same_place-sort.ensures (same_tests c.same_place-parent.ensures (last_test c.same_place-depth.ensures)))
