use Rattle.numbers.proofs.Every.{joined_as, same_tests, last_test}
use Rattle.definitions.specs.Calls.{same_tree}
use Rattle.comparing.proofs.same_tree.Goals as goal

pub returns : goal.returns
unfolding same_tree
returns c = joined_as (same_tests c.same_nodes-nodes.ensures (last_test c.same_place-rates.ensures))
