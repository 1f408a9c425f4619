use Rattle.numbers.proofs.Every.{joined_as, same_tests, last_test}
use Rattle.definitions.specs.Order.{root_in_order}
use Rattle.places.proofs.root_in_order.Goals as goal

pub returns : goal.returns
unfolding root_in_order
returns c =
    joined_as
    (same_tests c.place_is-sort.ensures
    (same_tests c.place_is-parent.ensures
    (same_tests c.place_is-level.ensures
    (same_tests c.place_is-kind.ensures
    (same_tests c.place_is-share.ensures
    (last_test c.place_within-rate.ensures))))))
