use Rattle.std.proofs.Common.{ap, ◌∙◌}
use borrow.Author.Rules.{sfits_of}
use mir.Syntax.{w64}
use mir.ValLaws.{to_z-of_z}
use Rattle.numbers.specs.Whole.{within_ℤ}
use Rattle.numbers.proofs.Every.{joined_as, same_tests, last_test}
use Rattle.definitions.specs.Limits.{greatest_count}
use Rattle.definitions.specs.Order.{header_in_order}
use Rattle.places.proofs.Spans.{header_zeros}
use Rattle.places.proofs.header_in_order.Goals as goal

pub returns : goal.returns
unfolding header_in_order
returns c =
    let count = to_z-of_z w64 _ (sfits_of c.heading.type_inv) ∙ c.heading.ensures in
    joined_as
    (same_tests (c.within-count.ensures ∙ ap (within_ℤ 0 greatest_count) count)
    (last_test (c.zeros-others.ensures ∙ header_zeros _)))
