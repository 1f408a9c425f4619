use Rattle.std.proofs.Common.{◌≡◌, ℕ, ℤ, ap, ap₂, ◌∙◌}
use borrow.Author.Rules.{sfits_of}
use mir.Syntax.{w64}
use mir.ValLaws.{to_z-of_z}
use Rattle.numbers.specs.Whole.{within_ℤ}
use Rattle.numbers.proofs.Every.{joined_as, same_tests, last_test}
use Rattle.definitions.specs.Tree.{tree_of}
use Rattle.definitions.specs.Cost.{size_within}
use Rattle.definitions.specs.Order.{request_in_order}
use Rattle.queues.proofs.request_in_order.Goals as goal

same_high : (z : ℤ) {m n : ℕ} → m ≡ n → within_ℤ 1 m z ≡ within_ℤ 1 n z
same_high z e = ap (λ (n : ℕ). within_ℤ 1 n z) e

pub returns : goal.returns
unfolding request_in_order tree_of
returns c =
    joined_as
    (same_tests (c.within-fits.ensures ∙ ap₂ size_within c.natural-depth.ensures (to_z-of_z w64 _ (sfits_of c.get-size.type_inv) ∙ c.get-size.ensures))
    (same_tests (c.place_within-number.ensures ∙ same_high _ c.count.ensures)
    (last_test c.rising-rising.ensures)))
