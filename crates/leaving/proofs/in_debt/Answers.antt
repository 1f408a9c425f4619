use Rattle.std.proofs.Common.{ltb, ap, ◌∙◌}
use borrow.Author.Rules.{sfits_of}
use mir.Syntax.{w64}
use mir.ValLaws.{to_z-of_z}
use Rattle.numbers.specs.Whole.{minus}
use Rattle.numbers.proofs.Every.{joined_as, same_tests, last_test}
use Rattle.definitions.specs.Places.{balance}
use Rattle.leaving.proofs.Debt.{below_zero}
use Rattle.leaving.proofs.in_debt.Goals as goal

pub returns : goal.returns
unfolding balance
returns c =
    joined_as
    (same_tests c.is_class-class.ensures
    (last_test
    (ap (ltb 0) (c.negative-below.ensures ∙ ap minus (to_z-of_z w64 _ (sfits_of c.get.type_inv) ∙ c.get.ensures))
    ∙ below_zero (balance c.args.table.now c.args.k))))
