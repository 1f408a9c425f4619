-- A space and the number's digits.
use Rattle.std.proofs.Common.{ap, ◌∙◌, arith}
use mir.Syntax.{w64}
use mir.ValLaws.{to_z-of_z}
use borrow.Author.Rules.{sfits_of}
use Rattle.numbers.specs.Whole.{plus}
use Rattle.text.specs.Text.{ascii, decimal}
use Rattle.text.proofs.Appending.{append_as, append_more}
use Rattle.loadformat.specs.Text.{number_text}
use Rattle.loadlines.proofs.put_number.Goals as goal

pub returns-clause-put : goal.returns-clause-put
unfolding number_text ascii
returns-clause-put c =
    let number = c.natural.ensures ∙ ap plus (to_z-of_z w64 _ (sfits_of c.entry_number.type_inv) ∙ c.entry_number.ensures) in
    append_more _ _ (ascii " ") _ _ _ _ _ (omega arith) c.put_text.ensures.put (append_as _ _ _ _ _ _ (ap decimal number) c.put_decimal.ensures.put)
