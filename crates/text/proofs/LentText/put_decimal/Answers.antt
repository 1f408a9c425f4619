use Rattle.std.proofs.Common.{◌∙◌, arith}
use Rattle.text.proofs.Appending.{append_as}
use Rattle.text.proofs.Decimal.{fewest_decimal}
use Rattle.text.proofs.LentText.put_decimal.Goals as goal

-- The fewest digits that hold n are put.
pub returns-clause-put : goal.returns-clause-put
returns-clause-put c =
    append_as _ _ _ _ _ _ (c.decimal-count.ensures.digits ∙ fewest_decimal c.args.n c.decimal-count.result (omega arith) c.decimal-count.ensures.len) c.put_text.ensures.put
