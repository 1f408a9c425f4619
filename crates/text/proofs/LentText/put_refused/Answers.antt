use Rattle.std.proofs.Common.{arith}
use Rattle.text.specs.Text.{ascii, refused_line}
use Rattle.text.proofs.Appending.{append_more}
use Rattle.text.proofs.Decimal.{decimal_short}
use Rattle.text.proofs.LentText.put_refused.Goals as goal

-- The word, the number and the line's end stand one behind the other.
pub returns-clause-put : goal.returns-clause-put
unfolding refused_line ascii
returns-clause-put c =
    append_more _ _ _ _ _ _ _ _ (omega (arith, decimal_short c.args.number)) (append_more _ _ _ _ _ _ _ _ (omega arith) c.put_text.ensures.put c.put_decimal.ensures.put) c.put_text-2.ensures.put
