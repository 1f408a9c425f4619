-- The tick, the entry's numbers and the line's end stand one behind the other.
use Rattle.std.proofs.Common.{length-append, arith}
use Rattle.definitions.specs.Limits.{entry_length}
use Rattle.planformat.specs.Bytes.{bytes_below}
use Rattle.text.specs.Text.{ascii, decimal}
use Rattle.text.proofs.Decimal.{decimal_short}
use Rattle.text.proofs.Appending.{append_more}
use Rattle.loadformat.specs.Text.{number_text, dispatch_line}
use Rattle.loadformat.proofs.Lines.{entry_short}
use Rattle.loadlines.proofs.put_dispatch.Goals as goal

pub put_entry-requires : goal.put_entry-requires
put_entry-requires c = (omega (arith, decimal_short c.args.tick), omega arith)

pub put_text-requires : goal.put_text-requires
put_text-requires c =
    omega (arith, decimal_short c.args.tick, entry_short c.args.list.now c.args.i entry_length)

pub returns-clause-put : goal.returns-clause-put
unfolding dispatch_line ascii
returns-clause-put c =
    let tick = decimal c.args.tick in
    let entry = bytes_below entry_length (number_text c.args.list.now c.args.i) in
    let short = decimal_short c.args.tick in
    let long = entry_short c.args.list.now c.args.i entry_length in
    append_more _ _ _ _ _ _ _ _ (omega (arith, length-append tick entry)) (append_more _ _ _ _ _ _ _ _ (omega arith) c.put_decimal.ensures.put c.put_entry.ensures.put) c.put_text.ensures.put
