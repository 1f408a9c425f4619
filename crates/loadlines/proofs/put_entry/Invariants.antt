-- The numbers below p are put.
use Rattle.planformat.specs.Bytes.{bytes_below}
use Rattle.text.specs.Appended.{Appended, SameBuffer}
use Rattle.loadformat.specs.Text.{number_text}
use Rattle.loadlines.proofs.put_entry.Given as goal

abbrev pub invariant-loop-p : goal.invariant-loop-p
invariant-loop-p l = record {
  put : Appended l.initial.text.bytes.now l.initial.text.len (bytes_below l.p (number_text l.list l.i)) l.text.bytes.now l.text.len;
  same : SameBuffer l.initial.text l.text;
}
