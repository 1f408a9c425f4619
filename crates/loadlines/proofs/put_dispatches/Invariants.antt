-- The lines of the entries below i are put.
use Rattle.planformat.specs.Bytes.{bytes_below}
use Rattle.text.specs.Appended.{Appended, SameBuffer}
use Rattle.loadformat.specs.Text.{dispatch_line}
use Rattle.loadlines.proofs.put_dispatches.Given as goal

abbrev pub invariant-loop-i : goal.invariant-loop-i
invariant-loop-i l = record {
  put : Appended l.initial.text.bytes.now l.initial.text.len (bytes_below l.i (dispatch_line l.tick l.list)) l.text.bytes.now l.text.len;
  same : SameBuffer l.initial.text l.text;
}
