-- The lines of the nodes below k are put.
use Rattle.planformat.specs.Bytes.{bytes_below}
use Rattle.text.specs.Appended.{Appended, SameBuffer}
use Rattle.report.specs.Text.{line}
use Rattle.report.proofs.put_lines.Given as goal

abbrev pub invariant-loop-k : goal.invariant-loop-k
invariant-loop-k l = record {
  put : Appended l.initial.text.bytes.now l.initial.text.len (bytes_below l.k (line l.table)) l.text.bytes.now l.text.len;
  same : SameBuffer l.initial.text l.text;
}
