-- The lines of the ticks so far are put.
use Rattle.std.proofs.Common.{◌≡◌, ◌*◌, ◌-◌, ◌≤◌, length}
use Rattle.definitions.specs.Limits.{entry_length}
use Rattle.text.specs.Appended.{SameBuffer}
use Rattle.asking.specs.Asking.{clients, load_of}
use Rattle.loadformat.specs.Parts.{most_dispatches, GoesOn}
use Rattle.loadtext.proofs.put_ticks.Given as goal

abbrev pub invariant-loop-next : goal.invariant-loop-next
invariant-loop-next l = record {
  part : GoesOn l.fn.text.bytes.now (load_of l.fn.table l.fn.progress.state) l.fn.progress.made l.fn.progress.ticks l.text.bytes.now (load_of l.table l.next.state) l.next.made l.text.len;
  same : SameBuffer l.fn.text l.text;
  last : l.next.made ≤ l.last;
  ticks : l.next.ticks ≡ l.fn.progress.ticks;
  list : length l.list ≡ entry_length * most_dispatches;
  askers : l.askers ≡ clients l.table;
}

abbrev pub decreases-loop-next : goal.decreases-loop-next
decreases-loop-next l = l.last - l.next.made
