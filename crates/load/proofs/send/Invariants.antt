-- What was handed on is the text up to the last tick so far. The buffer is as long as it was.
use Rattle.std.proofs.Common.{◌≡◌, ◌-◌, ◌≤◌, length}
use Rattle.asking.specs.Asking.{load_of}
use Rattle.loadformat.specs.Parts.{part_length, ticks_allowed}
use Rattle.loadformat.proofs.Whole.{UnderWay}
use Rattle.load.proofs.send.Given as goal

abbrev pub invariant-loop-progress : goal.invariant-loop-progress
invariant-loop-progress l = record {
  way : UnderWay l.input (load_of l.table l.progress.state) l.progress.made l.progress.ticks;
  sent : l.sent ≡ l.progress.made;
  all : l.progress.ticks ≡ ticks_allowed l.input;
  room : part_length ≤ length l.text.bytes.now;
}

abbrev pub decreases-loop-progress : goal.decreases-loop-progress
decreases-loop-progress l = l.progress.ticks - l.progress.made
