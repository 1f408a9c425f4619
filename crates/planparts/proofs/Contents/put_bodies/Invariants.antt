-- The bodies so far are written, one behind the other.
use Rattle.std.proofs.Common.{◌≡◌, length}
use Rattle.planformat.specs.Bytes.{bytes_below}
use Rattle.planformat.specs.Format.{entry_at, body_bytes}
use Rattle.planformat.specs.Written.{written}
use Rattle.planlaws.specs.Writing.{plan_of}
use Rattle.planparts.proofs.Contents.put_bodies.Given as goal

abbrev pub invariant-loop-i : goal.invariant-loop-i
invariant-loop-i l = l.buffer ≡ written l.initial.buffer (entry_at l.self.edition (length l.self.nodes.now)) (bytes_below l.i (body_bytes l.self.edition (plan_of l.self.table.now)))
