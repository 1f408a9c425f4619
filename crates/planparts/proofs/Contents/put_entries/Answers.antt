use Rattle.std.proofs.Common.{sym, arith}
use Rattle.planformat.specs.Format.{entry_length, entry_at, entry_bytes}
use Rattle.planformat.proofs.Written.{pieces_none, pieces_next}
use Rattle.planformat.proofs.Codec.{length_entry}
use Rattle.planlaws.specs.Writing.{plan_of}
use Rattle.planparts.proofs.Contents.put_entries.Goals as goal

pub loop-i-init : goal.loop-i-init
loop-i-init c =
    let p = plan_of c.args.self.table.now in
    let e = c.args.self.edition in
    sym (pieces_none entry_length (entry_bytes e p) (length_entry e p) c.args.buffer.now (entry_at e 0))

pub loop-i-preserved : goal.loop-i-preserved
loop-i-preserved c =
    let p = plan_of c.args.self.table.now in
    let e = c.args.self.edition in
    pieces_next entry_length (entry_bytes e p) (length_entry e p) _ (entry_at e 0) c.loop-i.i _ _ _ (omega (arith, c.requires)) (omega (arith, c.loop-i.auto.buffer)) c.loop-i.invariant c.put_entry.ensures
