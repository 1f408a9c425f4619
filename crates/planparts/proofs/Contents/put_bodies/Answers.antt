use Rattle.std.proofs.Common.{sym, length, arith}
use Rattle.planformat.specs.Format.{body_length, entry_at, body_bytes}
use Rattle.planformat.proofs.Written.{pieces_none, pieces_next}
use Rattle.planformat.proofs.Editions.{body_within}
use Rattle.planformat.proofs.Codec.{length_body}
use Rattle.planlaws.specs.Writing.{plan_of}
use Rattle.planparts.proofs.Contents.put_bodies.Goals as goal

pub loop-i-init : goal.loop-i-init
loop-i-init c =
    let p = plan_of c.args.self.table.now in
    let e = c.args.self.edition in
    sym (pieces_none (body_length e) (body_bytes e p) (length_body e p) c.args.buffer.now (entry_at e (length c.args.self.nodes.now)))

pub loop-i-preserved : goal.loop-i-preserved
loop-i-preserved c =
    let p = plan_of c.args.self.table.now in
    let e = c.args.self.edition in
    let n = length c.args.self.nodes.now in
    pieces_next (body_length e) (body_bytes e p) (length_body e p) _ (entry_at e n) c.loop-i.i _ _ _
    (omega (arith, c.requires, body_within e n c.loop-i.i (omega arith))) (omega (arith, c.loop-i.auto.buffer)) c.loop-i.invariant c.put_body.ensures
