-- One line more.
use Rattle.std.proofs.Common.{refl, ◌∙◌, arith}
use Rattle.text.proofs.Below.{append_first, append_next}
use Rattle.loadformat.specs.Text.{dispatch_line}
use Rattle.loadformat.proofs.Lines.{lines_short}
use Rattle.loadlines.proofs.put_dispatches.Goals as goal

pub loop-i-init : goal.loop-i-init
loop-i-init c = record { put = append_first _ _ _; same = record { place = refl; long = refl } }

pub put_dispatch-requires : goal.put_dispatch-requires
put_dispatch-requires c =
    let so_far = c.loop-i.invariant in
    (omega (arith, so_far.put.behind, so_far.same.long, lines_short c.args.tick c.loop-i.i c.args.list.now), omega arith)

pub loop-i-preserved : goal.loop-i-preserved
loop-i-preserved c =
    let so_far = c.loop-i.invariant in
    let more = c.put_dispatch.ensures in
    record {
      put = append_next _ _ _ _ _ _ c.loop-i.i (dispatch_line c.args.tick c.args.list.now) (omega (arith, lines_short c.args.tick c.loop-i.i c.args.list.now)) so_far.put more.put;
      same = record { place = more.same.place ∙ so_far.same.place; long = more.same.long ∙ so_far.same.long };
    }
