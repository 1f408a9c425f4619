-- One number more.
use Rattle.std.proofs.Common.{refl, ◌∙◌, arith}
use Rattle.text.proofs.Below.{append_first, append_next}
use Rattle.loadformat.specs.Text.{number_text}
use Rattle.loadformat.proofs.Lines.{entry_short}
use Rattle.loadlines.proofs.put_entry.Goals as goal

pub loop-p-init : goal.loop-p-init
loop-p-init c = record { put = append_first _ _ _; same = record { place = refl; long = refl } }

pub put_number-requires : goal.put_number-requires
put_number-requires c =
    let so_far = c.loop-p.invariant in
    (omega (arith, so_far.put.behind, so_far.same.long, entry_short c.args.list.now c.args.i c.loop-p.p), omega arith, omega arith)

pub loop-p-preserved : goal.loop-p-preserved
loop-p-preserved c =
    let so_far = c.loop-p.invariant in
    let more = c.put_number.ensures in
    record {
      put = append_next _ _ _ _ _ _ c.loop-p.p (number_text c.args.list.now c.args.i) (omega (arith, entry_short c.args.list.now c.args.i c.loop-p.p)) so_far.put more.put;
      same = record { place = more.same.place ∙ so_far.same.place; long = more.same.long ∙ so_far.same.long };
    }
