-- One line more.
use Rattle.std.proofs.Common.{refl, ◌∙◌, arith}
use Rattle.text.proofs.Below.{append_first, append_next}
use Rattle.report.specs.Text.{line}
use Rattle.report.proofs.Lines.{lines_short}
use Rattle.report.proofs.put_lines.Goals as goal

pub loop-k-init : goal.loop-k-init
loop-k-init c = record { put = append_first _ _ _; same = record { place = refl; long = refl } }

pub put_line-requires : goal.put_line-requires
put_line-requires c =
    (omega (arith, c.loop-k.invariant.put.behind, c.loop-k.invariant.same.long, lines_short c.args.table.now c.loop-k.k), omega arith)

pub loop-k-preserved : goal.loop-k-preserved
loop-k-preserved c =
    let put = c.put_line.ensures in
    record {
      put = append_next _ _ _ _ _ _ c.loop-k.k (line c.args.table.now) (omega (arith, lines_short c.args.table.now c.loop-k.k)) c.loop-k.invariant.put put.put;
      same = record { place = put.same.place ∙ c.loop-k.invariant.same.place; long = put.same.long ∙ c.loop-k.invariant.same.long };
    }
