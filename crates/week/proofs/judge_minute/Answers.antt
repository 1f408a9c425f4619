use Rattle.std.proofs.Common.{◌∙◌, arith}
use Rattle.sums.proofs.NodeByNode.{share_sums_start}
use Rattle.week.proofs.Sums.{sums_judge}
use Rattle.week.proofs.judge_minute.Goals as goal

pub add_nodes-requires : goal.add_nodes-requires
add_nodes-requires c = (c.requires.0, c.requires.1, c.requires.2, share_sums_start _)

pub returns : goal.returns
returns c =
    record {
      fixed = c.sums_within-fixed.ensures ∙ sums_judge _ _ _ _ c.add_nodes.ensures (omega arith);
      stated = c.sums_within-stated.ensures ∙ sums_judge _ _ _ _ c.add_nodes.ensures (omega arith);
    }
