use Rattle.numbers.proofs.All.{all_first, all_grows}
use Rattle.week.proofs.judge_turns.Goals as goal

pub loop-j-init : goal.loop-j-init
loop-j-init c = record { fixed = all_first _; stated = all_first _ }

pub loop-j-preserved : goal.loop-j-preserved
loop-j-preserved c =
    record {
      fixed = all_grows _ _ _ _ c.loop-j.invariant.fixed c.judge_turn-minute.ensures.fixed;
      stated = all_grows _ _ _ _ c.loop-j.invariant.stated c.judge_turn-minute.ensures.stated;
    }
