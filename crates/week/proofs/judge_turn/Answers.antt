use Rattle.std.proofs.Common.{sym, ◌∙◌}
use Rattle.definitions.proofs.Facts.{test_off, test_on}
use Rattle.week.specs.Week.{within_marked}
use Rattle.week.proofs.judge_turn.Goals as goal

pub returns-then-not-turns-j : goal.returns-then-not-turns-j
unfolding within_marked
returns-then-not-turns-j c =
    record { fixed = sym (test_off _ _ _ c.if-not-turns-j.true); stated = sym (test_off _ _ _ c.if-not-turns-j.true) }

pub returns : goal.returns
unfolding within_marked
returns c =
    record {
      fixed = c.judge_minute.ensures.fixed ∙ sym (test_on _ _ _ c.if-not-turns-j.false);
      stated = c.judge_minute.ensures.stated ∙ sym (test_on _ _ _ c.if-not-turns-j.false);
    }
