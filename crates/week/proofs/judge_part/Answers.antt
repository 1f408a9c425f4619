use Rattle.std.proofs.Common.{ℕ, ap, ◌∙◌}
use Rattle.numbers.specs.Below.{all_below}
use Rattle.definitions.specs.Limits.{root, stated, whole_share, fixed}
use Rattle.definitions.specs.Places.{rate}
use Rattle.definitions.specs.Tree.{tree_of}
use Rattle.cells.specs.Cells.{part_minutes, cell_count, cell_at}
use Rattle.week.specs.Week.{within_marked}
use Rattle.week.proofs.Blank.{all_alike, first_turn}
use Rattle.week.proofs.Minutes.{cells_small, cells_within}
use Rattle.week.proofs.judge_part.Goals as goal

pub add_windows-apart-requires : goal.add_windows-apart-requires
add_windows-apart-requires c =
    (c.requires.1, c.requires.2, (λ k j hj. all_alike cell_count (cell_at k j) 0), λ j hj. first_turn c.args.first j)

pub judge_turns-within-requires : goal.judge_turns-within-requires
judge_turns-within-requires c =
    (c.requires.0, cells_small c.args.plan.now c.args.windows.now c.args.first c.add_windows-apart.new.cells c.add_windows-apart.ensures.cells)

pub returns : goal.returns
unfolding rate
returns c =
    let plan = c.args.plan.now in
    let cells = c.add_windows-apart.new.cells in
    let turns = c.add_windows-apart.new.turns in
    let within = cells_within plan c.args.windows.now c.args.first cells c.add_windows-apart.ensures.cells turns c.add_windows-apart.ensures.turns in
    record {
      apart = c.add_windows-apart.ensures.apart;
      fixed = λ fit. c.judge_turns-within.ensures.fixed ∙ within fixed whole_share fit;
      stated = λ fit.
          c.judge_turns-within.ensures.stated
          ∙ ap (λ (disk : ℕ). all_below part_minutes (within_marked stated disk (tree_of plan) cells turns)) c.natural.ensures
          ∙ within stated (rate plan root) fit;
    }
