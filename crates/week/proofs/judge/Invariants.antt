-- The parts so far are judged.
use Rattle.std.proofs.Common.{◌≡◌, ◌*◌, true}
use Rattle.numbers.specs.Below.{all_below}
use Rattle.definitions.specs.Limits.{root, fixed as fixed_kind, stated as stated_kind, whole_share}
use Rattle.definitions.specs.Places.{rate}
use Rattle.definitions.specs.Tree.{tree_of}
use Rattle.hourlaws.specs.Windows.{window_count, shares_fit}
use Rattle.cells.specs.Cells.{part_minutes, clear_in}
use Rattle.week.specs.Week.{within_at}
use Rattle.week.proofs.judge.Given as goal

abbrev pub invariant-loop-n : goal.invariant-loop-n
invariant-loop-n l =
    (l.apart ≡ all_below l.n (λ b. all_below (window_count l.windows) (clear_in l.windows (b * part_minutes))))
    × (shares_fit (tree_of l.plan) l.windows ≡ true → l.fixed ≡ all_below (l.n * part_minutes) (within_at fixed_kind whole_share (tree_of l.plan) l.windows))
    × (shares_fit (tree_of l.plan) l.windows ≡ true → l.stated ≡ all_below (l.n * part_minutes) (within_at stated_kind (rate l.plan root) (tree_of l.plan) l.windows))
