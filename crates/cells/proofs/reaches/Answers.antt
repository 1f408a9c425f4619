use Rattle.std.proofs.Common.{◌≡◌, ap, ℕ, ◌+◌, leb, ltb}
use Rattle.numbers.specs.Whole.{plus}
use Rattle.numbers.proofs.Every.{joined_as, same_tests, last_test}
use Rattle.hourlaws.specs.Windows.{window_number}
use Rattle.cells.specs.Cells.{part_minutes, reaches}
use Rattle.cells.proofs.reaches.Goals as goal

pub returns : goal.returns
unfolding reaches window_number
returns c =
    let end : c.natural_end.result ≡ plus c.args.window.end = cc in
    let start : c.natural_start.result ≡ plus c.args.window.start = cc in
    joined_as (same_tests (ap (leb c.args.first) end) (last_test (ap (λ (n : ℕ). ltb n (c.args.first + part_minutes)) start)))
