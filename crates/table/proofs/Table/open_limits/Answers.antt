use Rattle.std.proofs.Common.{ap, ◌∙◌}
use mir.Facts.{to_z-of_z}
use Rattle.numbers.specs.Whole.{within_ℤ}
use Rattle.numbers.proofs.Every.{joined_as, same_tests, last_test}
use Rattle.definitions.specs.Limits.{greatest_depth, greatest_rate}
use Rattle.definitions.specs.Calls.{open_limits}
use Rattle.table.proofs.Table.open_limits.Goals as goal

pub returns : goal.returns
unfolding open_limits
returns c =
    joined_as
    (same_tests (c.within-rate_fits.ensures ∙ ap (within_ℤ 1 greatest_rate) (to_z-of_z c.ranges.rate))
    (last_test (c.within-depth_fits.ensures ∙ ap (within_ℤ 1 greatest_depth) (to_z-of_z c.ranges.depth))))
