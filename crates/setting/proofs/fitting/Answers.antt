use Rattle.std.proofs.Common.{refl}
use Rattle.numbers.proofs.Every.{joined_as, same_tests, last_test}
use Rattle.hourlaws.specs.Windows.{whole_windows}
use Rattle.setting.specs.Fitting.{fitting}
use Rattle.setting.proofs.fitting.Goals as goal

pub returns : goal.returns
unfolding fitting whole_windows
returns c = joined_as (same_tests c.same_shape-shape.ensures (same_tests refl (last_test c.windows_formed-formed.ensures)))
