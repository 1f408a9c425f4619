use Rattle.std.proofs.Common.{refl, ap, eqb}
use Rattle.numbers.proofs.Every.{joined_as, same_tests, last_test}
use Rattle.definitions.specs.Limits.{last_class_level}
use Rattle.definitions.specs.Tree.{tree_of}
use Rattle.admission.proofs.level_too_low.Goals as goal

pub returns : goal.returns
unfolding tree_of
returns c = joined_as (same_tests refl (last_test (ap (λ n. eqb n last_class_level) c.natural-at_end.ensures)))
