use Rattle.numbers.proofs.Every.{joined_as, same_tests, last_test}
use Rattle.std.proofs.Common.{refl, ap, eqb}
use Rattle.definitions.specs.Tree.{tree_of, child_of}
use Rattle.table.proofs.tree.child_of.Goals as goal

pub returns : goal.returns
unfolding child_of tree_of
returns c = joined_as (same_tests c.there.ensures (same_tests refl (last_test (ap (λ n. eqb n c.args.c) c.natural.ensures))))
