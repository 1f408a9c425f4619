-- The invariant: every class so far covers what stands under it.
use Rattle.std.proofs.Common.{◌≡◌}
use Rattle.numbers.specs.Below.{all_below}
use Rattle.definitions.specs.Tree.{tree_of, is_class, test_if}
use Rattle.covering.specs.Cover.{class_covers}
use Rattle.covering.proofs.classes.classes_cover.Given as goal

abbrev pub invariant-loop-c : goal.invariant-loop-c
invariant-loop-c l = l.ok ≡ all_below l.c (λ c. test_if (is_class (tree_of l.table) c) (class_covers l.table) c)
