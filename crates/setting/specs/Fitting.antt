-- The tests of cause 17 but the one that no two windows overlap, for table t and a plan's table p.
use Rattle.std.specs.Prelude.{Bool, List, [], ◌∷◌, ℤ}
use Rattle.numbers.specs.Tests.{every}
use Rattle.numbers.specs.Below.{all_below}
use Rattle.definitions.specs.Tree.{tree_of}
use Rattle.hourlaws.specs.Windows.{window_count, window_formed, whole_windows}
use Rattle.hourlaws.specs.SetMinute.{same_shape}

-- Whether t has the shape of p, and a list is whole windows that are right for the plan.
unfoldable pub fitting : List ℤ → List ℤ → List ℤ → Bool
fitting t p ws = every (same_shape t p ∷ whole_windows ws ∷ all_below (window_count ws) (window_formed (tree_of p) ws) ∷ [])
