-- Cause 16 of join and change share by the sums of the table as it came. Document 02, (f).
use Rattle.std.specs.Prelude.{ℕ, ◌+◌, ◌-◌, Bool, not, ◌&&◌, ◌||◌, List, eqb, ltb, ℤ}
use Rattle.definitions.specs.Limits.{root, stated}
use Rattle.definitions.specs.Places.{rate}
use Rattle.definitions.specs.Tree.{tree_of}
use Rattle.definitions.specs.Rates.{stated_sum}

-- Whether a share of this kind under class c, in the place of an old stated rate, is stated elsewhere than under the root or
-- makes the stated rates exceed the disk's.
unfoldable pub stated_wrong_with : List ℤ → ℕ → ℕ → ℕ → ℕ → Bool
stated_wrong_with t c old kind share =
    eqb kind stated && (not (eqb c root) || ltb (rate t root) (stated_sum (tree_of t) root + share - old))
