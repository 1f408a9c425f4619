-- A record by itself and with its parent's: the first stage of the in-order test. It makes the sums under the classes and
-- the test of rates safe to compute.
use Rattle.std.specs.Prelude.{ℕ, ◌*◌, Bool, cond, ◌||◌, List, [], ◌∷◌, eqb, leb, ℤ}
use Rattle.numbers.specs.Whole.{plus, minus, within_ℤ}
use Rattle.numbers.specs.Tests.{every}
use Rattle.numbers.specs.Below.{all_below}
use Rattle.definitions.specs.Limits.{nodes, record_length, rate_at, last_class_level, last_level, greatest_rate}
use Rattle.definitions.specs.Places.{place, balance, waiting, depth_grains}
use Rattle.definitions.specs.Tree.{tree_of, there, is_class, test_if}
use Rattle.definitions.specs.Order.{is_zero, limits_kept, spare_in_order, parent_in_order}

-- A class has level 0 to 3 and nothing waiting.
unfoldable pub class_placed : List ℤ → ℕ → Bool
class_placed t c = every (leb ((tree_of t).level c) last_class_level ∷ eqb (waiting t c) 0 ∷ [])

-- No balance exceeds depth x 1000 or stands more than 4 depths below 0, and a client's not below 0 at all. That no class
-- stands lower in a table in order is a law (treelaws, Floors); it keeps the sums of balances small.
unfoldable pub balance_within : List ℤ → ℕ → Bool
balance_within t k =
    every
    (leb (plus (balance t k)) (depth_grains t k)
    ∷ leb (minus (balance t k)) (last_level * depth_grains t k)
    ∷ (is_class (tree_of t) k || eqb (minus (balance t k)) 0)
    ∷ [])

-- A node that is there, as far as its record and its parent's tell. Its rate is 0 to 1,000,000,000, as every rate of a table in
-- order is (treelaws, Rounding); that keeps the products of the test of rates small.
unfoldable pub node_in_order : List ℤ → ℕ → Bool
node_in_order t k =
    every
    (limits_kept t k
    ∷ spare_in_order t k
    ∷ parent_in_order (tree_of t) k
    ∷ test_if (is_class (tree_of t) k) (class_placed t) k
    ∷ balance_within t k
    ∷ within_ℤ 0 greatest_rate (place t k rate_at)
    ∷ [])

-- An unused record is zero throughout.
unfoldable pub record_in_order : List ℤ → ℕ → Bool
record_in_order t k = cond (there (tree_of t) k) (node_in_order t k) (all_below record_length (λ p. is_zero (place t k p)))

unfoldable pub records_in_order : List ℤ → Bool
records_in_order t = all_below nodes (record_in_order t)
