-- What each class must cover: the second stage of the in-order test. It makes the test of rates safe to compute.
use Rattle.std.specs.Prelude.{ℕ, ◌+◌, ◌≡◌, Bool, cond, List, [], ◌∷◌, eqb, leb, ℤ}
use Rattle.numbers.specs.Whole.{plus, minus}
use Rattle.numbers.specs.Tests.{every}
use Rattle.definitions.specs.Limits.{root, whole_share}
use Rattle.definitions.specs.Places.{rate, balance, depth_grains}
use Rattle.definitions.specs.Tree.{tree_of, sum_under}
use Rattle.definitions.specs.Rates.{fixed_sum, stated_sum}
use Rattle.sums.specs.declared.Summand.TheVariants.{Depths, Credits, Debts}
use Rattle.sums.specs.declared.UnderClass.{UnderClass}
use Rattle.sums.specs.Sums.{SumsBelow, ShareSums}

-- What the stated rates under class c may sum to: the disk's rate under the root, and nothing elsewhere.
unfoldable pub stated_limit : List ℤ → ℕ → ℕ
stated_limit t c = cond (eqb c root) (rate t root) 0

-- What class c must cover: fixed shares under it sum to at most 10,000, its children's depths to at most its depth, its
-- balance is at least the sum of theirs less its depth x 1000, both sides in natural parts, and the stated rates under it keep
-- their limit.
unfoldable pub class_covers : List ℤ → ℕ → Bool
class_covers t c =
    every
    (leb (fixed_sum (tree_of t) c) whole_share
    ∷ leb (sum_under (tree_of t) c (tree_of t).depth) ((tree_of t).depth c)
    ∷ leb (sum_under (tree_of t) c (λ k. plus (balance t k)) + minus (balance t c)) (sum_under (tree_of t) c (λ k. minus (balance t k)) + plus (balance t c) + depth_grains t c)
    ∷ leb (stated_sum (tree_of t) c) (stated_limit t c)
    ∷ [])

-- The sums under class c: fixed shares, stated rates, depths, and the natural and the negative parts of balances.
pub record Sums (t : List ℤ) (c : ℕ) (shares : UnderClass) (d p m : ℕ) : Type 0 where
  pub fixed : shares.fixed ≡ fixed_sum (tree_of t) c
  pub stated : shares.stated ≡ stated_sum (tree_of t) c
  pub depths : d ≡ sum_under (tree_of t) c (tree_of t).depth
  pub credits : p ≡ sum_under (tree_of t) c (λ k. plus (balance t k))
  pub debts : m ≡ sum_under (tree_of t) c (λ k. minus (balance t k))

-- Four lists have the sums under each class of the nodes below n: shares by kind, depths, and both parts of balances.
pub record Totals (t : List ℤ) (n : ℕ) (ss ds ps ms : List ℕ) : Type 0 where
  pub shares : ShareSums (tree_of t) n ss
  pub depths : SumsBelow Depths t n ds
  pub credits : SumsBelow Credits t n ps
  pub debts : SumsBelow Debts t n ms
