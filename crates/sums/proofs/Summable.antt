-- Which tables have sums that fit: those whose nodes keep their limits and have small rates and balances, as in a table in
-- order.
use Prim.Native.Nat.{ℕ, ◌≤◌, ◌<◌, ◌^◌}
use mathlib.Core.Path.{◌≡◌}
use mathlib.Core.Bool.{true}
use mathlib.Core.List.{List}
use native.Mathlib.Omega.{arith}
use lib.IntN.{ℤ}
use Rattle.numbers.specs.Whole.{plus, minus}
use Rattle.numbers.proofs.Parts.{one_is_zero, plus_pos, minus_pos, zarith}
use Rattle.definitions.specs.Limits.{nodes}
use Rattle.definitions.specs.Places.{rate, balance, depth_grains}
use Rattle.definitions.specs.Tree.{tree_of, there}
use Rattle.definitions.proofs.Facts.{Limits, InOrder}
use Rattle.definitions.proofs.ShareKinds.{limit_le, kind_share_le}
use Rattle.treelaws.proofs.Rounding.{rate_small}
use Rattle.treelaws.proofs.Floors.{grounds, node_floor}
use Rattle.sums.specs.declared.Summand.{Summand}
use Rattle.sums.specs.declared.Summand.TheVariants.{Shares, Depths, Rates, Credits, Debts}
use Rattle.sums.specs.Sums.{term, Summable, Shareable}

-- The bounds of one node's numbers that stand in no limit: its rate and its balance.
pub record SmallNumbers (t : List ℤ) (k : ℕ) : Type 0 where
  pub rate : rate t k ≤ 2 ^ 57
  pub credit : plus (balance t k) ≤ 2 ^ 57
  pub debt : minus (balance t k) ≤ 2 ^ 57

-- A summand is small where share and depth are, and these numbers.
term_le : (which : Summand) (t : List ℤ) (k : ℕ) → (tree_of t).share k ≤ 2 ^ 57 → (tree_of t).depth k ≤ 2 ^ 57 → SmallNumbers t k → term which t k ≤ 2 ^ 57
unfolding term
term_le (Shares kind) t k share depth small = omega (arith, kind_share_le (tree_of t) kind k)
term_le Depths t k share depth small = depth
term_le Rates t k share depth small = small.rate
term_le Credits t k share depth small = small.credit
term_le Debts t k share depth small = small.debt

pub summable_of : (which : Summand) (t : List ℤ) → ((k : ℕ) → k < nodes → there (tree_of t) k ≡ true → Limits t k) → ((k : ℕ) → k < nodes → there (tree_of t) k ≡ true → SmallNumbers t k) → Summable which t
unfolding tree_of
summable_of which t limits numbers =
    record {
      parent = λ k hk e ne. let l = limits k hk e in omega (arith, zarith);
      small = λ k hk e ne.
          let l = limits k hk e in
          term_le which t k (omega (arith, zarith, limit_le ((tree_of t).kind k))) (omega (arith, zarith)) (numbers k hk e);
    }

-- Their shares can be summed by kind.
pub shareable_of : (t : List ℤ) → ((k : ℕ) → k < nodes → there (tree_of t) k ≡ true → Limits t k) → Shareable (tree_of t)
unfolding tree_of
shareable_of t limits =
    record {
      parent = λ k hk e ne. let l = limits k hk e in omega (arith, zarith);
      kind = λ k hk e ne. let l = limits k hk e in omega (arith, zarith);
      small = λ k hk e ne. let l = limits k hk e in omega (arith, zarith, limit_le ((tree_of t).kind k));
    }

pub in_order_summable : (which : Summand) (t : List ℤ) → InOrder t → Summable which t
unfolding depth_grains
in_order_summable which t f =
    summable_of which t f.limits
    (λ k hk e.
    let l = f.limits k hk e in
    let b = (f.balances k hk e).most in
    record {
      rate = omega (arith, rate_small t f k hk);
      credit = omega (arith, zarith, one_is_zero (balance t k), plus_pos (depth_grains t k), minus_pos (depth_grains t k));
      debt = omega (arith, zarith, node_floor t (grounds t f) k hk e);
    })
