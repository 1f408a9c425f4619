-- The sums under a class are small where every record is in order. All of them at the start and at the end.
use Prim.Native.Nat.{ℕ, ◌≤◌, ◌<◌, ◌^◌, ◌*◌}
use mathlib.Core.Path.{◌≡◌, ◌∙◌}
use mathlib.Core.Bool.{true}
use mathlib.Core.List.{List}
use native.Mathlib.Omega.{arith}
use lib.ListN.{get_or, replicate}
use lib.IntN.{ℤ}
use Rattle.numbers.specs.Whole.{plus, minus}
use Rattle.numbers.proofs.Parts.{zarith}
use Rattle.numbers.proofs.Sums.{sum_bound}
use Rattle.definitions.specs.Limits.{nodes, depth_at, balance_at, fixed, stated, last_level, greatest_depth, greatest_rate, grain_scale}
use Rattle.definitions.specs.Places.{place, rate, balance, depth_grains}
use Rattle.definitions.specs.Tree.{tree_of, child_of, count_if, sum_under}
use Rattle.definitions.proofs.Facts.{limits_of_law}
use Rattle.sums.specs.declared.Summand.{Summand}
use Rattle.sums.specs.declared.Summand.TheVariants.{Depths, Credits, Debts}
use Rattle.sums.specs.Sums.{term, Summable, Shareable, share_sums, sum_at}
use Rattle.sums.specs.declared.UnderClass.{UnderClass}
use Rattle.sums.proofs.Summable.{summable_of, shareable_of}
use Rattle.sums.proofs.NodeByNode.{child_small, sums_start, sums_end, share_sums_start, share_sums_end}
use Rattle.records.specs.Record.{records_in_order}
use Rattle.records.proofs.Bounds.{bounds}
use Rattle.records.proofs.Nodes.{Node, node_at}
use Rattle.covering.specs.Cover.{Sums, Totals}

-- A node's depth, the same in grains, its rate, and the parts of its balance.
pub record Small (t : List ℤ) (k : ℕ) : Type 0 where
  pub depth : plus (place t k depth_at) ≤ greatest_depth
  pub grains : depth_grains t k ≤ greatest_depth * grain_scale
  pub rate : rate t k ≤ greatest_rate
  pub credit : plus (place t k balance_at) ≤ greatest_depth * grain_scale
  pub debt : minus (place t k balance_at) ≤ last_level * (greatest_depth * grain_scale)

pub small : (t : List ℤ) (k : ℕ) → Node t k → Small t k
unfolding tree_of rate balance depth_grains
small t k f = let b = bounds t k f.limits in omega (arith, zarith, f.rate)

pub summable : (which : Summand) (t : List ℤ) → records_in_order t ≡ true → Summable which t
unfolding balance
summable which t h =
    summable_of which t (λ k hk e. limits_of_law t k (node_at t h k hk e).limits)
    (λ k hk e.
    let s = small t k (node_at t h k hk e) in
    record { rate = omega arith; credit = omega arith; debt = omega arith })

pub shareable : (t : List ℤ) → records_in_order t ≡ true → Shareable (tree_of t)
shareable t h = shareable_of t (λ k hk e. limits_of_law t k (node_at t h k hk e).limits)

pub sum_small : (which : Summand) (t : List ℤ) → records_in_order t ≡ true → (c : ℕ) → sum_under (tree_of t) c (term which t) ≤ 2 ^ 63
unfolding sum_under
sum_small which t h c =
    omega (arith, sum_bound nodes (2 ^ 57) (λ k. count_if (child_of (tree_of t) c k) (term which t) k) (λ k hk. child_small which t (summable which t h) c k hk))

-- All sums are 0 at the start, and at the end those under the classes.
pub totals_start : (t : List ℤ) → Totals t 1 (replicate share_sums 0) (replicate nodes 0) (replicate nodes 0) (replicate nodes 0)
totals_start t = record { shares = share_sums_start (tree_of t); depths = sums_start Depths t; credits = sums_start Credits t; debts = sums_start Debts t }

pub totals_sums : (t : List ℤ) (ss ds ps ms : List ℕ) → Totals t nodes ss ds ps ms → (c : ℕ) → c < nodes → (under : UnderClass) → under.fixed ≡ get_or ss (sum_at c fixed) 0 → under.stated ≡ get_or ss (sum_at c stated) 0 → Sums t c under (get_or ds c 0) (get_or ps c 0) (get_or ms c 0)
unfolding term
totals_sums t ss ds ps ms f c hc under fixed_shares stated_rates =
    record {
      fixed = fixed_shares ∙ share_sums_end (tree_of t) ss f.shares c fixed hc (omega arith);
      stated = stated_rates ∙ share_sums_end (tree_of t) ss f.shares c stated hc (omega arith);
      depths = sums_end Depths t ds f.depths c hc;
      credits = sums_end Credits t ps f.credits c hc;
      debts = sums_end Debts t ms f.debts c hc;
    }
