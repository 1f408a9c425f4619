-- A record of zeros is that of an unused node. A node that has just come has balance 0, nothing waiting and no children,
-- so the sums under it are 0.
use Prim.Native.Nat.{ℕ, ◌+◌, ◌≤◌, ◌<◌}
use mathlib.Core.Path.{◌≡◌, ap, ◌∙◌}
use mathlib.Core.Bool.{true, false}
use mathlib.Core.List.{List}
use native.Mathlib.Omega.{arith}
use lib.IntN.{ℤ, pos}
use Rattle.numbers.specs.Whole.{plus, minus}
use Rattle.numbers.proofs.Tests.{true_false}
use Rattle.numbers.proofs.Parts.{zarith, plus_pos, minus_pos, add_parts}
use Rattle.definitions.specs.Limits.{record_length, nodes, sort_at, balance_at, waiting_at, port_at, spare_at, queue_at, fixed, last_class_level}
use Rattle.definitions.specs.Places.{place, balance, waiting, depth_grains}
use Rattle.definitions.specs.Tree.{tree_of, there, is_class, is_client, sum_under}
use Rattle.definitions.specs.Rates.{kind_share, kind_sum}
use Rattle.definitions.proofs.Facts.{Limits, Child, Class, Balance}
use Rattle.treelaws.proofs.Children.{ChildOf, balances_parts, under_zero}
use Rattle.calllaws.proofs.Nodes.{Node}

pub zero_unused : (t : List ℤ) (k : ℕ) → place t k sort_at ≡ pos 0 → there (tree_of t) k ≡ false
unfolding there tree_of plus
zero_unused t k e = rw e

pub unused_node : (t : List ℤ) (k : ℕ) → ((p : ℕ) → p < record_length → place t k p ≡ pos 0) → Node t k
unfolding is_class is_client tree_of plus
unused_node t k h =
    record {
      empty = λ e. h;
      limits = λ e. absurd (none e);
      spare = λ e. absurd (none e);
      child = λ e. absurd (none e);
      class = λ e. absurd (true_false e (rw (h sort_at (omega arith))));
      balance = λ e. absurd (none e);
      requests = λ e. absurd (true_false e (rw (h sort_at (omega arith))));
    }
  where
    none : there (tree_of t) k ≡ true → ⊥
    none e = true_false e (zero_unused t k (h sort_at (omega arith)))

module _ (t : List ℤ) (k : ℕ) (zeros : (p : ℕ) → p < record_length → balance_at ≤ p → (p ≡ port_at → ⊥) → place t k p ≡ pos 0) (childless : (j : ℕ) → j < nodes → ChildOf (tree_of t) k j → ⊥) where
  idle : waiting t k ≡ 0
  unfolding waiting
  idle = ap plus (zeros waiting_at (omega arith) (omega arith) (λ e. omega arith)) ∙ plus_pos 0

  none : (f : ℕ → ℕ) → sum_under (tree_of t) k f ≡ 0
  none f = under_zero (tree_of t) k f (λ j hj child. absurd (childless j hj child))

  fresh_class : (tree_of t).level k ≤ last_class_level → Class t k
  unfolding kind_sum
  fresh_class level =
      record {
        level = level;
        idle = idle;
        shares = omega (arith, none (kind_share (tree_of t) fixed));
        depths = omega (arith, none (tree_of t).depth);
      }

  fresh_balance : Balance t k
  unfolding balance
  fresh_balance =
      let zero_plus : plus (place t k balance_at) ≡ 0 = ap plus (zeros balance_at (omega arith) (omega arith) (λ e. omega arith)) ∙ plus_pos 0 in
      let zero_minus : minus (place t k balance_at) ≡ 0 = ap minus (zeros balance_at (omega arith) (omega arith) (λ e. omega arith)) ∙ minus_pos 0 in
      record {
        most = omega (arith, zarith, minus_pos (depth_grains t k));
        class = λ e.
            omega (
              arith,
              zarith,
              balances_parts t k,
              none (λ j. plus (balance t j)),
              none (λ j. minus (balance t j)),
              add_parts (balance t k) (pos (depth_grains t k)),
              minus_pos (depth_grains t k),
            );
        client = λ e. omega (arith, zarith, plus_pos 0);
      }

  pub fresh_node : there (tree_of t) k ≡ true → Limits t k → ((k ≡ 0 → ⊥) → Child (tree_of t) k) → (is_class (tree_of t) k ≡ true → (tree_of t).level k ≤ last_class_level) → Node t k
  fresh_node here limits child level =
      record {
        empty = λ e. absurd (true_false here e);
        limits = λ e. limits;
        spare = λ e. record { places = λ p hp. zeros (spare_at + p) (omega arith) (omega arith) (λ e. omega arith); queue = λ p hp low. zeros (queue_at + p) (omega arith) (omega arith) (λ e. omega arith) };
        child = λ e. child;
        class = λ e. fresh_class (level e);
        balance = λ e. fresh_balance;
        requests = λ e i hi. absurd (busy i hi);
      }
    where
      busy : (i : ℕ) → i < waiting t k → ⊥
      busy i hi = omega (arith, idle)
