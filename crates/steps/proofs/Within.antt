-- A table that a tick has reached keeps all its numbers within their limits: what a tick leaves alone is as it was in order, what
-- waits was in order, and balances stand above their floors.
use Prim.Native.Nat.{ℕ, ◌^◌, ◌≤◌, ◌<◌}
use mathlib.Core.Path.{◌≡◌, ap}
use mathlib.Core.Bool.{true}
use mathlib.Core.List.{List}
use native.Mathlib.Omega.{arith}
use native.Mathlib.Decide.{dec_lt}
use lib.IntN.{ℤ}
use Rattle.numbers.specs.Whole.{plus, minus, within_ℤ}
use Rattle.numbers.proofs.Tests.{by_test}
use Rattle.numbers.proofs.Parts.{zarith, plus_pos, minus_pos}
use Rattle.definitions.specs.Limits.{nodes, last_node, parent_at, level_at, depth_at, balance_at, waiting_at, last_level, greatest_depth, most_waiting}
use Rattle.definitions.specs.Places.{place, rate, balance, waiting, size}
use Rattle.definitions.specs.Tree.{tree_of, there}
use Rattle.definitions.specs.Order.{in_order}
use Rattle.definitions.proofs.Facts.{InOrder, facts}
use Rattle.definitions.proofs.Ports.{ports_small}
use Rattle.definitions.proofs.Cost.{cost_bounds, most_cost}
use Rattle.treelaws.proofs.Floors.{floor_of_node, levels, grounds, under_of}
use Rattle.treelaws.proofs.Rounding.{rate_small}
use Rattle.ticklaws.proofs.Frame.{frame_rate, frame_port}
use Rattle.ticklaws.proofs.Queues.{queues_of}
use Rattle.ticklaws.proofs.Reached.{Reached, reached_first, reached_long}
use Rattle.ticklaws.proofs.Lent.{Settled}
use Rattle.balances.specs.Within.{Within}

-- A table that a tick has reached from a table in order, with balances far from the end of 64 bits.
pub record Way (u : List ℤ) : Type 0 where
  pub from : List ℤ
  pub order : InOrder from
  pub reached : Reached from u
  pub credit : (k : ℕ) → k < nodes → plus (balance u k) ≤ 2 ^ 60

pub depth_small : (t : List ℤ) → InOrder t → (k : ℕ) → k < nodes → (tree_of t).depth k ≤ greatest_depth
unfolding tree_of
depth_small t f k hk =
    by_test (there (tree_of t) k)
    (λ h. omega (arith, zarith, (f.limits k hk h).depth))
    (λ h. omega (arith, ap plus (f.empty k hk h depth_at (omega arith)), plus_pos 0))

pub waiting_few : (t : List ℤ) → InOrder t → (k : ℕ) → k < nodes → plus (place t k waiting_at) ≤ most_waiting
waiting_few t f k hk = omega (arith, zarith, (queues_of t f).few k hk)

module _ (u : List ℤ) (w : Way u) (k : ℕ) (hk : k < nodes) where
  -- A place that a tick leaves alone.
  small : (p low m : ℕ) → p < balance_at → (there (tree_of w.from) k ≡ true → within_ℤ low m (place w.from k p) ≡ true) → plus (place u k p) ≤ m
  small p low m hp limit =
      by_test (there (tree_of w.from) k)
      (λ h. omega (arith, zarith, limit h, ap plus (w.reached.frame.early k p hp)))
      (λ h. omega (arith, ap plus (w.order.empty k hk h p (omega arith)), plus_pos 0, ap plus (w.reached.frame.early k p hp)))

  debt_small : minus (balance u k) ≤ 2 ^ 60
  debt_small =
      let t = w.from in
      by_test (there (tree_of t) k)
      (λ h. omega (arith, floor_of_node (tree_of t) (balance u) (levels t (grounds t w.order)) w.reached.floor k hk h, depth_small t w.order k hk))
      (λ h. omega (arith, ap minus (w.reached.vacant.zero k hk h), minus_pos 0))

  size_small : size u k 0 ≤ greatest_depth
  unfolding size
  size_small =
      let t = w.from in
      elim (dec_lt 0 (waiting u k)) [
        | yes h ↦ omega (arith, most_cost _ _ (w.reached.queues.size k hk 0 h), cost_bounds (size u k 0), depth_small t w.order k hk)
        | no h ↦ omega (arith, ap plus (w.reached.queues.spare k hk 1 (omega arith) (omega arith)), plus_pos 0)
      ]

pub within : (u : List ℤ) → Way u → Within u
unfolding tree_of rate waiting
within u w =
    let f = w.order in
    record {
      long = reached_long w.from u f w.reached;
      parent = λ k hk. omega (arith, small u w k hk parent_at 0 last_node (omega arith) (λ h. (f.limits k hk h).parent));
      level = λ k hk. small u w k hk level_at 0 last_level (omega arith) (λ h. (f.limits k hk h).level);
      depth = λ k hk. small u w k hk depth_at 1 greatest_depth (omega arith) (λ h. (f.limits k hk h).depth);
      rate = λ k hk. omega (arith, frame_rate w.from u w.reached.frame k, rate_small w.from f k hk);
      credit = w.credit;
      debt = debt_small u w;
      waiting = λ k hk. omega (arith, zarith, w.reached.queues.few k hk);
      port = λ k hk. omega (arith, frame_port w.from u w.reached.frame k, ports_small w.from f k);
      size = size_small u w;
    }

-- A table that a tick has reached with no balance above its depth, and so a table in order.
pub settled_way : (t u : List ℤ) → InOrder t → Settled t u → Way u
settled_way t u f s =
    record {
      from = t;
      order = f;
      reached = s.reached;
      credit = λ k hk.
          by_test (there (tree_of t) k)
          (λ h. omega (arith, s.under.most k hk h, depth_small t f k hk))
          (λ h. omega (arith, ap plus (s.reached.vacant.zero k hk h), plus_pos 0));
    }

pub order_within : (t : List ℤ) → in_order t ≡ true → Within t
order_within t h =
    let f = facts t h in
    within t (settled_way t t f (record { reached = reached_first t f; under = under_of t (grounds t f) }))
