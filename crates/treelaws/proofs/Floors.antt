-- The floor under balances. A client's balance is at least 0, a class's at least the sum of its children's less its own
-- depth. So a class at level l stands at most 4 - l of its own depths below 0, by induction from level 3 upward: the
-- children's floors sum to at most 3 - l times their depths, and these to at most the class's own.
use Prim.Native.Nat.{ℕ, zero, suc, ◌+◌, ◌*◌, ◌-◌, ◌≤◌, ◌<◌}
use mathlib.Core.Path.{◌≡◌, ap}
use mathlib.Core.Bool.{true, false}
use mathlib.Core.List.{List}
use native.Mathlib.Omega.{arith}
use native.Mathlib.Nat.{mul-le-mul_right, sub-le}
use lib.IntN.{ℤ, pos}
use Rattle.numbers.specs.Whole.{plus, minus}
use Rattle.numbers.proofs.Tests.{by_test}
use Rattle.numbers.proofs.Parts.{zarith, add_parts, one_is_zero}
use Rattle.definitions.specs.Limits.{nodes, last_class_level, last_level, grain_scale, entry_length}
use Rattle.definitions.specs.Places.{balance, depth_grains}
use Rattle.definitions.specs.Tree.{Tree, tree_of, there, is_class, sum_under}
use Rattle.definitions.proofs.Facts.{InOrder, Child, Class, Balance}
use Rattle.treelaws.proofs.Children.{ChildOf, class_there, under_le, under_scale, balances_parts}

-- What the floor needs of a tree.
pub record Levels (tree : Tree) : Type 0 where
  pub child : (k : ℕ) → k < nodes → there tree k ≡ true → (k ≡ 0 → ⊥) → Child tree k
  pub class : (c : ℕ) → c < nodes → is_class tree c ≡ true → tree.level c ≤ last_class_level
  pub depths : (c : ℕ) → c < nodes → is_class tree c ≡ true → sum_under tree c tree.depth ≤ tree.depth c

-- Node k stands at least an amount above its floor.
pub record Room (tree : Tree) (B : ℕ → ℤ) (amount k : ℕ) : Type 0 where
  pub class : is_class tree k ≡ true → sum_under tree k (λ j. plus (B j)) + minus (B k) + amount ≤ sum_under tree k (λ j. minus (B j)) + plus (B k) + tree.depth k * grain_scale
  pub client : is_class tree k ≡ false → minus (B k) + amount ≤ plus (B k)

pub record Floor (tree : Tree) (B : ℕ → ℤ) : Type 0 where
  pub room : (k : ℕ) → k < nodes → there tree k ≡ true → Room tree B 0 k

-- No balance exceeds its depth.
pub record Under (tree : Tree) (B : ℕ → ℤ) : Type 0 where
  pub most : (k : ℕ) → k < nodes → there tree k ≡ true → plus (B k) ≤ tree.depth k * grain_scale

-- Then a class's children have at most its depth together.
pub children_under : (tree : Tree) (B : ℕ → ℤ) → Levels tree → Under tree B → (c : ℕ) → c < nodes → is_class tree c ≡ true → sum_under tree c (λ k. plus (B k)) ≤ tree.depth c * grain_scale
children_under tree B L U c hc e =
    omega (
      arith,
      under_le tree c (λ k. plus (B k)) (λ k. tree.depth k * grain_scale) (λ k hk child. U.most k hk child.there),
      under_scale tree c tree.depth grain_scale,
      L.depths c hc e,
    )

-- A client is not below 0.
client_floor : (tree : Tree) (B : ℕ → ℤ) (k : ℕ) → Room tree B 0 k → is_class tree k ≡ false → minus (B k) ≡ 0
client_floor tree B k r e = omega (arith, r.client e, one_is_zero (B k))

-- Where no child is more than m of its depths below 0, the class is not more than m + 1.
step : (tree : Tree) (B : ℕ → ℤ) → Levels tree → Floor tree B → (m c : ℕ) → c < nodes → is_class tree c ≡ true → ((k : ℕ) → k < nodes → ChildOf tree c k → minus (B k) ≤ tree.depth k * (grain_scale * m)) → minus (B c) ≤ tree.depth c * (grain_scale * suc m)
step tree B L F m c hc e h =
    omega (
      arith,
      (F.room c hc (class_there tree c e)).class e,
      under_le tree c (λ k. minus (B k)) (λ k. tree.depth k * (grain_scale * m)) h,
      under_scale tree c tree.depth (grain_scale * m),
      mul-le-mul_right (grain_scale * m) (L.depths c hc e),
      one_is_zero (B c),
    )

-- Class c, n levels above level 4, where no class stands.
floor_at : (tree : Tree) (B : ℕ → ℤ) → Levels tree → Floor tree B → (n c : ℕ) → c < nodes → is_class tree c ≡ true → n + tree.level c ≡ last_level → minus (B c) ≤ tree.depth c * (grain_scale * n)
floor_at tree B L F zero c hc e l = omega (arith, L.class c hc e)
floor_at tree B L F (suc n) c hc e l =
    step tree B L F n c hc e
    (λ k hk child.
    by_test (is_class tree k)
    (λ d. floor_at tree B L F n k hk d (omega (arith, (L.child k hk child.there child.below).level, ap tree.level child.parent)))
    (λ d. omega (arith, client_floor tree B k (F.room k hk child.there) d)))

-- A class's balance is at least -(4 - level) of its depths.
pub floor_of_class : (tree : Tree) (B : ℕ → ℤ) → Levels tree → Floor tree B → (c : ℕ) → c < nodes → is_class tree c ≡ true → minus (B c) ≤ (last_level - tree.level c) * (tree.depth c * grain_scale)
floor_of_class tree B L F c hc e =
    omega (arith, floor_at tree B L F (last_level - tree.level c) c hc e (omega (arith, L.class c hc e)))

pub floor_of_node : (tree : Tree) (B : ℕ → ℤ) → Levels tree → Floor tree B → (k : ℕ) → k < nodes → there tree k ≡ true → minus (B k) ≤ entry_length * (tree.depth k * grain_scale)
floor_of_node tree B L F k hk h =
    by_test (is_class tree k)
    (λ e. omega (arith, floor_of_class tree B L F k hk e, mul-le-mul_right (tree.depth k * grain_scale) (sub-le last_level (tree.level k))))
    (λ e. omega (arith, client_floor tree B k (F.room k hk h) e))

-- The facts of a table that the floor rests on, as the in-order test gives them clause by clause.
pub record Grounds (t : List ℤ) : Type 0 where
  pub child : (k : ℕ) → k < nodes → there (tree_of t) k ≡ true → (k ≡ 0 → ⊥) → Child (tree_of t) k
  pub class : (c : ℕ) → c < nodes → is_class (tree_of t) c ≡ true → Class t c
  pub balances : (k : ℕ) → k < nodes → there (tree_of t) k ≡ true → Balance t k

pub grounds : (t : List ℤ) → InOrder t → Grounds t
grounds t f = record { child = f.child; class = f.class; balances = f.balances }

pub levels : (t : List ℤ) → Grounds t → Levels (tree_of t)
levels t f = record { child = f.child; class = λ c hc e. (f.class c hc e).level; depths = λ c hc e. (f.class c hc e).depths }

-- The line of a class and of a client, in parts.
pub balance_room : (t : List ℤ) (k : ℕ) → Balance t k → Room (tree_of t) (balance t) 0 k
unfolding depth_grains tree_of plus minus
balance_room t k f =
    record {
      class = λ e. omega (arith, zarith, f.class e, balances_parts t k, add_parts (balance t k) (pos (depth_grains t k)));
      client = λ e. omega (arith, zarith, f.client e);
    }

pub room_balance : (t : List ℤ) (k : ℕ) → Room (tree_of t) (balance t) 0 k → plus (balance t k) ≤ depth_grains t k → Balance t k
unfolding depth_grains tree_of plus minus
room_balance t k r h =
    record {
      most = omega (arith, zarith);
      class = λ e. omega (arith, zarith, r.class e, balances_parts t k, add_parts (balance t k) (pos (depth_grains t k)));
      client = λ e. omega (arith, zarith, r.client e);
    }

pub floor_of : (t : List ℤ) → Grounds t → Floor (tree_of t) (balance t)
floor_of t f = record { room = λ k hk h. balance_room t k (f.balances k hk h) }

pub under_of : (t : List ℤ) → Grounds t → Under (tree_of t) (balance t)
unfolding depth_grains tree_of plus minus
under_of t f = record { most = λ k hk h. omega (arith, zarith, (f.balances k hk h).most, one_is_zero (balance t k)) }

pub class_floor : (t : List ℤ) → Grounds t → (k : ℕ) → k < nodes → is_class (tree_of t) k ≡ true → minus (balance t k) ≤ (last_level - (tree_of t).level k) * depth_grains t k
unfolding depth_grains tree_of
class_floor t f k hk e = floor_of_class (tree_of t) (balance t) (levels t f) (floor_of t f) k hk e

pub node_floor : (t : List ℤ) → Grounds t → (k : ℕ) → k < nodes → there (tree_of t) k ≡ true → minus (balance t k) ≤ last_level * depth_grains t k
unfolding depth_grains tree_of
node_floor t f k hk h = floor_of_node (tree_of t) (balance t) (levels t f) (floor_of t f) k hk h
