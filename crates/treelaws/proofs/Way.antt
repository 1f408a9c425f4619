-- The way up: a node's parent is there, is a class and stands one level above it. So a node on the way from another
-- stands at most at its level, and no node stands twice on a way.
use Prim.Native.Nat.{ℕ, zero, suc, ◌≤◌, ◌<◌}
use mathlib.Core.Path.{◌≡◌, refl, ap, ◌∙◌}
use mathlib.Core.Bool.{true, false}
use mathlib.Core.Logic.{⊎_elim}
use mathlib.Core.List.{List}
use native.Mathlib.Omega.{arith}
use native.Mathlib.Decide.{ℕ_discrete}
use borrow.Author.Tests.{eqb-true, eq-eqb, ne_eqb}
use lib.Dec.{eqb}
use lib.IntN.{ℤ}
use Rattle.numbers.specs.Whole.{plus}
use Rattle.numbers.proofs.Tests.{by_test, or_cases, or_true_left, or_true_right}
use Rattle.numbers.proofs.Parts.{zarith, plus_pos}
use Rattle.definitions.specs.Limits.{nodes, root}
use Rattle.definitions.specs.Tree.{Tree, tree_of, there, is_class, on_way, at_or_above, node_above}
use Rattle.definitions.proofs.Facts.{InOrder, Child}
use Rattle.treelaws.proofs.Children.{class_there}

pub record Ways (tree : Tree) : Type 0 where
  pub child : (k : ℕ) → k < nodes → there tree k ≡ true → (k ≡ 0 → ⊥) → Child tree k
  pub parent : (k : ℕ) → k < nodes → there tree k ≡ true → (k ≡ 0 → ⊥) → tree.parent k < nodes
  pub top : tree.level 0 ≡ 0

pub ways_of : (t : List ℤ) → InOrder t → Ways (tree_of t)
unfolding tree_of
ways_of t f =
    record {
      child = f.child;
      parent = λ k hk h ne. omega (arith, zarith, (f.limits k hk h).parent);
      top = ap plus f.root.level ∙ plus_pos 0;
    }

-- Node k is one of the 64, is there and stands at level l.
pub record At (tree : Tree) (l k : ℕ) : Type 0 where
  pub low : k < nodes
  pub there : there tree k ≡ true
  pub level : tree.level k ≡ l

-- What stands above a node that is not at level 0.
pub record Above (tree : Tree) (l k : ℕ) : Type 0 where
  pub below : k ≡ 0 → ⊥
  pub class : is_class tree (tree.parent k) ≡ true
  pub up : At tree l (tree.parent k)

pub way_first : (tree : Tree) (l k : ℕ) → on_way tree l k k ≡ true
unfolding on_way
way_first tree zero k = eq-eqb k k refl
way_first tree (suc l) k = or_true_left (eqb k k) (on_way tree l (tree.parent k) k) (eq-eqb k k refl)

pub way_up : (tree : Tree) (l k j : ℕ) → on_way tree l (tree.parent k) j ≡ true → on_way tree (suc l) k j ≡ true
unfolding on_way
way_up tree l k j h = or_true_right (eqb j k) (on_way tree l (tree.parent k) j) h

pub way_top : (tree : Tree) (k j : ℕ) → on_way tree 0 k j ≡ true → j ≡ k
unfolding on_way
way_top tree k j h = eqb-true j k h

pub way_cases {ℓ} : {P : Type ℓ} (tree : Tree) (l k j : ℕ) → on_way tree (suc l) k j ≡ true → (j ≡ k → P) → (on_way tree l (tree.parent k) j ≡ true → P) → P
unfolding on_way
way_cases tree l k j h first on = ⊎_elim (λ e. first (eqb-true j k e)) on (or_cases (eqb j k) (on_way tree l (tree.parent k) j) h)

-- The nodes above, up to the root, stand on it.
pub way_above : (tree : Tree) (n l k : ℕ) → n ≤ l → on_way tree l k (node_above tree n k) ≡ true
unfolding node_above
way_above tree zero l k h = way_first tree l k
way_above tree (suc n) zero k h = absurd (omega arith)
way_above tree (suc n) (suc l) k h = way_up tree l k (node_above tree n (tree.parent k)) (way_above tree n l (tree.parent k) (omega arith))

-- The way of any other node than the first.
pub way_other : (tree : Tree) (l k j : ℕ) → (j ≡ k → ⊥) → on_way tree (suc l) k j ≡ on_way tree l (tree.parent k) j
unfolding on_way
way_other tree l k j ne = rw (ne_eqb j k ne)

module _ (tree : Tree) (w : Ways tree) where
  pub above : (l k : ℕ) → At tree (suc l) k → Above tree l k
  above l k a =
      let below : (k ≡ 0 → ⊥) = λ e. omega (arith, w.top, ap tree.level e, a.level) in
      let child = w.child k a.low a.there below in
      record {
        below = below;
        class = child.class;
        up = record { low = w.parent k a.low a.there below; there = class_there tree (tree.parent k) child.class; level = omega (arith, child.level, a.level) };
      }

  -- A node on the way is there.
  pub way_there : (l k j : ℕ) → At tree l k → on_way tree l k j ≡ true → (j < nodes) × (there tree j ≡ true)
  way_there zero k j a h = rw (way_top tree k j h) (a.low, a.there)
  way_there (suc l) k j a h =
      way_cases tree l k j h (λ e. rw e (a.low, a.there)) (λ on. way_there l (tree.parent k) j (above l k a).up on)

  -- It stands at most at the level where the way begins.
  pub way_level : (l k j : ℕ) → At tree l k → on_way tree l k j ≡ true → tree.level j ≤ l
  way_level zero k j a h = omega (arith, ap tree.level (way_top tree k j h), a.level)
  way_level (suc l) k j a h =
      way_cases tree l k j h
      (λ e. omega (arith, ap tree.level e, a.level))
      (λ on. omega (arith, way_level l (tree.parent k) j (above l k a).up on))

  -- So the node where a way begins stands on it once.
  pub way_once : (l k : ℕ) → At tree (suc l) k → on_way tree l (tree.parent k) k ≡ false
  way_once l k a =
      by_test (on_way tree l (tree.parent k) k)
      (λ on. absurd (higher (way_level l (tree.parent k) k (above l k a).up on)))
      (λ off. off)
    where
      higher : tree.level k ≤ l → ⊥
      higher h = omega (arith, a.level)

  -- Strictly above any node stand only classes.
  pub way_class : (l k j : ℕ) → At tree l k → on_way tree l k j ≡ true → (j ≡ k → ⊥) → is_class tree j ≡ true
  way_class zero k j a h ne = absurd (ne (way_top tree k j h))
  way_class (suc l) k j a h ne =
      way_cases tree l k j h (λ e. absurd (ne e))
      (λ on.
      elim (ℕ_discrete j (tree.parent k))
      [ yes e ↦ rw e (above l k a).class | no other ↦ way_class l (tree.parent k) j (above l k a).up on other ])

  -- The root stands on the way from every node that is there.
  pub way_root : (l k : ℕ) → At tree l k → on_way tree l k root ≡ true
  way_root zero k a =
      elim (ℕ_discrete k root) [
        | yes e ↦ rw e (way_first tree 0 root)
        | no ne ↦ absurd (higher (w.child k a.low a.there ne).level)
      ]
    where
      higher : tree.level k ≡ suc (tree.level (tree.parent k)) → ⊥
      higher e = omega (arith, a.level)
  way_root (suc l) k a = way_up tree l k root (way_root l (tree.parent k) (above l k a).up)

  -- The same of the nodes at or above a node that is there.
  pub above_there : (k j : ℕ) → At tree (tree.level k) k → at_or_above tree k j ≡ true → At tree (tree.level j) j
  unfolding at_or_above
  above_there k j a h =
      let on = way_there (tree.level k) k j a h in
      record { low = on.0; there = on.1; level = refl }

  pub above_root : (k : ℕ) → At tree (tree.level k) k → at_or_above tree k root ≡ true
  unfolding at_or_above
  above_root k a = way_root (tree.level k) k a
