-- Below a class. A child of a node stands below the class where the node is the class or stands below it. A node's rate from
-- the root is its rate from any class above it, given that class's rate; so renewing below a class renews everything where
-- every other rate is right already.
use Prim.Native.Nat.{ℕ, zero, suc, ◌-◌, ◌≤◌, ◌<◌}
use mathlib.Core.Path.{◌≡◌, refl, sym, ap, ◌∙◌}
use mathlib.Core.Bool.{true, false, not, ◌||◌}
use mathlib.Core.Logic.{⊎_elim}
use mathlib.Core.List.{List}
use native.Mathlib.Omega.{arith}
use native.Mathlib.Decide.{ℕ_discrete}
use borrow.Author.Tests.{eqb-true, eqb-false, ne_eqb, not-true}
use lib.ListN.{length}
use lib.Dec.{eqb}
use lib.IntN.{ℤ, pos}
use Rattle.numbers.specs.Whole.{plus}
use Rattle.numbers.proofs.Tests.{by_test, same_truth, true_false, or_cases, or_true_left, or_true_right}
use Rattle.numbers.proofs.Every.{head_holds, rest_hold, holds_with, none_left}
use Rattle.numbers.proofs.Parts.{plus_pos}
use Rattle.definitions.specs.Limits.{table_length, header_length, record_length, nodes, rate_at, root}
use Rattle.definitions.specs.Places.{place, header, rate}
use Rattle.definitions.specs.Tree.{Tree, tree_of, there, on_way, at_or_above}
use Rattle.definitions.specs.Rates.{child_rate, rate_at_level, rate_in, renewed}
use Rattle.definitions.specs.Renewal.{below, rate_below, renewed_below}
use Rattle.definitions.proofs.Places.{same_places}
use Rattle.treelaws.specs.Renewal.{RenewedBelow}
use Rattle.treelaws.proofs.Renewed.{Written, written, renewed_length, renewed_header, renewed_place, renewed_rate, renewed_unused, rate_at_root}
use Rattle.treelaws.proofs.Rounding.{rate_of_child}
use Rattle.treelaws.proofs.Way.{Ways, At, above, way_first, way_up, way_top, way_cases, way_level, above_root}

-- Node k is there, is not the class, and has it above.
pub record Below (tree : Tree) (c k : ℕ) : Type 0 where
  pub there : there tree k ≡ true
  pub other : k ≡ c → ⊥
  pub above : on_way tree (tree.level k) k c ≡ true

pub below_facts : (tree : Tree) (c k : ℕ) → below tree c k ≡ true → Below tree c k
unfolding below at_or_above
below_facts tree c k h =
    let h1 = rest_hold _ _ h in
    record {
      there = head_holds _ _ h;
      other = eqb-false k c (not-true (eqb k c) (head_holds _ _ h1));
      above = head_holds _ _ (rest_hold _ _ h1);
    }

below_of : (tree : Tree) (c k : ℕ) → Below tree c k → below tree c k ≡ true
unfolding below at_or_above
below_of tree c k f =
    holds_with _ _ f.there (holds_with _ _ (ap not (ne_eqb k c f.other)) (holds_with _ _ f.above none_left))

-- No node stands below itself.
pub not_below : (tree : Tree) (c : ℕ) → below tree c c ≡ false
not_below tree c = by_test (below tree c c) (λ e. absurd ((below_facts tree c c e).other refl)) (λ e. e)

-- The class's own rate is where its nodes' rates begin.
pub own_rate : (tree : Tree) (c r : ℕ) → rate_below tree c r c ≡ r
unfolding rate_below rate_at_level
own_rate tree c r = let none : tree.level c - tree.level c ≡ 0 = omega arith in rw none

module _ (tree : Tree) (w : Ways tree) where
  -- A node below a class stands at a lower level.
  lower : (l c k : ℕ) → At tree l k → (k ≡ c → ⊥) → on_way tree l k c ≡ true → tree.level c < l
  lower zero c k a ne on = absurd (ne (sym (way_top tree k c on)))
  lower (suc l) c k a ne on =
      way_cases tree l k c on
      (λ e. absurd (ne (sym e)))
      (λ up. omega (arith, way_level tree w l (tree.parent k) c (above tree w l k a).up up))

  pub below_level : (c k : ℕ) → k < nodes → below tree c k ≡ true → tree.level c < tree.level k
  below_level c k hk h =
      let f = below_facts tree c k h in
      lower (tree.level k) c k (record { low = hk; there = f.there; level = refl }) f.other f.above

  -- What stands below a class, by the parent.
  pub below_parent : (l c k : ℕ) → At tree (suc l) k → below tree c k ≡ (eqb (tree.parent k) c || below tree c (tree.parent k))
  below_parent l c k a = same_truth (below tree c k) (eqb p c || below tree c p) to from
    where
      p : ℕ
      p = tree.parent k

      up : At tree l p
      up = (above tree w l k a).up

      to : below tree c k ≡ true → (eqb p c || below tree c p) ≡ true
      to h =
          let f = below_facts tree c k h in
          by_test (eqb p c) (or_true_left (eqb p c) (below tree c p))
          (λ ne.
          way_cases tree l k c (rw a.level at f.above)
          (λ e. absurd (f.other (sym e)))
          (λ on. or_true_right (eqb p c) (below tree c p) (below_of tree c p (record { there = up.there; other = eqb-false p c ne; above = rw up.level on }))))

      -- The class stands on the way from the parent, and so above the node.
      next : on_way tree l p c ≡ true → below tree c k ≡ true
      next on =
          below_of tree c k
          (record {
            there = a.there;
            other = λ e. omega (arith, ap tree.level e, a.level, way_level tree w l p c up on);
            above = rw a.level (way_up tree l k c on);
          })

      from : (eqb p c || below tree c p) ≡ true → below tree c k ≡ true
      from h =
          ⊎_elim
          (λ e. next (rw (eqb-true p c e) (way_first tree l c)))
          (λ e. next (rw up.level at (below_facts tree c p e).above))
          (or_cases (eqb p c) (below tree c p) h)

  pub by_parent {ℓ} : {P : Type ℓ} (l c k : ℕ) → At tree (suc l) k → below tree c k ≡ true → (tree.parent k ≡ c → P) → (below tree c (tree.parent k) ≡ true → P) → P
  by_parent l c k a h class lower =
      ⊎_elim (λ e. class (eqb-true (tree.parent k) c e)) lower
      (or_cases (eqb (tree.parent k) c) (below tree c (tree.parent k)) (sym (below_parent l c k a) ∙ h))

  -- The rate of a node below the class is that of a child.
  pub rate_below_child : (l c r k : ℕ) → At tree (suc l) k → tree.level c ≤ l → rate_below tree c r k ≡ child_rate tree (rate_below tree c r (tree.parent k)) k
  unfolding rate_below rate_at_level
  rate_below_child l c r k a low =
      let up = (above tree w l k a).up in
      let one_more : tree.level k - tree.level c ≡ suc (tree.level (tree.parent k) - tree.level c) = omega (arith, a.level, up.level) in
      rw one_more

  -- From the root it is the same as from the class.
  rate_from : (l disk c k : ℕ) → At tree l k → below tree c k ≡ true → rate_in tree disk k ≡ rate_below tree c (rate_in tree disk c) k
  rate_from zero disk c k a h = absurd (omega (arith, a.level, below_level c k a.low h))
  rate_from (suc l) disk c k a h =
      let up = (above tree w l k a).up in
      rate_of_child tree disk k (omega (arith, a.level, up.level))
      ∙ ap (λ (r : ℕ). child_rate tree r k)
      (by_parent l c k a h
      (λ e. ap (rate_in tree disk) e ∙ sym (own_rate tree c (rate_in tree disk c)) ∙ ap (rate_below tree c (rate_in tree disk c)) (sym e))
      (λ e. rate_from l disk c (tree.parent k) up e))
      ∙ sym (rate_below_child l c (rate_in tree disk c) k a (omega (arith, a.level, below_level c k a.low h)))

  pub rate_from_class : (disk c k : ℕ) → k < nodes → below tree c k ≡ true → rate_in tree disk k ≡ rate_below tree c (rate_in tree disk c) k
  rate_from_class disk c k hk h =
      rate_from (tree.level k) disk c k (record { low = hk; there = (below_facts tree c k h).there; level = refl }) h

-- Renewing below a class writes the rates of the nodes there.
pub renewing_below : (t : List ℤ) (c : ℕ) → Written (below (tree_of t) c) (rate_below (tree_of t) c (rate t c)) t nodes (renewed_below t c)
unfolding renewed_below
renewing_below t c = written (below (tree_of t) c) (rate_below (tree_of t) c (rate t c)) t

-- So a table is what renewing makes of t where it has these rates and else is t.
module _ (t u : List ℤ) (c : ℕ) (long : length t ≡ table_length) (same_length : length u ≡ table_length) where
  pub renewed_below_is : ((p : ℕ) → p < header_length → header t p ≡ header u p) → ((k p : ℕ) → p < record_length → (p ≡ rate_at → ⊥) → place t k p ≡ place u k p) → ((k : ℕ) → k < nodes → below (tree_of t) c k ≡ true → place u k rate_at ≡ pos (rate_below (tree_of t) c (rate t c) k)) → ((k : ℕ) → k < nodes → below (tree_of t) c k ≡ false → place t k rate_at ≡ place u k rate_at) → renewed_below t c ≡ u
  renewed_below_is headers places rates outside =
      same_places (renewed_below t c) u (w.long ∙ long) same_length
      (λ p hp. w.heading p hp ∙ headers p hp)
      (λ k p hk hp. elim (ℕ_discrete p rate_at) [ yes e ↦ rw e (at_rate k hk) | no ne ↦ w.others k p hp ne ∙ places k p hp ne ])
    where
      w : Written (below (tree_of t) c) (rate_below (tree_of t) c (rate t c)) t nodes (renewed_below t c)
      w = renewing_below t c

      at_rate : (k : ℕ) → k < nodes → place (renewed_below t c) k rate_at ≡ place u k rate_at
      at_rate k hk =
          by_test (below (tree_of t) c k)
          (λ e. w.rates long k hk hk e ∙ sym (rates k hk e))
          (λ e. w.passed k e ∙ outside k hk e)

-- What it amounts to: each node below has the rate of a child of its parent.
pub renewed_below_law : (t : List ℤ) (c : ℕ) → length t ≡ table_length → Ways (tree_of t) → RenewedBelow t c (renewed_below t c)
unfolding rate
renewed_below_law t c long w =
    record {
      children = λ k hk e.
          f.rates long k hk hk e
          ∙ ap pos
          (rate_below_child tree w (tree.level k - 1) c (rate t c) k (at k hk e) (omega (arith, below_level tree w c k hk e))
          ∙ ap (λ (r : ℕ). child_rate tree r k) (sym (parent_rate k hk e)));
      own = f.passed c (not_below tree c);
      outside = f.passed;
      others = f.others;
      heading = f.heading;
      long = f.long;
    }
  where
    tree : Tree
    tree = tree_of t

    f : Written (below tree c) (rate_below tree c (rate t c)) t nodes (renewed_below t c)
    f = renewing_below t c

    at : (k : ℕ) → k < nodes → below tree c k ≡ true → At tree (suc (tree.level k - 1)) k
    at k hk e = record { low = hk; there = (below_facts tree c k e).there; level = omega (arith, below_level tree w c k hk e) }

    -- The parent is the class or stands below it.
    parent_rate : (k : ℕ) → k < nodes → below tree c k ≡ true → rate (renewed_below t c) (tree.parent k) ≡ rate_below tree c (rate t c) (tree.parent k)
    parent_rate k hk e =
        by_parent tree w (tree.level k - 1) c k (at k hk e) e
        (λ same. ap (rate (renewed_below t c)) same ∙ ap plus (f.passed c (not_below tree c)) ∙ sym (own_rate tree c (rate t c)) ∙ ap (rate_below tree c (rate t c)) (sym same))
        (λ lower. ap plus (f.rates long (tree.parent k) (above tree w (tree.level k - 1) k (at k hk e)).up.low (above tree w (tree.level k - 1) k (at k hk e)).up.low lower) ∙ plus_pos _)

-- Where every rate is right that does not stand below the class, renewing below it renews everything.
pub renewed_by_class : (t : List ℤ) (c : ℕ) → length t ≡ table_length → Ways (tree_of t) → c < nodes → there (tree_of t) c ≡ true → ((k : ℕ) → k < nodes → there (tree_of t) k ≡ true → below (tree_of t) c k ≡ false → place t k rate_at ≡ pos (rate_in (tree_of t) (rate t root) k)) → renewed_below t c ≡ renewed t
unfolding rate
renewed_by_class t c long w hc here right =
    renewed_below_is t (renewed t) c long (renewed_length t ∙ long)
    (λ p hp. sym (renewed_header t p hp))
    (λ k p hp ne. sym (renewed_place t k p hp ne))
    (λ k hk e. renewed_rate t long k hk (below_facts (tree_of t) c k e).there ∙ ap pos (rate_from_class (tree_of t) w (rate t root) c k hk e ∙ ap (λ (r : ℕ). rate_below (tree_of t) c r k) (sym own)))
    (λ k hk e. by_test (there (tree_of t) k) (λ h. right k hk h e ∙ sym (renewed_rate t long k hk h)) (λ h. sym (renewed_unused t k h)))
  where
    own : rate t c ≡ rate_in (tree_of t) (rate t root) c
    own = ap plus (right c hc here (not_below (tree_of t) c)) ∙ plus_pos (rate_in (tree_of t) (rate t root) c)

-- Below the root stands every other node, so renewing below it renews everything.
pub renewed_by_root : (t : List ℤ) → length t ≡ table_length → Ways (tree_of t) → there (tree_of t) root ≡ true → place t root rate_at ≡ pos (rate t root) → renewed_below t root ≡ renewed t
unfolding at_or_above
renewed_by_root t long w here natural =
    renewed_by_class t root long w (omega arith) here
    (λ k hk e out.
    elim (ℕ_discrete k root) [
      | yes same ↦ rw same (natural ∙ ap pos (sym (rate_at_root (tree_of t) (rate t root) root w.top)))
      | no ne ↦
          absurd (true_false (below_of (tree_of t) root k (record { there = e; other = ne; above = above_root (tree_of t) w k (record { low = hk; there = e; level = refl }) })) out)
    ])
