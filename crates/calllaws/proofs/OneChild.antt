-- A table in order of which one child of class c was edited: its sums differ under c alone, so every node that does not stand
-- below c has the rate that it had, and renewing below c renews everything.
use Prim.Native.Nat.{ℕ, zero, suc, ◌<◌}
use mathlib.Core.Path.{◌≡◌, refl, sym, ap, ◌∙◌, subst}
use mathlib.Core.Bool.{true, false}
use mathlib.Core.List.{List}
use native.Mathlib.Omega.{arith}
use borrow.Author.Tests.{eqb-false, eq-eqb}
use lib.Dec.{eqb}
use lib.IntN.{ℤ, pos}
use Rattle.numbers.specs.Whole.{plus}
use Rattle.numbers.proofs.Tests.{true_false, or_true_left, or_false_left, or_false_right}
use Rattle.definitions.specs.Limits.{nodes, rate_at, fixed, weighted, stated, root}
use Rattle.definitions.specs.Places.{place, rate}
use Rattle.definitions.specs.Tree.{Tree, tree_of, there, is_fixed, is_stated, child_of}
use Rattle.definitions.specs.Rates.{kind_share, kind_sum, divided_rate, child_rate, rate_in, renewed}
use Rattle.definitions.specs.Renewal.{below}
use Rattle.definitions.specs.Order.{in_order}
use Rattle.definitions.proofs.Facts.{InOrder, facts}
use Rattle.definitions.proofs.Edits.{Edited, SameNode, edited_others}
use Rattle.treelaws.proofs.Renewed.{rate_at_root, renewed_tree}
use Rattle.treelaws.proofs.Children.{class_there, uncounted}
use Rattle.treelaws.proofs.Rounding.{rate_of_child, rate_small}
use Rattle.treelaws.proofs.Way.{Ways, ways_of, At, Above, above}
use Rattle.treelaws.specs.Renewal.{RenewsAll}
use Rattle.treelaws.proofs.Below.{below_parent, renewed_by_class}
use Rattle.calllaws.proofs.Nodes.{there_same}
use Rattle.calllaws.proofs.OneNode.{no_child, kinds_changed}

-- A table that is in order once its rates are renewed has the ways of a tree.
pub ways_before : (u : List ℤ) → in_order (renewed u) ≡ true → Ways (tree_of u)
ways_before u h = subst Ways (renewed_tree u) (ways_of (renewed u) (facts (renewed u) h))

-- A child's rate goes by its own share and the sums under its parent.
child_rate_same : (new old : Tree) (j r : ℕ) → SameNode new old j → ((kind : ℕ) → kind_sum new kind (new.parent j) ≡ kind_sum old kind (new.parent j)) → child_rate new r j ≡ child_rate old r j
unfolding child_rate divided_rate is_fixed is_stated
child_rate_same new old j r same sums = rw (← same.parent, same.kind, same.share, sums fixed, sums weighted, sums stated)

module _ (t u : List ℤ) (k c : ℕ) (f : ℕ → ℤ) (hk : k < nodes) (edited : Edited t u k f) (below_root : k ≡ 0 → ⊥) (o : InOrder t) (w : Ways (tree_of u)) (was : there (tree_of t) k ≡ true → (tree_of t).parent k ≡ c) (is : there (tree_of u) k ≡ true → (tree_of u).parent k ≡ c) where
  others : (j : ℕ) → (j ≡ k → ⊥) → SameNode (tree_of u) (tree_of t) j
  others = edited_others t u k f edited

  -- Under another class the node is no child, before or after.
  no_child_before : (p : ℕ) → (p ≡ c → ⊥) → child_of (tree_of t) p k ≡ false
  no_child_before p ne = no_child (tree_of t) p k (λ child. ne (sym child.parent ∙ was child.there))

  no_child_after : (p : ℕ) → (p ≡ c → ⊥) → child_of (tree_of u) p k ≡ false
  no_child_after p ne = no_child (tree_of u) p k (λ child. ne (sym child.parent ∙ is child.there))

  same_sums : (p : ℕ) → (p ≡ c → ⊥) → (kind : ℕ) → kind_sum (tree_of u) kind p ≡ kind_sum (tree_of t) kind p
  same_sums p ne kind =
      omega (
        arith,
        kinds_changed t u k f hk edited kind p,
        uncounted _ (kind_share (tree_of t) kind) k (no_child_before p ne),
        uncounted _ (kind_share (tree_of u) kind) k (no_child_after p ne),
      )

  -- Where it is there afterwards, it stands below c.
  stands_below : there (tree_of u) k ≡ true → below (tree_of u) c k ≡ true
  stands_below e =
      let l = (tree_of u).level ((tree_of u).parent k) in
      below_parent (tree_of u) w l c k (record { low = hk; there = e; level = (w.child k hk e below_root).level })
      ∙ or_true_left (eqb ((tree_of u).parent k) c) _ (eq-eqb _ _ (is e))

  another : (j : ℕ) → there (tree_of u) j ≡ true → below (tree_of u) c j ≡ false → j ≡ k → ⊥
  another j e out same = true_false (stands_below (rw same at e)) (rw same at out)

  was_there : (j : ℕ) → there (tree_of u) j ≡ true → below (tree_of u) c j ≡ false → there (tree_of t) j ≡ true
  was_there j e out = sym (there_same (tree_of u) (tree_of t) j (others j (another j e out)).sort) ∙ e

  same_rate : (l disk j : ℕ) → At (tree_of u) l j → below (tree_of u) c j ≡ false → rate_in (tree_of u) disk j ≡ rate_in (tree_of t) disk j
  same_rate zero disk j a out =
      let node = others j (another j a.there out) in
      rate_at_root (tree_of u) disk j a.level ∙ sym (rate_at_root (tree_of t) disk j (sym node.level ∙ a.level))
  same_rate (suc l) disk j a out =
      let node = others j (another j a.there out) in
      let up : Above (tree_of u) l j = above (tree_of u) w l j a in
      let outside = sym (below_parent (tree_of u) w l c j a) ∙ out in
      let other = eqb-false ((tree_of u).parent j) c (or_false_left (eqb ((tree_of u).parent j) c) _ outside) in
      let old = o.child j a.low (was_there j a.there out) up.below in
      rate_of_child (tree_of u) disk j (omega (arith, a.level, up.up.level))
      ∙ child_rate_same (tree_of u) (tree_of t) j _ node (same_sums ((tree_of u).parent j) other)
      ∙ ap (λ (r : ℕ). child_rate (tree_of t) r j)
      (same_rate l disk ((tree_of u).parent j) up.up (or_false_right (eqb ((tree_of u).parent j) c) _ outside) ∙ ap (rate_in (tree_of t) disk) node.parent)
      ∙ sym (rate_of_child (tree_of t) disk j old.level)

  right : (j : ℕ) → j < nodes → there (tree_of u) j ≡ true → below (tree_of u) c j ≡ false → place u j rate_at ≡ pos (rate_in (tree_of u) (rate u root) j)
  unfolding rate
  right j hj e out =
      edited.others j rate_at (another j e out) (omega arith)
      ∙ o.rates j hj (was_there j e out)
      ∙ ap pos (sym (same_rate ((tree_of u).level j) (rate t root) j (record { low = hj; there = e; level = refl }) out))
      ∙ ap (λ (z : ℤ). pos (rate_in (tree_of u) (plus z) j)) (sym (edited.others root rate_at (λ same. below_root (sym same)) (omega arith)))

  pub renews_below : c < nodes → (c ≡ k → ⊥) → there (tree_of t) c ≡ true → RenewsAll u c
  unfolding rate
  renews_below low other here =
      let there_after = there_same (tree_of u) (tree_of t) c (others c other).sort ∙ here in
      record {
        low = low;
        there = there_after;
        small = omega (arith, rate_small t o c low, ap plus (edited.others c rate_at other (omega arith)));
        all = renewed_by_class u c edited.long w low there_after right;
      }

-- The same of a node that was there: the class is its parent.
pub renews_below_parent : (t u : List ℤ) (k : ℕ) (f : ℕ → ℤ) → k < nodes → Edited t u k f → (k ≡ 0 → ⊥) → InOrder t → Ways (tree_of u) → there (tree_of t) k ≡ true → (there (tree_of u) k ≡ true → (tree_of u).parent k ≡ (tree_of t).parent k) → RenewsAll u ((tree_of t).parent k)
renews_below_parent t u k f hk edited below_root o w here is =
    let child = o.child k hk here below_root in
    renews_below t u k ((tree_of t).parent k) f hk edited below_root o w (λ e. refl) is
    ((ways_of t o).parent k hk here below_root)
    (λ same. omega (arith, ap (tree_of t).level same, child.level))
    (class_there (tree_of t) ((tree_of t).parent k) child.class)
