-- Where each rate is the one that its class's rate gives it, all are those of document 01, by going down the levels; and
-- those of document 01 are such.
use Prim.Native.Nat.{ℕ, zero, suc, ◌+◌, ◌*◌, ◌/◌, ◌≤◌, ◌<◌}
use mathlib.Core.Path.{◌≡◌, refl, sym, ap, ◌∙◌}
use mathlib.Core.Bool.{true, ◌&&◌}
use mathlib.Core.Logic.{⊎_elim}
use mathlib.Core.List.{List}
use native.Mathlib.Omega.{arith}
use native.Mathlib.Nat.{le-div_iff_mul-le}
use native.Mathlib.Decide.{dec_lt, ℕ_discrete}
use borrow.Author.Tests.{eqb-true, eqb-false, eq-eqb, ne_eqb, leb-true, le-leb, ltb-true, lt-ltb}
use lib.Dec.{eqb, leb, ltb}
use lib.IntN.{ℤ, pos}
use Rattle.numbers.specs.Whole.{plus}
use Rattle.numbers.specs.Below.{all_below}
use Rattle.numbers.proofs.Tests.{by_test, same_truth, and_true, and_left, and_right, or_cases, or_true_left, or_true_right}
use Rattle.numbers.proofs.All.{all_intro}
use Rattle.numbers.proofs.Parts.{plus_pos, within_parts, pos_of_within, same_eq, eq_same}
use Rattle.definitions.specs.Limits.{nodes, root, rate_at, greatest_rate}
use Rattle.definitions.specs.Places.{place, rate}
use Rattle.definitions.specs.Tree.{tree_of, there, test_if, each_node}
use Rattle.definitions.specs.Rates.{child_rate, rate_in}
use Rattle.definitions.specs.Order.{rate_in_order}
use Rattle.definitions.proofs.Facts.{each_at, at_each, at_test}
use Rattle.treelaws.proofs.Children.{class_there}
use Rattle.treelaws.proofs.Renewed.{rate_at_root}
use Rattle.treelaws.proofs.Rounding.{rate_of_child}
use Rattle.treelaws.proofs.Way.{At, above}
use Rattle.sums.proofs.Rated.{rated_ways}
use Rattle.ratetest.specs.Following.{rate_follows, Testable}

-- A quotient by multiplication: r is n / d rounded down just where r x d is at most n and n less than d more.
module _ (r n d : ℕ) (some : 0 < d) where
  least : r ≤ n / d → r * d ≤ n
  least h = (le-div_iff_mul-le {k = d} {x = r} {y = n} some).0 h

  at_least : r * d ≤ n → r ≤ n / d
  at_least h = (le-div_iff_mul-le {k = d} {x = r} {y = n} some).1 h

  next : suc r ≤ n / d → r * d + d ≤ n
  next h = omega (arith, (le-div_iff_mul-le {k = d} {x = suc r} {y = n} some).0 h)

  at_next : r * d + d ≤ n → suc r ≤ n / d
  at_next h = (le-div_iff_mul-le {k = d} {x = suc r} {y = n} some).1 (omega arith)

  pub quotient_by_product : (leb (r * d) n && ltb n (r * d + d)) ≡ eqb r (n / d)
  quotient_by_product =
      same_truth _ _
      (λ h.
      let low = at_least (leb-true (r * d) n (and_left _ _ h)) in
      let high = ltb-true n (r * d + d) (and_right (leb (r * d) n) _ h) in
      eq-eqb r (n / d) (elim (dec_lt r (n / d)) [ yes more ↦ absurd (omega (arith, next more)) | no most ↦ omega arith ]))
      (λ h.
      let same = eqb-true r (n / d) h in
      and_true _ _ (le-leb (r * d) n (least (omega arith)))
      (lt-ltb n (r * d + d) (elim (dec_lt n (r * d + d)) [ yes less ↦ less | no more ↦ absurd (omega (arith, at_next (omega arith))) ])))

-- The root has no class, so nothing is asked of it.
pub root_follows : (t : List ℤ) → all_below 1 (λ k. test_if (there (tree_of t) k) (rate_follows t) k) ≡ true
unfolding rate_follows
root_follows t = all_intro 1 _ (λ k hk. at_test (there (tree_of t) k) (rate_follows t) k (λ e. or_true_left (eqb k root) _ (eq-eqb k root (omega arith))))

pub child_follows : (t : List ℤ) (k : ℕ) → 0 < k → rate_follows t k ≡ eqb (rate t k) (child_rate (tree_of t) (rate t ((tree_of t).parent k)) k)
unfolding rate_follows
child_follows t k h = rw (ne_eqb k root (λ e. omega arith))

module _ (t : List ℤ) (f : Testable t) where
  -- The rate that its class's gives, as a fact and as the test.
  follows_at : (k : ℕ) → (k ≡ root → ⊥) → rate_follows t k ≡ true → rate t k ≡ child_rate (tree_of t) (rate t ((tree_of t).parent k)) k
  unfolding rate_follows
  follows_at k ne h =
      ⊎_elim (λ e. absurd (ne (eqb-true k root e))) (λ e. eqb-true (rate t k) _ e)
      (or_cases (eqb k root) _ h)

  at_follows : (k : ℕ) → ((k ≡ root → ⊥) → rate t k ≡ child_rate (tree_of t) (rate t ((tree_of t).parent k)) k) → rate_follows t k ≡ true
  unfolding rate_follows
  at_follows k h =
      by_test (eqb k root) (or_true_left (eqb k root) _) (λ e. or_true_right (eqb k root) _ (eq-eqb (rate t k) _ (h (eqb-false k root e))))

  -- All follow: then all are right.
  right : ((k : ℕ) → k < nodes → there (tree_of t) k ≡ true → (k ≡ root → ⊥) → rate t k ≡ child_rate (tree_of t) (rate t ((tree_of t).parent k)) k) → (l k : ℕ) → At (tree_of t) l k → rate t k ≡ rate_in (tree_of t) (rate t root) k
  right all zero k a =
      elim (ℕ_discrete k root) [
        | yes z ↦ rw z (sym (rate_at_root (tree_of t) (rate t root) root f.rated.top))
        | no ne ↦ absurd (let p = f.rated.node k a.low a.there ne in omega (arith, p.level, a.level))
      ]
  right all (suc l) k a =
      let up = above (tree_of t) (rated_ways t root f.rated) l k a in
      all k a.low a.there up.below
      ∙ ap (λ (r : ℕ). child_rate (tree_of t) r k) (right all l ((tree_of t).parent k) up.up)
      ∙ sym (rate_of_child (tree_of t) (rate t root) k (f.rated.node k a.low a.there up.below).level)

  pub follow_right : each_node (tree_of t) (rate_follows t) ≡ each_node (tree_of t) (rate_in_order t)
  unfolding each_node rate_in_order rate
  follow_right =
      same_truth _ _
      (λ h. at_each (there (tree_of t)) (rate_in_order t)
      (λ k hk e.
      eq_same _ _
      (sym (pos_of_within 0 greatest_rate (place t k rate_at) (f.within k hk e))
      ∙ ap pos (right (λ j hj d ne. follows_at j ne (each_at (there (tree_of t)) (rate_follows t) h j hj d)) ((tree_of t).level k) k (record { low = hk; there = e; level = refl })))))
      (λ h. at_each (there (tree_of t)) (rate_follows t)
      (λ k hk e.
      at_follows k
      (λ ne.
      let p = f.rated.node k hk e ne in
      let stands : (j : ℕ) → j < nodes → there (tree_of t) j ≡ true → rate t j ≡ rate_in (tree_of t) (rate t root) j = λ j hj d. ap plus (same_eq _ _ (each_at (there (tree_of t)) (rate_in_order t) h j hj d)) ∙ plus_pos _ in
      stands k hk e
      ∙ rate_of_child (tree_of t) (rate t root) k p.level
      ∙ ap (λ (r : ℕ). child_rate (tree_of t) r k) (sym (stands ((tree_of t).parent k) p.parent (class_there (tree_of t) ((tree_of t).parent k) p.class))))))

  -- The rates that a node's test needs.
  pub rate_le : (k : ℕ) → k < nodes → there (tree_of t) k ≡ true → rate t k ≤ greatest_rate
  unfolding rate
  rate_le k hk e = omega (arith, within_parts 0 greatest_rate (place t k rate_at) (f.within k hk e))
