-- Cause 16 of join and change share from the table as it came: a table in order of which one node was given a kind and share
-- under class c. Every other stated node stays under the root, and the stated rates there change by what the node adds.
use Prim.Native.Nat.{ℕ, ◌+◌, ◌-◌, ◌≤◌, ◌<◌}
use mathlib.Core.Path.{◌≡◌, sym, ap, ◌∙◌}
use mathlib.Core.Bool.{true, false, not}
use mathlib.Core.Logic.{⊎_elim}
use mathlib.Core.List.{List}
use native.Mathlib.Omega.{arith}
use native.Mathlib.Decide.{ℕ_discrete}
use borrow.Author.Tests.{eqb-true, eqb-false, eq-eqb, ltb-true, ltb-false, not-true}
use lib.Dec.{eqb, ltb}
use lib.IntN.{ℤ}
use Rattle.numbers.specs.Whole.{plus}
use Rattle.numbers.proofs.Tests.{by_test, same_truth, true_false, and_true, and_left, and_right, or_cases, or_true_left, or_true_right}
use Rattle.numbers.proofs.Parts.{plus_pos}
use Rattle.definitions.specs.Limits.{nodes, kind_at, rate_at, root, stated}
use Rattle.definitions.specs.Places.{rate}
use Rattle.definitions.specs.Tree.{tree_of, there, is_stated, child_of, count_if}
use Rattle.definitions.specs.Rates.{kind_share, stated_sum}
use Rattle.definitions.specs.Order.{stated_in_order}
use Rattle.definitions.specs.Calls.{stated_wrong}
use Rattle.definitions.proofs.Facts.{InOrder, Stated, stated_of, of_stated_law}
use Rattle.definitions.proofs.Edits.{Edited, SameNode, edited_others}
use Rattle.definitions.proofs.ShareKinds.{stated_kind_law, own_share, other_share}
use Rattle.treelaws.specs.Stated.{stated_wrong_with}
use Rattle.treelaws.proofs.Children.{child_of_law, counted, uncounted}
use Rattle.calllaws.proofs.Nodes.{there_same}
use Rattle.calllaws.proofs.OneNode.{kinds_changed}

-- What node k added to the stated rates under the root: its share where it is stated, which it is nowhere else.
pub stated_before : (t : List ℤ) (k : ℕ) → InOrder t → k < nodes → (k ≡ root → ⊥) → count_if (child_of (tree_of t) root k) (kind_share (tree_of t) stated) k ≡ kind_share (tree_of t) stated k
unfolding is_stated tree_of
stated_before t k o hk below =
    elim (ℕ_discrete ((tree_of t).kind k) stated) [
      | yes e ↦
          by_test (there (tree_of t) k)
          (λ here.
          counted _ (kind_share (tree_of t) stated) k
          (child_of_law (tree_of t) root k (record { there = here; below = below; parent = o.stated.under k hk here (eq-eqb ((tree_of t).kind k) stated e) })))
          (λ gone. absurd (omega (arith, e, ap plus (o.empty k hk gone kind_at (omega arith)), plus_pos 0)))
      | no ne ↦
          (let nothing = other_share (tree_of t) stated k ne in
          by_test (child_of (tree_of t) root k)
          (λ e. counted _ (kind_share (tree_of t) stated) k e)
          (λ e. uncounted _ (kind_share (tree_of t) stated) k e ∙ sym nothing))
    ]

module _ (t u : List ℤ) (k c kind share : ℕ) (f : ℕ → ℤ) (o : InOrder t) (hk : k < nodes) (edited : Edited t u k f) (below : k ≡ root → ⊥) (here : there (tree_of u) k ≡ true) (parent : (tree_of u).parent k ≡ c) (own_kind : (tree_of u).kind k ≡ kind) (own : (tree_of u).share k ≡ share) where
  others : (j : ℕ) → (j ≡ k → ⊥) → SameNode (tree_of u) (tree_of t) j
  others = edited_others t u k f edited

  disk : rate u root ≡ rate t root
  unfolding rate
  disk = ap plus (edited.others root rate_at (λ e. below (sym e)) (omega arith))

  -- The sum with what the node adds in the place of what it added.
  sum : stated_sum (tree_of u) root + kind_share (tree_of t) stated k ≡ stated_sum (tree_of t) root + count_if (child_of (tree_of u) root k) (kind_share (tree_of u) stated) k
  sum = omega (arith, kinds_changed t u k f hk edited stated root, stated_before t k o hk below)

  -- Stated rates are in order where the node's parent is the root if it is stated, and the sum fits.
  in_order_law : (kind ≡ stated → c ≡ root) → stated_sum (tree_of u) root ≤ rate t root → Stated u
  unfolding is_stated
  in_order_law placed fits =
      record {
        under = λ j hj e s.
            elim (ℕ_discrete j k) [
              | yes same ↦ rw same (parent ∙ placed (sym own_kind ∙ stated_kind_law (tree_of u) k (rw same at s)))
              | no ne ↦ (let same = others j ne in same.parent ∙ o.stated.under j hj (sym (there_same (tree_of u) (tree_of t) j same.sort) ∙ e) (rw same.kind at s))
            ];
        fits = omega (arith, disk);
      }

  unstated : (kind ≡ stated → ⊥) → Stated u
  unstated ne =
      let nothing : kind_share (tree_of u) stated k ≡ 0 = other_share (tree_of u) stated k (λ e. ne (sym own_kind ∙ e)) in
      in_order_law (λ e. absurd (ne e))
      (omega (
        arith,
        o.stated.fits,
        sum,
        by_test (child_of (tree_of u) root k) (λ e. counted _ (kind_share (tree_of u) stated) k e ∙ nothing) (λ e. uncounted _ (kind_share (tree_of u) stated) k e),
      ))

  -- A stated share under the root counts whole.
  with_share_law : kind ≡ stated → c ≡ root → stated_sum (tree_of u) root ≡ stated_sum (tree_of t) root + share - kind_share (tree_of t) stated k
  with_share_law e z =
      omega (
        arith,
        sum,
        own,
        own_share (tree_of u) stated k (own_kind ∙ e),
        counted _ (kind_share (tree_of u) stated) k (child_of_law (tree_of u) root k (record { there = here; below = below; parent = parent ∙ z })),
      )

  -- The cause, by whether the node is stated, stands under the root, and the rates fit.
  refused : stated_in_order u ≡ false → stated_wrong_with t c (kind_share (tree_of t) stated k) kind share ≡ true
  unfolding stated_wrong_with
  refused wrong =
      by_test (eqb kind stated)
      (λ e.
      let is = eqb-true kind stated e in
      and_true _ _ e
      (by_test (eqb c root)
      (λ z.
      let top = eqb-true c root z in
      or_true_right (not (eqb c root)) _
      (by_test (ltb (rate t root) (stated_sum (tree_of t) root + share - kind_share (tree_of t) stated k)) (λ y. y)
      (λ n. absurd (true_false (of_stated_law u (in_order_law (λ s. top) (omega (arith, with_share_law is top, ltb-false (rate t root) _ n)))) wrong))))
      (λ z. or_true_left (not (eqb c root)) _ (ap not z))))
      (λ e. absurd (true_false (of_stated_law u (unstated (eqb-false kind stated e))) wrong))

  accepted : stated_wrong_with t c (kind_share (tree_of t) stated k) kind share ≡ true → Stated u → ⊥
  unfolding stated_wrong_with is_stated
  accepted wrong right =
      let is = eqb-true kind stated (and_left _ _ wrong) in
      let top : c ≡ root = sym parent ∙ right.under k hk here (eq-eqb ((tree_of u).kind k) stated (own_kind ∙ is)) in
      ⊎_elim (λ n. eqb-false c root (not-true _ n) top)
      (λ y. omega (arith, ltb-true (rate t root) (stated_sum (tree_of t) root + share - kind_share (tree_of t) stated k) y, with_share_law is top, right.fits, disk))
      (or_cases (not (eqb c root)) _ (and_right (eqb kind stated) _ wrong))

  pub stated_after : stated_wrong u ≡ stated_wrong_with t c (kind_share (tree_of t) stated k) kind share
  unfolding stated_wrong
  stated_after =
      same_truth _ _ (λ h. refused (not-true _ h))
      (λ h. by_test (stated_in_order u) (λ e. absurd (accepted h (stated_of u e))) (λ e. ap not e))
