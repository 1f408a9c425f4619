-- Leave keeps a table in order: the node has no children and nothing waiting by cause 9, and its balance is not below 0, a
-- class's by cause 10. So the sums under its parent fall or stay.
use Prim.Native.Nat.{ℕ, ◌<◌}
use mathlib.Core.Path.{◌≡◌, sym, ap, ◌∙◌}
use mathlib.Core.Bool.{true, false}
use mathlib.Core.List.{List}
use native.Mathlib.Omega.{arith}
use lib.IntN.{ℤ, pos}
use Rattle.numbers.specs.Whole.{plus, minus}
use Rattle.numbers.proofs.Tests.{by_test, true_false}
use Rattle.numbers.proofs.Parts.{zarith, one_is_zero, plus_pos, minus_pos}
use Rattle.definitions.specs.Limits.{sort_at, rate_at, waiting_at, stated, root}
use Rattle.definitions.specs.Places.{rate, balance, waiting}
use Rattle.definitions.specs.Tree.{tree_of, there, is_class, is_stated, child_of, childless}
use Rattle.definitions.specs.Rates.{renewed}
use Rattle.definitions.specs.Order.{in_order}
use Rattle.definitions.specs.Calls.{cleared, leave_refusal, leave_table}
use Rattle.definitions.proofs.Facts.{Stated, facts}
use Rattle.definitions.proofs.Passed.{LeavePassed, leave_passed}
use Rattle.treelaws.proofs.Children.{no_children_law}
use Rattle.definitions.proofs.Edits.{Edited, SameNode, cleared_edit, cleared_others}
use Rattle.treelaws.specs.Renewal.{RenewsAll}
use Rattle.calllaws.proofs.Nodes.{Ready, ready, there_same, child_kept}
use Rattle.calllaws.proofs.OneNode.{no_child, kinds_fall, sums_fall, edited_ready}
use Rattle.calllaws.proofs.OneChild.{ways_before, renews_below_parent}
use Rattle.calllaws.proofs.Fresh.{zero_unused, unused_node}
use Rattle.calllaws.proofs.Ready.{ready_renewed, kept_in_order}

-- Node k leaves.
module _ (t : List ℤ) (k : ℕ) (passed : LeavePassed t k) (r : Ready t) where
  edited : Edited t (cleared t k) k (λ q. pos 0)
  edited = cleared_edit t k r.long passed.node

  others : (j : ℕ) → (j ≡ k → ⊥) → SameNode (tree_of (cleared t k)) (tree_of t) j
  others = cleared_others t k r.long passed.node

  gone : there (tree_of (cleared t k)) k ≡ false
  gone = zero_unused (cleared t k) k (edited.here sort_at (omega arith))

  no_child_after : (c : ℕ) → child_of (tree_of (cleared t k)) c k ≡ false
  no_child_after c = no_child (tree_of (cleared t k)) c k (λ child. true_false child.there gone)

  -- The stated nodes that stay were there, and their rates sum to no more.
  left_stated : Stated (cleared t k)
  unfolding is_stated rate
  left_stated =
      record {
        under = λ j hj e s.
            let same = others j (λ left. true_false e (rw left gone)) in
            same.parent
            ∙ r.stated.under j hj (sym (there_same (tree_of (cleared t k)) (tree_of t) j same.sort) ∙ e) (rw same.kind at s);
        fits =
            omega (
              arith,
              r.stated.fits,
              kinds_fall t (cleared t k) k (λ q. pos 0) passed.node edited stated root (no_child_after root),
              ap plus (edited.others root rate_at (λ e. passed.below (sym e)) (omega arith)),
            );
      }

  pub not_below_zero : minus (balance t k) ≡ 0
  not_below_zero =
      by_test (is_class (tree_of t) k)
      passed.no_debt
      (λ c. omega (arith, zarith, ((r.node k passed.node).balance passed.there).client c, one_is_zero (balance t k), plus_pos 0, minus_pos 0))

  busy : (i : ℕ) → i < waiting t k → ⊥
  busy i hi = omega (arith, passed.idle)

  left_ready : Ready (cleared t k)
  unfolding waiting
  left_ready =
      edited_ready t (cleared t k) k (λ q. pos 0) passed.node edited passed.below
      (ap plus (edited.here waiting_at (omega arith)) ∙ plus_pos 0 ∙ sym passed.idle)
      (λ i hi. absurd (busy i hi))
      (λ j hj ne e below child.
      let above = others ((tree_of t).parent j) (λ same. no_children_law (tree_of t) k passed.childless j hj (record { there = e; below = below; parent = same })) in
      child_kept (tree_of (cleared t k)) (tree_of t) j (others j ne).parent (others j ne).level above.sort above.level child)
      (λ c hc ne e.
      sums_fall t (cleared t k) k (λ q. pos 0) passed.node edited c
      (no_child_after c)
      (λ was. not_below_zero)
      ((r.node c hc).class e))
      (unused_node (cleared t k) k edited.here)
      left_stated
      r

left : (t : List ℤ) (node : ℤ) → leave_refusal t node ≡ 0 → in_order (renewed (cleared t (plus node))) ≡ true
left t node h =
    let passed = leave_passed t node h in
    ready_renewed (cleared t (plus node)) (left_ready t (plus node) passed (ready t (facts t passed.order)))

-- Renewing below the parent renews everything.
pub leave_renews_below : (t : List ℤ) (node : ℤ) → leave_refusal t node ≡ 0 → RenewsAll (cleared t (plus node)) ((tree_of t).parent (plus node))
leave_renews_below t node h =
    let passed = leave_passed t node h in
    let order = facts t passed.order in
    let r = ready t order in
    renews_below_parent t _ (plus node) _ passed.node (edited t (plus node) passed r) passed.below order
    (ways_before _ (left t node h))
    passed.there
    (λ e. absurd (true_false e (gone t (plus node) passed r)))

-- Accepted or not, and accepted.
pub leave_keeps_order : (t : List ℤ) (node : ℤ) → in_order t ≡ true → in_order (leave_table t node) ≡ true
unfolding leave_table
leave_keeps_order t node = kept_in_order (leave_refusal t node) (renewed (cleared t (plus node))) t (left t node)

pub leave_keeps : (t : List ℤ) (node : ℤ) → leave_refusal t node ≡ 0 → in_order (leave_table t node) ≡ true
leave_keeps t node h = leave_keeps_order t node (leave_passed t node h).order
