-- The kinds, shares and rates that a table had make no difference to set minute: it compares none of them, and writes over all of them.
use Prim.Native.Nat.{ℕ}
use mathlib.Core.Path.{◌≡◌, sym, ap, ◌∙◌}
use mathlib.Core.Bool.{true, false}
use mathlib.Core.List.{List}
use native.Mathlib.Omega.{arith}
use native.Mathlib.Decide.{ℕ_discrete}
use lib.IntN.{ℤ}
use Rattle.numbers.specs.Whole.{plus}
use Rattle.numbers.proofs.All.{all_cong}
use Rattle.definitions.specs.Limits.{nodes, root, sort_at, parent_at, kind_at, share_at, depth_at, rate_at}
use Rattle.definitions.specs.Places.{rate}
use Rattle.definitions.specs.Tree.{Tree, tree_of, there}
use Rattle.definitions.specs.Rates.{renewed}
use Rattle.definitions.specs.Order.{in_order}
use Rattle.definitions.proofs.Facts.{InOrder, facts}
use Rattle.definitions.proofs.Refusals.{kept_new}
use Rattle.treelaws.proofs.Renewed.{same_renewed}
use Rattle.calllaws.proofs.Nodes.{there_same}
use Rattle.hourlaws.specs.Windows.{tree_at}
use Rattle.hourlaws.specs.SetMinute.{planned, same_node, same_shape, reshared_as, minute_table, timetable_refusal, set_minute_refusal, set_minute_table}
use Rattle.hourlaws.specs.Laws.{OnlyShares, SetAlike}
use Rattle.hourlaws.proofs.Reshared.{Reshared, all_reshared}

module _ (t u : List ℤ) (o : OnlyShares t u) where
  same_shape_law : (p : List ℤ) → same_shape u p ≡ same_shape t p
  unfolding same_shape same_node
  same_shape_law p =
      rw (
        o.disk,
        all_cong nodes (same_node u p) (same_node t p)
            (λ k hk.
            rw (o.places k sort_at (omega arith) (omega arith) (omega arith) (omega arith), o.places k parent_at (omega arith) (omega arith) (omega arith) (omega arith), o.places k depth_at (omega arith) (omega arith) (omega arith) (omega arith))),
      )

  -- A tree's kinds and shares written into either, and every rate renewed.
  pub same_after : (tree : Tree) → InOrder t → InOrder u → renewed (reshared_as tree u) ≡ renewed (reshared_as tree t)
  unfolding rate tree_of
  same_after tree ot ou =
      same_renewed (reshared_as tree u) (reshared_as tree t) a.long b.long
      (λ p hp. a.heading p hp ∙ o.header p hp ∙ sym (b.heading p hp))
      (λ k p hk hp n6.
      elim (ℕ_discrete p kind_at) [
        | yes e ↦ rw e (a.kind k hk ∙ sym (b.kind k hk))
        | no n3 ↦
            elim (ℕ_discrete p share_at) [
              | yes e ↦ rw e (a.share k hk ∙ sym (b.share k hk))
              | no n4 ↦ a.rest k p hp n3 n4 ∙ o.places k p hp n3 n4 n6 ∙ sym (b.rest k p hp n3 n4)
            ]
      ])
      (ap plus (a.rest root rate_at (omega arith) (omega arith) (omega arith) ∙ o.disk ∙ sym (b.rest root rate_at (omega arith) (omega arith) (omega arith))))
      (λ k hk e.
      let gone : there (tree_of u) k ≡ false = there_same (tree_of u) (tree_of (reshared_as tree u)) k (sym (ap plus (a.rest k sort_at (omega arith) (omega arith) (omega arith)))) ∙ e in
      let gone_too : there (tree_of t) k ≡ false = there_same (tree_of t) (tree_of u) k (sym (ap plus (o.places k sort_at (omega arith) (omega arith) (omega arith) (omega arith)))) ∙ gone in
      a.rest k rate_at (omega arith) (omega arith) (omega arith)
      ∙ ou.empty k hk gone rate_at (omega arith)
      ∙ sym (ot.empty k hk gone_too rate_at (omega arith))
      ∙ sym (b.rest k rate_at (omega arith) (omega arith) (omega arith)))
    where
      a : Reshared tree u nodes (reshared_as tree u)
      a = all_reshared tree u ou.long

      b : Reshared tree t nodes (reshared_as tree t)
      b = all_reshared tree t ot.long

  same_refusal_law : (s : List ℕ) (ws : List ℤ) (minute : ℤ) → in_order t ≡ true → in_order u ≡ true → set_minute_refusal u s ws minute ≡ set_minute_refusal t s ws minute
  unfolding set_minute_refusal timetable_refusal
  same_refusal_law s ws minute ht hu = rw (ht, hu, same_shape_law (planned s))

  pub set_alike : (s : List ℕ) (ws : List ℤ) (minute : ℤ) → in_order t ≡ true → in_order u ≡ true → SetAlike t u s ws minute
  unfolding set_minute_table minute_table
  set_alike s ws minute ht hu =
      record {
        refusal = same_refusal_law s ws minute ht hu;
        table = λ h.
            kept_new (set_minute_refusal u s ws minute) (minute_table u (planned s) ws (plus minute)) u (same_refusal_law s ws minute ht hu ∙ h)
            ∙ same_after (tree_at (tree_of (planned s)) ws (plus minute)) (facts t ht) (facts u hu)
            ∙ sym (kept_new (set_minute_refusal t s ws minute) (minute_table t (planned s) ws (plus minute)) t h);
      }
