-- Refused, nothing is written; accepted, the writes are made and the rates below the parent are renewed, which renews
-- everything.
use Rattle.std.proofs.Common.{◌≡◌, ◌<◌, ◌∙◌, ℕ, ℤ, List, true, ap, ap₂, subst, arith}
use Rattle.std.proofs.lemmas.Result.{err_from_is_err_and}
use mir.Syntax.{w64}
use mir.ValLaws.{to_z-of_z}
use Rattle.numbers.specs.Whole.{plus}
use Rattle.definitions.specs.Limits.{nodes, sort_at, rate_at}
use Rattle.definitions.specs.Order.{in_order}
use Rattle.definitions.specs.Places.{rate}
use Rattle.definitions.specs.Tree.{tree_of, there}
use Rattle.definitions.specs.Rates.{renewed}
use Rattle.definitions.specs.Renewal.{renewed_below}
use Rattle.definitions.specs.Calls.{reshared, change_share_refusal, change_share_table, change_share_answer}
use Rattle.definitions.proofs.Edits.{reshared_rest}
use Rattle.definitions.proofs.Facts.{facts}
use Rattle.definitions.proofs.Passed.{change_share_passed}
use Rattle.definitions.proofs.Refusals.{kept_new, natural_of}
use Rattle.answers.specs.declared.Refusal.TheVariants.{NotInOrder}
use Rattle.answers.proofs.Answers.{err_number, ok_number, refused_tells, refused_keeps, accepted_tells, accepted_leaves}
use Rattle.treelaws.proofs.Children.{class_there}
use Rattle.treelaws.proofs.Joined.{same_there}
use Rattle.treelaws.proofs.Rounding.{rate_small}
use Rattle.treelaws.specs.Renewal.{RenewsAll}
use Rattle.calllaws.proofs.ChangeShare.{change_share_keeps, change_share_renews_below}
use Rattle.sums.specs.Rated.{Rated}
use Rattle.sums.proofs.Rated.{rated_before}
use Rattle.order.proofs.Length.{length_first}
use Rattle.sharing.proofs.change_share.Goals as goal

-- An accepted change of node n, as number k, under the class p.
module _ (t : List ℤ) (n kind share : ℤ) (accepted : change_share_refusal t n kind share ≡ 0) where
  low : plus n < nodes
  low = (change_share_passed _ _ _ _ accepted).node

  in_order_law : in_order (renewed (reshared t (plus n) kind share)) ≡ true
  unfolding change_share_table
  in_order_law = subst (λ (u : List ℤ). in_order u ≡ true) (kept_new _ _ _ accepted) (change_share_keeps _ _ _ _ accepted)

  renews : RenewsAll (reshared t (plus n) kind share) ((tree_of t).parent (plus n))
  renews = change_share_renews_below _ _ _ _ accepted

  parent_there : there (tree_of t) ((tree_of t).parent (plus n)) ≡ true
  parent_there = let p = change_share_passed _ _ _ _ accepted in class_there _ _ ((facts _ p.order).child _ p.node p.there p.below).class

  ready : (v : List ℤ) (p : ℕ) → v ≡ reshared t (plus n) kind share → p ≡ (tree_of t).parent (plus n) → Rated v p
  unfolding rate
  ready v p e is =
      let passed = change_share_passed _ _ _ _ accepted in
      let f = facts _ passed.order in
      let x : ℕ = (tree_of t).parent (plus n) in
      let rest = reshared_rest t (plus n) kind share f.long passed.node x in
      rw (e, is) (rated_before _ x in_order_law renews.low
      (same_there _ _ x (rest sort_at (omega arith) (omega arith) (omega arith)) ∙ parent_there)
      (omega (arith, rate_small _ f x renews.low, ap plus (rest rate_at (omega arith) (omega arith) (omega arith)))))

  left : (v w : List ℤ) (p : ℕ) → v ≡ reshared t (plus n) kind share → p ≡ (tree_of t).parent (plus n) → w ≡ renewed_below v p → w ≡ renewed (reshared t (plus n) kind share)
  left v w p e is h = h ∙ ap₂ renewed_below e is ∙ renews.all

pub returns-in_default-clause-answer : goal.returns-in_default-clause-answer
unfolding change_share_answer change_share_refusal
returns-in_default-clause-answer c = refused_tells NotInOrder _ _ (length_first _ _ c.in_default.ensures.cases)

pub returns-in_default-clause-table : goal.returns-in_default-clause-table
unfolding change_share_table change_share_refusal
returns-in_default-clause-table c = refused_keeps NotInOrder _ _ _ (length_first _ _ c.in_default.ensures.cases)

pub returns-in_err-change_share_refusal-clause-answer : goal.returns-in_err-change_share_refusal-clause-answer
unfolding change_share_answer
returns-in_err-change_share_refusal-clause-answer c =
    let r = c.ranges in
    let first = rw (c.in-Some.ensures.cases.same, to_z-of_z w64 _ r.node, to_z-of_z w64 _ r.kind, to_z-of_z w64 _ r.share) at c.change_share_refusal.ensures.first in
    let p = err_from_is_err_and c.from_residual.result c.from_residual.ensures.1 in
    rw (p.1, p.2) (refused_tells _ _ _ (err_number _ first c.in_err-change_share_refusal.was))

pub returns-in_err-change_share_refusal-clause-table : goal.returns-in_err-change_share_refusal-clause-table
unfolding change_share_table
returns-in_err-change_share_refusal-clause-table c =
    let r = c.ranges in
    let first = rw (c.in-Some.ensures.cases.same, to_z-of_z w64 _ r.node, to_z-of_z w64 _ r.kind, to_z-of_z w64 _ r.share) at c.change_share_refusal.ensures.first in
    c.in-Some.ensures.cases.same ∙ refused_keeps _ _ _ _ (err_number _ first c.in_err-change_share_refusal.was)

pub natural-parent-requires : goal.natural-parent-requires
natural-parent-requires c =
    let r = c.ranges in
    let first = rw (c.in-Some.ensures.cases.same, to_z-of_z w64 _ r.node, to_z-of_z w64 _ r.kind, to_z-of_z w64 _ r.share) at c.change_share_refusal.ensures.first in
    (omega (arith, natural_of c.natural-k.ensures r.node, low _ _ _ _ (ok_number _ first c.in_ok-change_share_refusal.was)), omega arith)

pub write_share-requires : goal.write_share-requires
write_share-requires c =
    let r = c.ranges in
    let first = rw (c.in-Some.ensures.cases.same, to_z-of_z w64 _ r.node, to_z-of_z w64 _ r.kind, to_z-of_z w64 _ r.share) at c.change_share_refusal.ensures.first in
    omega (arith, natural_of c.natural-k.ensures r.node, low _ _ _ _ (ok_number _ first c.in_ok-change_share_refusal.was))

pub renew_below-requires : goal.renew_below-requires
unfolding tree_of
renew_below-requires c =
    let r = c.ranges in
    let first = rw (c.in-Some.ensures.cases.same, to_z-of_z w64 _ r.node, to_z-of_z w64 _ r.kind, to_z-of_z w64 _ r.share) at c.change_share_refusal.ensures.first in
    let node = natural_of c.natural-k.ensures r.node in
    let parent = rw (c.in-Some.ensures.cases.same, node) at c.natural-parent.ensures in
    let written = rw (c.in-Some.ensures.cases.same, node, to_z-of_z w64 _ r.kind, to_z-of_z w64 _ r.share) at c.write_share.ensures in
    let accepted = ok_number _ first c.in_ok-change_share_refusal.was in
    ready _ _ _ _ accepted _ _ written parent

pub returns-clause-answer : goal.returns-clause-answer
unfolding change_share_answer
returns-clause-answer c =
    let r = c.ranges in
    let first = rw (c.in-Some.ensures.cases.same, to_z-of_z w64 _ r.node, to_z-of_z w64 _ r.kind, to_z-of_z w64 _ r.share) at c.change_share_refusal.ensures.first in
    accepted_tells _ _ (ok_number _ first c.in_ok-change_share_refusal.was)

pub returns-clause-table : goal.returns-clause-table
unfolding tree_of change_share_table
returns-clause-table c =
    let r = c.ranges in
    let first = rw (c.in-Some.ensures.cases.same, to_z-of_z w64 _ r.node, to_z-of_z w64 _ r.kind, to_z-of_z w64 _ r.share) at c.change_share_refusal.ensures.first in
    let node = natural_of c.natural-k.ensures r.node in
    let parent = rw (c.in-Some.ensures.cases.same, node) at c.natural-parent.ensures in
    let written = rw (c.in-Some.ensures.cases.same, node, to_z-of_z w64 _ r.kind, to_z-of_z w64 _ r.share) at c.write_share.ensures in
    let accepted = ok_number _ first c.in_ok-change_share_refusal.was in
    left _ _ _ _ accepted _ _ _ written parent c.renew_below.ensures ∙ accepted_leaves _ _ _ accepted
