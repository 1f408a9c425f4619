-- Refused, nothing is written; accepted, the writes are made and the rates below the parent are renewed, which renews
-- everything.
use Rattle.std.proofs.Common.{◌≡◌, ◌∙◌, ℤ, List, length, true, not, ap, ap₂, subst}
use Rattle.std.proofs.lemmas.Result.{err_from_is_err_and}
use mir.Syntax.{w64}
use mir.ValLaws.{to_z-of_z}
use Rattle.numbers.specs.Whole.{plus}
use Rattle.numbers.proofs.Tests.{by_test}
use Rattle.definitions.specs.Limits.{table_length}
use Rattle.definitions.specs.Order.{in_order}
use Rattle.definitions.specs.Rates.{renewed}
use Rattle.definitions.specs.Renewal.{renewed_below}
use Rattle.definitions.specs.Calls.{join_refusal, join_table, join_answer}
use Rattle.definitions.proofs.Passed.{long}
use Rattle.definitions.proofs.Refusals.{first_here, kept_new}
use Rattle.answers.specs.declared.Refusal.TheVariants.{NotInOrder}
use Rattle.answers.proofs.Answers.{err_number, ok_number, refused_tells, refused_keeps, accepted_tells, accepted_leaves}
use Rattle.treelaws.specs.Joins.{Join, refusal_of, joined_by}
use Rattle.treelaws.specs.Renewal.{RenewsAll}
use Rattle.calllaws.proofs.Join.{join_keeps, join_renews_below}
use Rattle.sums.specs.Rated.{Rated}
use Rattle.sums.proofs.Rated.{rated_before}
use Rattle.admission.specs.declared.NewNode.{NewNode}
use Rattle.admission.specs.NewNodes.{asked, Natural, join_of}
use Rattle.admission.proofs.Limits.{as_asked, accepted_limits, writable}
use Rattle.joining.proofs.join.Goals as goal

short : (t : List ℤ) (j : Join) → (length t ≡ table_length → ⊥) → refusal_of t j ≡ 1
unfolding refusal_of join_refusal
short t j h = first_here 1 _ _ (ap not (by_test (in_order t) (λ e. absurd (h (long t e))) (λ e. e)))

-- An accepted join j, as node n: what is written, and what renewing below the parent leaves.
module _ (t : List ℤ) (j : Join) (n : NewNode) (natural : Natural n j) (accepted : refusal_of t j ≡ 0) where
  written : (u v : List ℤ) → u ≡ t → v ≡ joined_by u (join_of n) → v ≡ joined_by t j
  written u v same e = e ∙ ap₂ joined_by same (as_asked n j natural (accepted_limits t j accepted))

  in_order_law : in_order (renewed (joined_by t j)) ≡ true
  unfolding refusal_of joined_by join_table
  in_order_law = subst (λ (u : List ℤ). in_order u ≡ true) (kept_new _ _ _ accepted) (join_keeps _ _ _ _ _ _ _ _ accepted)

  renews : RenewsAll (joined_by t j) (plus j.parent)
  unfolding refusal_of joined_by
  renews = join_renews_below _ _ _ _ _ _ _ _ accepted

  ready : (v : List ℤ) → v ≡ joined_by t j → Rated v n.parent
  ready v e = rw (e, natural.parent) (rated_before _ _ in_order_law renews.low renews.there renews.small)

  left : (v w : List ℤ) → v ≡ joined_by t j → w ≡ renewed_below v n.parent → w ≡ renewed (joined_by t j)
  left v w e h = h ∙ ap₂ renewed_below e natural.parent ∙ renews.all

pub returns-in_default-clause-answer : goal.returns-in_default-clause-answer
unfolding join_answer refusal_of
returns-in_default-clause-answer c =
    refused_tells NotInOrder _ _ (short _ (asked c.args.node c.args.parent c.args.sort c.args.kind c.args.share c.args.depth c.args.port) c.in_default.ensures.cases)

pub returns-in_default-clause-table : goal.returns-in_default-clause-table
unfolding join_table refusal_of
returns-in_default-clause-table c =
    refused_keeps NotInOrder _ _ _ (short _ (asked c.args.node c.args.parent c.args.sort c.args.kind c.args.share c.args.depth c.args.port) c.in_default.ensures.cases)

pub returns-in_err-join_refusal-clause-answer : goal.returns-in_err-join_refusal-clause-answer
unfolding join_answer refusal_of
returns-in_err-join_refusal-clause-answer c =
    let r = c.ranges in
    let first = rw (c.in-Some.ensures.cases.same, to_z-of_z w64 _ r.node, to_z-of_z w64 _ r.parent, to_z-of_z w64 _ r.sort, to_z-of_z w64 _ r.kind, to_z-of_z w64 _ r.share, to_z-of_z w64 _ r.depth, to_z-of_z w64 _ r.port) at c.join_refusal.ensures.first in
    let p = err_from_is_err_and c.from_residual.result c.from_residual.ensures.1 in
    rw (p.1, p.2) (refused_tells _ _ _ (err_number _ first c.in_err-join_refusal.was))

pub returns-in_err-join_refusal-clause-table : goal.returns-in_err-join_refusal-clause-table
unfolding join_table refusal_of
returns-in_err-join_refusal-clause-table c =
    let r = c.ranges in
    let first = rw (c.in-Some.ensures.cases.same, to_z-of_z w64 _ r.node, to_z-of_z w64 _ r.parent, to_z-of_z w64 _ r.sort, to_z-of_z w64 _ r.kind, to_z-of_z w64 _ r.share, to_z-of_z w64 _ r.depth, to_z-of_z w64 _ r.port) at c.join_refusal.ensures.first in
    c.in-Some.ensures.cases.same ∙ refused_keeps _ _ _ _ (err_number _ first c.in_err-join_refusal.was)

pub write_node-requires : goal.write_node-requires
write_node-requires c =
    let r = c.ranges in
    let first = rw (c.in-Some.ensures.cases.same, to_z-of_z w64 _ r.node, to_z-of_z w64 _ r.parent, to_z-of_z w64 _ r.sort, to_z-of_z w64 _ r.kind, to_z-of_z w64 _ r.share, to_z-of_z w64 _ r.depth, to_z-of_z w64 _ r.port) at c.join_refusal.ensures.first in
    let natural = rw (to_z-of_z w64 _ r.node, to_z-of_z w64 _ r.parent, to_z-of_z w64 _ r.sort, to_z-of_z w64 _ r.kind, to_z-of_z w64 _ r.share, to_z-of_z w64 _ r.depth, to_z-of_z w64 _ r.port) at c.new_node-new.ensures in
    let accepted = ok_number _ first c.in_ok-join_refusal.was in
    rw c.in-Some.ensures.cases.same (writable _ _ _ natural accepted)

pub renew_below-requires : goal.renew_below-requires
renew_below-requires c =
    let r = c.ranges in
    let first = rw (c.in-Some.ensures.cases.same, to_z-of_z w64 _ r.node, to_z-of_z w64 _ r.parent, to_z-of_z w64 _ r.sort, to_z-of_z w64 _ r.kind, to_z-of_z w64 _ r.share, to_z-of_z w64 _ r.depth, to_z-of_z w64 _ r.port) at c.join_refusal.ensures.first in
    let natural = rw (to_z-of_z w64 _ r.node, to_z-of_z w64 _ r.parent, to_z-of_z w64 _ r.sort, to_z-of_z w64 _ r.kind, to_z-of_z w64 _ r.share, to_z-of_z w64 _ r.depth, to_z-of_z w64 _ r.port) at c.new_node-new.ensures in
    let accepted = ok_number _ first c.in_ok-join_refusal.was in
    ready _ _ _ natural accepted _ (written _ _ _ natural accepted _ _ c.in-Some.ensures.cases.same c.write_node.ensures)

pub returns-clause-answer : goal.returns-clause-answer
unfolding join_answer refusal_of
returns-clause-answer c =
    let r = c.ranges in
    let first = rw (c.in-Some.ensures.cases.same, to_z-of_z w64 _ r.node, to_z-of_z w64 _ r.parent, to_z-of_z w64 _ r.sort, to_z-of_z w64 _ r.kind, to_z-of_z w64 _ r.share, to_z-of_z w64 _ r.depth, to_z-of_z w64 _ r.port) at c.join_refusal.ensures.first in
    let accepted = ok_number _ first c.in_ok-join_refusal.was in
    accepted_tells _ _ accepted

pub returns-clause-table : goal.returns-clause-table
unfolding join_table refusal_of joined_by
returns-clause-table c =
    let r = c.ranges in
    let first = rw (c.in-Some.ensures.cases.same, to_z-of_z w64 _ r.node, to_z-of_z w64 _ r.parent, to_z-of_z w64 _ r.sort, to_z-of_z w64 _ r.kind, to_z-of_z w64 _ r.share, to_z-of_z w64 _ r.depth, to_z-of_z w64 _ r.port) at c.join_refusal.ensures.first in
    let natural = rw (to_z-of_z w64 _ r.node, to_z-of_z w64 _ r.parent, to_z-of_z w64 _ r.sort, to_z-of_z w64 _ r.kind, to_z-of_z w64 _ r.share, to_z-of_z w64 _ r.depth, to_z-of_z w64 _ r.port) at c.new_node-new.ensures in
    let accepted = ok_number _ first c.in_ok-join_refusal.was in
    left _ _ _ natural accepted _ _ (written _ _ _ natural accepted _ _ c.in-Some.ensures.cases.same c.write_node.ensures) c.renew_below.ensures
    ∙ accepted_leaves _ _ _ accepted
