-- Arguments within their limits are the numbers of the node, by which the rest of the causes goes.
use Rattle.std.proofs.Common.{◌≡◌, ◌∙◌, ℤ, List, true, false, not, sym, ap}
use Rattle.std.proofs.lemmas.Result.{err_from_is_err_and}
use mir.Syntax.{w64}
use mir.ValLaws.{to_z-of_z}
use Rattle.definitions.specs.Order.{in_order}
use Rattle.definitions.specs.Calls.{join_refusal}
use Rattle.definitions.proofs.Refusals.{first_here, first_past}
use Rattle.treelaws.specs.Joins.{Join, limits_of, refusal_of}
use Rattle.answers.specs.Answers.{number_in}
use Rattle.admission.proofs.Limits.{as_asked, judged}
use Rattle.joining.proofs.join_refusal.Goals as goal

unordered : (t : List ℤ) (j : Join) → in_order t ≡ false → refusal_of t j ≡ 1
unfolding refusal_of join_refusal
unordered t j o = first_here 1 _ _ (ap not o)

outside : (t : List ℤ) (j : Join) → in_order t ≡ true → limits_of j ≡ false → refusal_of t j ≡ 2
unfolding refusal_of join_refusal limits_of
outside t j o l = first_past 1 _ _ (ap not o) ∙ first_here 2 _ _ (ap not l)

pub returns-in_err-judge : goal.returns-in_err-judge
unfolding number_in
returns-in_err-judge c =
    let p = err_from_is_err_and c.from_residual.result c.from_residual.ensures.1 in
    rw (p.1, p.2, c.in_err-judge.ensures.0) (record { first = sym (unordered _ _ c.in_err-judge.ensures.1) })

pub returns-then-not-join_limits : goal.returns-then-not-join_limits
unfolding number_in limits_of
returns-then-not-join_limits c =
    let r = c.ranges in
    let fits = rw (to_z-of_z w64 _ r.node, to_z-of_z w64 _ r.parent, to_z-of_z w64 _ r.sort, to_z-of_z w64 _ r.kind, to_z-of_z w64 _ r.share, to_z-of_z w64 _ r.depth, to_z-of_z w64 _ r.port) at c.join_limits.ensures in
    record { first = sym (outside _ _ c.in_ok-judge.ensures.1 (sym fits ∙ c.if-not-join_limits.true)) }

pub tree_refusal-requires : goal.tree_refusal-requires
unfolding limits_of
tree_refusal-requires c =
    let r = c.ranges in
    let fits = rw (to_z-of_z w64 _ r.node, to_z-of_z w64 _ r.parent, to_z-of_z w64 _ r.sort, to_z-of_z w64 _ r.kind, to_z-of_z w64 _ r.share, to_z-of_z w64 _ r.depth, to_z-of_z w64 _ r.port) at c.join_limits.ensures in
    let natural = rw (to_z-of_z w64 _ r.node, to_z-of_z w64 _ r.parent, to_z-of_z w64 _ r.sort, to_z-of_z w64 _ r.kind, to_z-of_z w64 _ r.share, to_z-of_z w64 _ r.depth, to_z-of_z w64 _ r.port) at c.new_node-new.ensures in
    judged _ _ _ natural c.in_ok-judge.ensures.1 (sym fits ∙ c.if-not-join_limits.false)

pub returns : goal.returns
unfolding limits_of
returns c =
    let r = c.ranges in
    let fits = rw (to_z-of_z w64 _ r.node, to_z-of_z w64 _ r.parent, to_z-of_z w64 _ r.sort, to_z-of_z w64 _ r.kind, to_z-of_z w64 _ r.share, to_z-of_z w64 _ r.depth, to_z-of_z w64 _ r.port) at c.join_limits.ensures in
    let natural = rw (to_z-of_z w64 _ r.node, to_z-of_z w64 _ r.parent, to_z-of_z w64 _ r.sort, to_z-of_z w64 _ r.kind, to_z-of_z w64 _ r.share, to_z-of_z w64 _ r.depth, to_z-of_z w64 _ r.port) at c.new_node-new.ensures in
    record { first = c.tree_refusal.ensures.first ∙ ap (refusal_of _) (as_asked _ _ natural (sym fits ∙ c.if-not-join_limits.false)) }
