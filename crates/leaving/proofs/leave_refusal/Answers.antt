-- A node within its limits is the natural number by which the rest of the causes goes.
use Rattle.std.proofs.Common.{◌≡◌, Bool, ℕ, ℤ, true, not, pos, sym, ap, ◌∙◌}
use Rattle.std.proofs.lemmas.Result.{err_from_is_err_and}
use mir.Syntax.{w64}
use mir.Val.{SFits, of_z, to_z}
use mir.Facts.{to_z-of_z}
use Rattle.numbers.specs.Whole.{plus, within_ℤ}
use Rattle.definitions.specs.Limits.{last_node}
use Rattle.definitions.specs.Calls.{leave_refusal}
use Rattle.definitions.proofs.Refusals.{first_here, causes, found, number_of_law}
use Rattle.answers.specs.Answers.{number_in}
use Rattle.leaving.proofs.leave_refusal.Goals as goal

fits : {b : Bool} {z : ℤ} → SFits w64 z → b ≡ within_ℤ 0 last_node (to_z w64 (of_z w64 z)) → b ≡ within_ℤ 0 last_node z
fits r e = e ∙ ap (within_ℤ 0 last_node) (to_z-of_z r)

-- The number that the code goes on with is the node.
same : {b : Bool} {z : ℤ} {n : ℕ} → SFits w64 z → b ≡ within_ℤ 0 last_node (to_z w64 (of_z w64 z)) → b ≡ true → n ≡ plus (to_z w64 (of_z w64 z)) → pos n ≡ z
same r e h is = number_of_law 0 last_node is r (sym (fits r e) ∙ h)

pub returns-in_err-ordered : goal.returns-in_err-ordered
unfolding number_in leave_refusal
returns-in_err-ordered c =
    let p = err_from_is_err_and c.from_residual.result c.from_residual.ensures.1 in
    rw (p.1, p.2, c.in_err-ordered.ensures.0) (record { first = sym (first_here 1 _ _ (ap not c.in_err-ordered.ensures.1)) })

pub returns-then-not-within : goal.returns-then-not-within
unfolding number_in leave_refusal
returns-then-not-within c =
    record { first = found _ _ (search (causes, c.in_ok-ordered.ensures.1, fits c.ranges.node c.within.ensures)) }

pub tree_refusal-requires : goal.tree_refusal-requires
tree_refusal-requires c =
    rw (same c.ranges.node c.within.ensures c.if-not-within.false c.natural.ensures) (sym (fits c.ranges.node c.within.ensures) ∙ c.if-not-within.false)

pub returns : goal.returns
returns c = record {
  first = rw c.in_ok-ordered.ensures.0 at c.tree_refusal.ensures.first
      ∙ ap (leave_refusal _) (same c.ranges.node c.within.ensures c.if-not-within.false c.natural.ensures);
}
