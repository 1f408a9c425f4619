-- Client and size within their limits are the natural numbers by which the rest of the causes goes.
use Rattle.std.proofs.Common.{◌≡◌, ℕ, ℤ, pos, Bool, true, not, sym, ap, ap₂, ◌∙◌}
use Rattle.std.proofs.lemmas.Result.{err_from_is_err_and}
use mir.Syntax.{w64}
use mir.Val.{SFits, of_z, to_z}
use mir.ValLaws.{to_z-of_z}
use Rattle.numbers.specs.Whole.{plus}
use Rattle.numbers.proofs.Every.{head_holds, rest_hold}
use Rattle.definitions.specs.Limits.{last_node}
use Rattle.definitions.specs.Calls.{request_limits, request_refusal}
use Rattle.definitions.proofs.Refusals.{first_here, causes, found, number_of_law, least_of}
use Rattle.answers.specs.Answers.{number_in}
use Rattle.requesting.proofs.request_refusal.Goals as goal

fits : {b : Bool} {client size : ℤ} → SFits w64 client → SFits w64 size → b ≡ request_limits (to_z w64 (of_z w64 client)) (to_z w64 (of_z w64 size)) → b ≡ request_limits client size
fits f g e = rw (to_z-of_z w64 _ f, to_z-of_z w64 _ g) at e

-- The numbers that the code goes on with are the arguments.
same : {client size : ℤ} {n m : ℕ} → SFits w64 client → SFits w64 size → request_limits client size ≡ true → n ≡ plus (to_z w64 (of_z w64 client)) → m ≡ plus (to_z w64 (of_z w64 size)) → (pos n ≡ client) × (pos m ≡ size)
unfolding request_limits
same f g l e d = (number_of_law 0 last_node e f (head_holds _ _ l), least_of 1 d g (head_holds _ _ (rest_hold _ _ l)))

pub returns-in_err-ordered : goal.returns-in_err-ordered
unfolding number_in request_refusal
returns-in_err-ordered c =
    let p = err_from_is_err_and c.from_residual.result c.from_residual.ensures.1 in
    rw (p.1, p.2, c.in_err-ordered.ensures.0) (record { first = sym (first_here 1 _ _ (ap not c.in_err-ordered.ensures.1)) })

pub returns-then-not-request_limits : goal.returns-then-not-request_limits
unfolding number_in request_refusal
returns-then-not-request_limits c =
    record { first = found _ _ (search (causes, c.in_ok-ordered.ensures.1, fits c.ranges.client c.ranges.size c.request_limits.ensures)) }

pub tree_refusal-requires : goal.tree_refusal-requires
tree_refusal-requires c =
    let l = sym (fits c.ranges.client c.ranges.size c.request_limits.ensures) ∙ c.if-not-request_limits.false in
    let p = same c.ranges.client c.ranges.size l c.natural.ensures c.natural-2.ensures in
    rw (p.0, p.1) l

pub returns : goal.returns
unfolding request_refusal
returns c =
    let l = sym (fits c.ranges.client c.ranges.size c.request_limits.ensures) ∙ c.if-not-request_limits.false in
    let p = same c.ranges.client c.ranges.size l c.natural.ensures c.natural-2.ensures in
    record { first = rw c.in_ok-ordered.ensures.0 at c.tree_refusal.ensures.first ∙ ap₂ (λ (z w : ℤ). request_refusal c.args.table.now z (pos 0) w) p.0 p.1 }
