-- Node, kind and share within their limits are the natural numbers by which the rest of the causes goes.
use Rattle.std.proofs.Common.{◌≡◌, ◌∙◌, ℕ, ℤ, List, true, false, not, sym, ap}
use lib.IntN.{pos}
use Rattle.std.proofs.lemmas.Result.{err_from_is_err_and}
use mir.Syntax.{w64}
use mir.Val.{SFits, to_z, of_z}
use mir.ValLaws.{to_z-of_z}
use Rattle.numbers.specs.Whole.{plus}
use Rattle.numbers.proofs.Every.{head_holds, rest_hold}
use Rattle.definitions.specs.Limits.{last_node, fixed, stated, share_limit}
use Rattle.definitions.specs.Order.{in_order}
use Rattle.definitions.specs.Calls.{change_share_limits, change_share_refusal}
use Rattle.definitions.proofs.Refusals.{first_here, first_past, number_of_law}
use Rattle.answers.specs.Answers.{number_in}
use Rattle.sharing.proofs.change_share_refusal.Goals as goal

outside : (t : List ℤ) (node kind share : ℤ) → in_order t ≡ true → change_share_limits node kind share ≡ false → change_share_refusal t node kind share ≡ 2
unfolding change_share_refusal
outside t node kind share o l = first_past 1 _ _ (ap not o) ∙ first_here 2 _ _ (ap not l)

-- The numbers that the code goes on with are the arguments.
same : (node kind share : ℤ) {k d s : ℕ} → change_share_limits node kind share ≡ true → k ≡ plus (to_z w64 (of_z w64 node)) → SFits w64 node → d ≡ plus (to_z w64 (of_z w64 kind)) → SFits w64 kind → s ≡ plus (to_z w64 (of_z w64 share)) → SFits w64 share → (pos k ≡ node) × (pos d ≡ kind) × (pos s ≡ share)
unfolding change_share_limits
same node kind share l e f g h i j = (
  number_of_law 0 last_node e f (head_holds _ _ l),
  number_of_law fixed stated g h (head_holds _ _ (rest_hold _ _ l)),
  number_of_law 1 (share_limit (plus kind)) i j (head_holds _ _ (rest_hold _ _ (rest_hold _ _ l))),
)

pub returns-in_err-ordered : goal.returns-in_err-ordered
unfolding number_in change_share_refusal
returns-in_err-ordered c =
    let p = err_from_is_err_and c.from_residual.result c.from_residual.ensures.1 in
    rw (p.1, p.2, c.in_err-ordered.ensures.0) (record { first = sym (first_here 1 _ _ (ap not c.in_err-ordered.ensures.1)) })

pub returns-then-not-change_share_limits : goal.returns-then-not-change_share_limits
unfolding number_in
returns-then-not-change_share_limits c =
    let r = c.ranges in
    let fits = rw (to_z-of_z w64 _ r.node, to_z-of_z w64 _ r.kind, to_z-of_z w64 _ r.share) at c.change_share_limits.ensures in
    record { first = sym (outside _ _ _ _ (c.in_ok-ordered.ensures.1) (sym fits ∙ c.if-not-change_share_limits.true)) }

pub tree_refusal-requires : goal.tree_refusal-requires
tree_refusal-requires c =
    let r = c.ranges in
    let fits = rw (to_z-of_z w64 _ r.node, to_z-of_z w64 _ r.kind, to_z-of_z w64 _ r.share) at c.change_share_limits.ensures in
    let within = sym fits ∙ c.if-not-change_share_limits.false in
    let are = same _ _ _ within c.natural.ensures r.node c.natural-2.ensures r.kind c.natural-3.ensures r.share in
    rw (are.0, are.1, are.2) within

pub returns : goal.returns
returns c =
    let r = c.ranges in
    let fits = rw (to_z-of_z w64 _ r.node, to_z-of_z w64 _ r.kind, to_z-of_z w64 _ r.share) at c.change_share_limits.ensures in
    let are = same _ _ _ (sym fits ∙ c.if-not-change_share_limits.false) c.natural.ensures r.node c.natural-2.ensures r.kind c.natural-3.ensures r.share in
    record { first = rw (c.in_ok-ordered.ensures.0, are.0, are.1, are.2) at c.tree_refusal.ensures.first }
