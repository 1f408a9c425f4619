-- Accepted, the request is written; refused, nothing is.
use Rattle.std.proofs.Common.{◌≡◌, ℕ, ℤ, pos, List, true, false, Result, Ok, Err, rules, refl, sym, ◌∙◌, arith}
use borrow.Author.Rules.{sfits_of}
use mathlib.Core.Bool.{true≢false}
use mir.Syntax.{w64}
use mir.ValLaws.{to_z-of_z}
use Rattle.std.specs.Result.{is_ok}
use Rattle.numbers.specs.Whole.{plus}
use Rattle.definitions.specs.Calls.{request_refusal, request_table}
use Rattle.definitions.proofs.Refusals.{kept_new, kept_old}
use Rattle.answers.specs.declared.Refusal.{Refusal}
use Rattle.answers.specs.Answers.{number_in}
use Rattle.answers.proofs.Answers.{numbered}
use Rattle.requesting.proofs.Room.{Room, accepted_room}
use Rattle.requesting.proofs.request_in_order.Goals as goal

-- The number of what was found is 0 just where it is no refusal.
zero_of : (r : Result Unit Refusal) → true ≡ is_ok r → number_in r ≡ 0
unfolding number_in
zero_of (Ok value) e = refl
zero_of (Err why) e = absurd (true≢false e)

some_of : (r : Result Unit Refusal) → false ≡ is_ok r → number_in r ≡ 0 → ⊥
unfolding number_in
some_of (Ok value) e z = true≢false (sym e)
some_of (Err why) e z = omega (arith, numbered why)

-- The number is that of the definition, which judges no tag.
number : (t : List ℤ) (k size : ℕ) (tag : ℤ) {n : ℕ} → n ≡ request_refusal t (pos k) (pos 0) (pos size) → request_refusal t (pos k) tag (pos size) ≡ n
unfolding request_refusal
number t k size tag e = sym e

-- Where it is 0, there is room.
room : (t : List ℤ) (k size : ℕ) {n : ℕ} → n ≡ request_refusal t (pos k) (pos 0) (pos size) → n ≡ 0 → Room t k
unfolding plus
room t k size e zero = accepted_room t (pos k) (pos 0) (pos size) (sym e ∙ zero)

pub write_request-requires : goal.write_request-requires
write_request-requires c =
    let r = room _ _ _ c.tree_refusal.ensures.first (zero_of _ (search rules)) in (r.node, r.places, r.numbers)

pub returns-then-accepted : goal.returns-then-accepted
unfolding request_table plus
returns-then-accepted c =
    rw (to_z-of_z w64 c.args.tag c.ranges.tag, to_z-of_z w64 c.whole.result (sfits_of c.whole.type_inv), c.whole.ensures) at c.write_request.ensures
    ∙ sym (kept_new _ _ _ (number _ _ _ c.args.tag c.tree_refusal.ensures.first ∙ zero_of _ (search rules)))

pub returns-else-accepted : goal.returns-else-accepted
unfolding request_table
returns-else-accepted c =
    sym (kept_old _ _ _ (λ z. some_of c.tree_refusal.result (search rules) (sym (number _ _ _ c.args.tag c.tree_refusal.ensures.first) ∙ z)))
