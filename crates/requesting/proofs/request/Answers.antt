-- Refused, nothing is written; accepted, the request stands behind the others and the new count is returned.
use Rattle.std.proofs.Common.{◌≡◌, ◌+◌, ℕ, suc, ℤ, pos, List, refl, sym, ap, ◌∙◌, add-one, arith}
use Rattle.std.proofs.lemmas.Result.{err_from_is_err_and}
use borrow.Author.Rules.{sfits_of}
use mir.Syntax.{w64}
use mir.Val.{SFits, of_z, to_z}
use mir.ValLaws.{to_z-of_z}
use Rattle.numbers.specs.Whole.{plus}
use Rattle.definitions.specs.Places.{count}
use Rattle.definitions.specs.Calls.{requested, request_refusal, request_table, request_answer}
use Rattle.definitions.proofs.Refusals.{natural_of}
use Rattle.order.proofs.Length.{length_first}
use Rattle.answers.specs.declared.Refusal.TheVariants.{NotInOrder}
use Rattle.answers.specs.Answers.{number_in}
use Rattle.answers.proofs.Answers.{refused_tells, refused_keeps, accepted_tells, accepted_leaves}
use Rattle.requesting.proofs.Room.{Room, accepted_room}
use Rattle.requesting.proofs.request.Goals as goal

-- The caller's own numbers, which fit.
record Fit (a b d : ℤ) : Type 0 where
  pub client : SFits w64 a
  pub tag : SFits w64 b
  pub size : SFits w64 d

fit : {a b d : ℤ} → SFits w64 a → SFits w64 b → SFits w64 d → Fit a b d
fit f g h = record { client = f; tag = g; size = h }

-- The number that the code found, of the table and the numbers as they came.
number : (t u : List ℤ) (client tag size : ℤ) {n : ℕ} → Fit client tag size → u ≡ t → n ≡ request_refusal u (to_z w64 (of_z w64 client)) (to_z w64 (of_z w64 tag)) (to_z w64 (of_z w64 size)) → request_refusal t client tag size ≡ n
number t u client tag size f same e =
    sym (rw (to_z-of_z w64 client f.client, to_z-of_z w64 tag f.tag, to_z-of_z w64 size f.size, same) at e)

-- An accepted request has room at its client, in the table as the code has it.
room : (u : List ℤ) (client tag size : ℤ) {n k : ℕ} → Fit client tag size → n ≡ request_refusal u (to_z w64 (of_z w64 client)) (to_z w64 (of_z w64 tag)) (to_z w64 (of_z w64 size)) → n ≡ 0 → k ≡ plus (to_z w64 (of_z w64 client)) → Room u k
room u client tag size f e zero is =
    rw (natural_of is f.client) (accepted_room u client tag size (number u u client tag size f refl e ∙ zero))

-- What is written.
written : (t u v : List ℤ) (client tag size : ℤ) {k : ℕ} → Fit client tag size → u ≡ t → k ≡ plus (to_z w64 (of_z w64 client)) → v ≡ requested u k (to_z w64 (of_z w64 tag)) (to_z w64 (of_z w64 size)) → v ≡ requested t (plus client) tag size
written t u v client tag size f same is e =
    rw (to_z-of_z w64 tag f.tag, to_z-of_z w64 size f.size, same, natural_of is f.client) at e

arrival : (t u : List ℤ) {n : ℕ} {z : ℤ} → u ≡ t → n ≡ count u → z ≡ pos (n + 1) → z ≡ pos (suc (count t))
arrival t u {n} same e is = is ∙ ap pos (add-one n ∙ ap suc (e ∙ ap count same))

pub returns-in_default-clause-answer : goal.returns-in_default-clause-answer
unfolding request_answer request_refusal
returns-in_default-clause-answer c = refused_tells NotInOrder _ _ (length_first _ _ c.in_default.ensures.cases)

pub returns-in_default-clause-table : goal.returns-in_default-clause-table
unfolding request_table request_refusal
returns-in_default-clause-table c = refused_keeps NotInOrder _ _ _ (length_first _ _ c.in_default.ensures.cases)

pub returns-in_err-request_refusal-clause-answer : goal.returns-in_err-request_refusal-clause-answer
unfolding request_answer number_in
returns-in_err-request_refusal-clause-answer c =
    let f = fit c.ranges.client c.ranges.tag c.ranges.size in
    let p = err_from_is_err_and c.from_residual.result c.from_residual.ensures.1 in
    rw (p.1, p.2) (refused_tells _ _ _ (number _ _ _ _ _ f c.in-Some.ensures.cases.same c.in_err-request_refusal.ensures.first))

pub returns-in_err-request_refusal-clause-table : goal.returns-in_err-request_refusal-clause-table
unfolding request_table number_in
returns-in_err-request_refusal-clause-table c =
    let f = fit c.ranges.client c.ranges.tag c.ranges.size in
    c.in-Some.ensures.cases.same ∙ refused_keeps _ _ _ _ (number _ _ _ _ _ f c.in-Some.ensures.cases.same c.in_err-request_refusal.ensures.first)

pub overflow_add-arrival : goal.overflow_add-arrival
unfolding number_in
overflow_add-arrival c =
    let f = fit c.ranges.client c.ranges.tag c.ranges.size in
    omega (arith, (room _ _ _ _ f c.in_ok-request_refusal.ensures.first refl refl).numbers, c.count-arrival.ensures)

pub write_request-requires : goal.write_request-requires
unfolding number_in
write_request-requires c =
    let f = fit c.ranges.client c.ranges.tag c.ranges.size in
    let r = room _ _ _ _ f c.in_ok-request_refusal.ensures.first refl c.natural.ensures in
    (r.node, r.places, r.numbers)

pub whole-requires : goal.whole-requires
unfolding number_in
whole-requires c =
    let f = fit c.ranges.client c.ranges.tag c.ranges.size in
    omega (arith, (room _ _ _ _ f c.in_ok-request_refusal.ensures.first refl refl).numbers, c.count-arrival.ensures)

pub returns-clause-answer : goal.returns-clause-answer
unfolding request_answer number_in
returns-clause-answer c =
    let f = fit c.ranges.client c.ranges.tag c.ranges.size in
    let same = c.in-Some.ensures.cases.same in
    rw (arrival _ _ same c.count-arrival.ensures (to_z-of_z w64 _ (sfits_of c.whole.type_inv) ∙ c.whole.ensures))
    (accepted_tells _ _ (number _ _ _ _ _ f same c.in_ok-request_refusal.ensures.first))

pub returns-clause-table : goal.returns-clause-table
unfolding request_table number_in
returns-clause-table c =
    let f = fit c.ranges.client c.ranges.tag c.ranges.size in
    let same = c.in-Some.ensures.cases.same in
    written _ _ _ _ _ _ f same c.natural.ensures c.write_request.ensures
    ∙ accepted_leaves _ _ _ (number _ _ _ _ _ f same c.in_ok-request_refusal.ensures.first)
