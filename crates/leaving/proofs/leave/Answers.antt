-- Refused, nothing is written; accepted, the writes are made and the rates below the parent are renewed, which renews everything.
use Rattle.std.proofs.Common.{◌≡◌, ◌<◌, ℕ, ℤ, List, true, refl, sym, ap₂, ◌∙◌, subst, arith}
use Rattle.std.proofs.lemmas.Result.{err_from_is_err_and}
use mir.Syntax.{w64}
use mir.Val.{SFits, of_z, to_z}
use mir.ValLaws.{to_z-of_z}
use Rattle.numbers.specs.Whole.{plus}
use Rattle.definitions.specs.Limits.{nodes, parent_at}
use Rattle.definitions.specs.Places.{place}
use Rattle.definitions.specs.Tree.{tree_of}
use Rattle.definitions.specs.Order.{in_order}
use Rattle.definitions.specs.Renewal.{renewed_below}
use Rattle.definitions.specs.Calls.{cleared, leave_refusal, leave_table, leave_answer}
use Rattle.definitions.proofs.Refusals.{kept_new, natural_of}
use Rattle.definitions.proofs.Passed.{leave_passed}
use Rattle.calllaws.proofs.Leave.{leave_keeps, leave_renews_below}
use Rattle.sums.specs.Rated.{Rated}
use Rattle.sums.proofs.Rated.{rated_before}
use Rattle.order.proofs.Length.{length_first}
use Rattle.answers.specs.Answers.{number_in}
use Rattle.answers.specs.declared.Refusal.TheVariants.{NotInOrder}
use Rattle.answers.proofs.Answers.{refused_tells, refused_keeps, accepted_tells, accepted_leaves}
use Rattle.leaving.proofs.leave.Goals as goal

-- The number that the code found, of the table and the node as they came.
number : (t u : List ℤ) (z : ℤ) {n : ℕ} → SFits w64 z → u ≡ t → n ≡ leave_refusal u (to_z w64 (of_z w64 z)) → leave_refusal t z ≡ n
number t u z f same e = sym (rw (to_z-of_z w64 z f, same) at e)

-- What an accepted leave reads and writes: the node, its parent, and the table without the node.
record Accepted (t : List ℤ) (z : ℤ) (u : List ℤ) (k c : ℕ) (v : List ℤ) : Type 0 where
  pub zero : leave_refusal t z ≡ 0
  pub low : k < nodes
  pub parent : c ≡ (tree_of t).parent (plus z)
  pub written : v ≡ cleared t (plus z)

low : (t u : List ℤ) (z : ℤ) {n k : ℕ} → SFits w64 z → u ≡ t → n ≡ leave_refusal u (to_z w64 (of_z w64 z)) → n ≡ 0 → k ≡ plus (to_z w64 (of_z w64 z)) → k < nodes
low t u z f same e zero is = omega (arith, natural_of is f, (leave_passed t z (number t u z f same e ∙ zero)).node)

accepted : (t u : List ℤ) (z : ℤ) {n k c : ℕ} {v : List ℤ} → SFits w64 z → u ≡ t → n ≡ leave_refusal u (to_z w64 (of_z w64 z)) → n ≡ 0 → k ≡ plus (to_z w64 (of_z w64 z)) → c ≡ plus (place u k parent_at) → v ≡ cleared u k → Accepted t z u k c v
unfolding tree_of
accepted t u z f same e zero is parent written =
    record {
      zero = number t u z f same e ∙ zero;
      low = low t u z f same e zero is;
      parent = parent ∙ ap₂ (λ (t : List ℤ) (k : ℕ). plus (place t k parent_at)) same (natural_of is f);
      written = written ∙ ap₂ cleared same (natural_of is f);
    }

rated : (t : List ℤ) (z : ℤ) {u v : List ℤ} {k c : ℕ} → Accepted t z u k c v → Rated v c
unfolding leave_table
rated t z a =
    let r = leave_renews_below t z a.zero in
    let keeps = subst (λ (u : List ℤ). in_order u ≡ true) (kept_new _ _ _ a.zero) (leave_keeps t z a.zero) in
    rw (a.parent, a.written) (rated_before _ _ keeps r.low r.there r.small)

pub returns-in_default-clause-answer : goal.returns-in_default-clause-answer
unfolding leave_answer leave_refusal
returns-in_default-clause-answer c = refused_tells NotInOrder _ _ (length_first _ _ c.in_default.ensures.cases)

pub returns-in_default-clause-table : goal.returns-in_default-clause-table
unfolding leave_table leave_refusal
returns-in_default-clause-table c = refused_keeps NotInOrder _ _ _ (length_first _ _ c.in_default.ensures.cases)

pub returns-in_err-leave_refusal-clause-answer : goal.returns-in_err-leave_refusal-clause-answer
unfolding leave_answer number_in
returns-in_err-leave_refusal-clause-answer c =
    let p = err_from_is_err_and c.from_residual.result c.from_residual.ensures.1 in
    rw (p.1, p.2) (refused_tells _ _ _ (number _ _ _ c.ranges.node c.in-Some.ensures.cases.same c.in_err-leave_refusal.ensures.first))

pub returns-in_err-leave_refusal-clause-table : goal.returns-in_err-leave_refusal-clause-table
unfolding leave_table number_in
returns-in_err-leave_refusal-clause-table c =
    c.in-Some.ensures.cases.same ∙ refused_keeps _ _ _ _ (number _ _ _ c.ranges.node c.in-Some.ensures.cases.same c.in_err-leave_refusal.ensures.first)

pub natural-parent-requires : goal.natural-parent-requires
unfolding number_in
natural-parent-requires c =
    (low _ _ _ c.ranges.node c.in-Some.ensures.cases.same c.in_ok-leave_refusal.ensures.first refl c.natural-k.ensures, omega arith)

pub clear_node-requires : goal.clear_node-requires
unfolding number_in
clear_node-requires c =
    low _ _ _ c.ranges.node c.in-Some.ensures.cases.same c.in_ok-leave_refusal.ensures.first refl c.natural-k.ensures

pub renew_below-requires : goal.renew_below-requires
unfolding number_in
renew_below-requires c =
    rated _ _
    (accepted _ _ _ c.ranges.node c.in-Some.ensures.cases.same c.in_ok-leave_refusal.ensures.first refl c.natural-k.ensures c.natural-parent.ensures c.clear_node.ensures)

pub returns-clause-answer : goal.returns-clause-answer
unfolding leave_answer number_in
returns-clause-answer c = accepted_tells _ _ (number _ _ _ c.ranges.node c.in-Some.ensures.cases.same c.in_ok-leave_refusal.ensures.first)

pub returns-clause-table : goal.returns-clause-table
unfolding leave_table number_in
returns-clause-table c =
    let a = accepted _ _ _ c.ranges.node c.in-Some.ensures.cases.same c.in_ok-leave_refusal.ensures.first refl c.natural-k.ensures c.natural-parent.ensures c.clear_node.ensures in
    c.renew_below.ensures ∙ ap₂ renewed_below a.written a.parent ∙ (leave_renews_below _ _ a.zero).all ∙ accepted_leaves _ _ _ a.zero
