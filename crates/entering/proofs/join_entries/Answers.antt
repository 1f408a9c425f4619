use Rattle.std.proofs.Common.{◌≡◌, ℕ, ◌+◌, List, ℤ, sym, ap, ◌∙◌, arith}
use Rattle.std.proofs.lemmas.Result.{err_from_is_err_and}
use Rattle.answers.specs.Answers.{number_in}
use Rattle.answers.proofs.Answers.{numbered, err_number, ok_number}
use Rattle.planformat.specs.Format.{Plan, plan_in}
use Rattle.planlaws.specs.Reading.{entry_refusal, after_entry, after_entries, entries_refusal}
use Rattle.planlaws.proofs.Accepted.{after_none, after_next, entries_none, entries_next, entries_stay}
use Rattle.entering.proofs.join_entries.Goals as goal

-- What the entries up to the one just joined give.
so_far : (t u : List ℤ) (p : Plan) (i : ℕ) {r : ℕ} → r ≡ entry_refusal u (p.entry i) → entries_refusal t p i ≡ 0 → u ≡ after_entries t p i → r ≡ entries_refusal t p (i + 1)
so_far t u p i here none joined = here ∙ ap (λ (w : List ℤ). entry_refusal w (p.entry i)) joined ∙ sym (entries_next t p i none)

pub loop-i-init : goal.loop-i-init
loop-i-init c = (entries_none _ _, sym (after_none _ _))

pub returns-in_err-join_entry-clause-number : goal.returns-in_err-join_entry-clause-number
unfolding number_in
returns-in_err-join_entry-clause-number c =
    let why = c.in_err-join_entry.field-0.0 in
    let here = err_number why (so_far _ _ (plan_in c.args.view.bytes.now) c.loop-i.i c.join_entry.ensures.number c.loop-i.invariant.0 c.loop-i.invariant.1) c.in_err-join_entry.was in
    let r = err_from_is_err_and c.from_residual.result c.from_residual.ensures.1 in
    rw (r.1, r.2)
    (sym here ∙ sym (entries_stay _ _ (c.loop-i.i + 1) c.args.view.count (omega arith) (λ z. absurd (omega (arith, here, z, numbered why)))))

pub loop-i-preserved : goal.loop-i-preserved
loop-i-preserved c =
    let p = plan_in c.args.view.bytes.now in (
      ok_number _ (so_far _ _ (plan_in c.args.view.bytes.now) c.loop-i.i c.join_entry.ensures.number c.loop-i.invariant.0 c.loop-i.invariant.1) c.in_ok-join_entry.was,
      c.join_entry.ensures.table ∙ ap (λ (u : List ℤ). after_entry u (p.entry c.loop-i.i)) c.loop-i.invariant.1 ∙ sym (after_next _ p c.loop-i.i),
    )

pub returns-clause-number : goal.returns-clause-number
unfolding number_in
returns-clause-number c =
    let end : c.loop-i.i ≡ c.args.view.count = omega arith in
    sym c.loop-i.invariant.0 ∙ ap (entries_refusal _ _) end
