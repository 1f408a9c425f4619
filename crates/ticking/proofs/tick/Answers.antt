-- Refused, nothing is written; accepted, the four steps are made.
use Rattle.std.proofs.Common.{◌≡◌, ◌*◌, ◌<◌, ◌^◌, ℕ, ℤ, List, [], ◌∷◌, true, pos, length, Ok, Err, sym, ap, ◌∙◌, arith}
use Rattle.std.proofs.lemmas.Result.{err_from_is_err_and}
use borrow.Author.Rules.{sfits_of}
use mir.Syntax.{w64}
use mir.ValLaws.{to_z-of_z}
use Rattle.definitions.specs.Limits.{entry_length, first_port, second_port}
use Rattle.definitions.specs.Order.{in_order}
use Rattle.definitions.specs.Refusals.{outcome}
use Rattle.definitions.specs.Tick.{port_entries, port_count, tick_refusal, tick_table, tick_first, tick_second, tick_answer}
use Rattle.definitions.proofs.Facts.{facts}
use Rattle.definitions.proofs.Refusals.{outcome_accepted, outcome_refused}
use Rattle.order.proofs.Length.{length_first}
use Rattle.ticklaws.proofs.Ports.{port_entries_law}
use Rattle.answers.specs.declared.Refusal.{Refusal}
use Rattle.answers.specs.declared.Refusal.TheVariants.{NotInOrder}
use Rattle.answers.specs.Answers.{number_of, number_in, told_ticked}
use Rattle.answers.proofs.Answers.{numbered, refused_keeps, accepted_leaves}
use Rattle.ticking.proofs.Waiting.{few, tick_passed}
use Rattle.ticking.proofs.tick.Goals as goal

-- What a refused tick and an accepted one tell.
refused_ticks : (why : Refusal) (n : ℕ) (values : List ℤ) → n ≡ number_of why → told_ticked (Err why) ≡ outcome n values
unfolding told_ticked
refused_ticks why n values e = sym (rw e (outcome_refused (number_of why) values (λ z. absurd (omega (arith, numbered why)))))

accepted_ticks : (n : ℕ) {a b x y : ℤ} → n ≡ 0 → a ≡ x → b ≡ y → told_ticked (Ok (record { first = a; second = b })) ≡ outcome n (x ∷ y ∷ [])
unfolding told_ticked
accepted_ticks n zero e g = rw (e, g) (sym (outcome_accepted n _ zero))

-- A count of the code is that of the definition, and small.
counted : (t u : List ℤ) (p n : ℕ) → u ≡ t → entry_length * n ≡ length (port_entries u p) → n ≡ port_count t p
unfolding port_count
counted t u p n same e = let h = rw same at e in omega (arith, h)

small : (t : List ℤ) → in_order t ≡ true → (p n : ℕ) → entry_length * n ≡ length (port_entries t p) → n < 2 ^ 63
small t h p n e = let f = facts t h in omega (arith, e, few t f p, port_entries_law t f p)

pub returns-in_default : goal.returns-in_default
unfolding tick_answer tick_table tick_first tick_second tick_refusal
returns-in_default c =
    let e = length_first _ _ c.in_default.ensures.cases in
    record {
      answer = refused_ticks NotInOrder _ _ e;
      table = refused_keeps NotInOrder _ _ _ e;
      first = refused_keeps NotInOrder _ _ _ e;
      second = refused_keeps NotInOrder _ _ _ e;
    }

pub returns-in_err-tick_refusal : goal.returns-in_err-tick_refusal
unfolding number_in tick_answer tick_table tick_first tick_second
returns-in_err-tick_refusal c =
    let p = err_from_is_err_and c.from_residual.result c.from_residual.ensures.1 in
    let same = c.in-Some.ensures.cases.same in
    let e = sym (rw same at c.in_err-tick_refusal.ensures.first) in
    record {
      answer = rw (p.1, p.2) (refused_ticks _ _ _ e);
      table = same ∙ refused_keeps _ _ _ _ e;
      first = refused_keeps _ _ _ _ e;
      second = refused_keeps _ _ _ _ e;
    }

pub run-counts-requires : goal.run-counts-requires
unfolding number_in
run-counts-requires c = let p = tick_passed _ _ _ (sym c.in_ok-tick_refusal.ensures.first) in (p.order, p.first, p.second)

pub whole-requires : goal.whole-requires
unfolding number_in
whole-requires c =
    let p = tick_passed _ _ _ (sym c.in_ok-tick_refusal.ensures.first) in
    let counts = c.run-counts.ensures.counts in
    omega (arith, small _ p.order first_port _ counts.0, small _ p.order second_port _ counts.1)

pub whole-requires-2 : goal.whole-requires-2
unfolding number_in
whole-requires-2 c =
    let p = tick_passed _ _ _ (sym c.in_ok-tick_refusal.ensures.first) in
    let counts = c.run-counts.ensures.counts in
    omega (arith, small _ p.order first_port _ counts.0, small _ p.order second_port _ counts.1)

pub returns : goal.returns
unfolding number_in tick_answer tick_table tick_first tick_second
returns c =
    let same = c.in-Some.ensures.cases.same in
    let e = sym (rw same at c.in_ok-tick_refusal.ensures.first) in
    let made = c.run-counts.ensures in
    record {
      answer =
          accepted_ticks _ e
          (to_z-of_z w64 _ (sfits_of c.whole.type_inv) ∙ c.whole.ensures ∙ ap pos (counted _ _ first_port _ same made.counts.0))
          (to_z-of_z w64 _ (sfits_of c.whole-2.type_inv) ∙ c.whole-2.ensures ∙ ap pos (counted _ _ second_port _ same made.counts.1));
      table = (rw same at made.table) ∙ accepted_leaves _ _ _ e;
      first = (rw same at made.first) ∙ accepted_leaves _ _ _ e;
      second = (rw same at made.second) ∙ accepted_leaves _ _ _ e;
    }
