-- Each cause in turn, the second for either list.
use Rattle.std.proofs.Common.{◌≡◌, ◌*◌, ◌<◌, ◌≤◌, List, ℤ, length, true, not, sym, ap, ◌∙◌, arith}
use Rattle.std.proofs.lemmas.Result.{err_from_is_err_and}
use borrow.Author.Tests.{lt-ltb, le-ltb}
use Rattle.definitions.specs.Limits.{entry_length, first_port, second_port}
use Rattle.definitions.specs.Order.{in_order}
use Rattle.definitions.specs.Tick.{port_waiting, list_short, tick_refusal}
use Rattle.definitions.proofs.Facts.{facts}
use Rattle.definitions.proofs.Refusals.{first_here, first_past, first_end}
use Rattle.answers.specs.Answers.{number_in}
use Rattle.ticking.proofs.Waiting.{few}
use Rattle.ticking.proofs.tick_refusal.Goals as goal

module _ (t a b : List ℤ) (order : in_order t ≡ true) where
  short_first : length a < entry_length * port_waiting t first_port → tick_refusal t a b ≡ 13
  unfolding tick_refusal list_short
  short_first h = first_past 1 _ _ (ap not order) ∙ first_here 13 _ _ (rw (lt-ltb _ _ h))

  short_second : entry_length * port_waiting t first_port ≤ length a → length b < entry_length * port_waiting t second_port → tick_refusal t a b ≡ 13
  unfolding tick_refusal list_short
  short_second g h = first_past 1 _ _ (ap not order) ∙ first_here 13 _ _ (rw (le-ltb _ _ g, lt-ltb _ _ h))

  long_enough : entry_length * port_waiting t first_port ≤ length a → entry_length * port_waiting t second_port ≤ length b → tick_refusal t a b ≡ 0
  unfolding tick_refusal list_short
  long_enough g h = first_past 1 _ _ (ap not order) ∙ first_past 13 _ _ (rw (le-ltb _ _ g, le-ltb _ _ h)) ∙ first_end

pub returns-in_err-judge : goal.returns-in_err-judge
unfolding number_in tick_refusal
returns-in_err-judge c =
    let p = err_from_is_err_and c.from_residual.result c.from_residual.ensures.1 in
    rw (p.1, p.2, c.in_err-judge.ensures.0) (record { first = sym (first_here 1 _ _ (ap not c.in_err-judge.ensures.1)) })

pub overflow_mul-waiting : goal.overflow_mul-waiting
overflow_mul-waiting c = omega (arith, few _ (facts _ c.in_ok-judge.field-0.in_order) first_port)

pub overflow_mul-waiting-2 : goal.overflow_mul-waiting-2
overflow_mul-waiting-2 c = omega (arith, few _ (facts _ c.in_ok-judge.field-0.in_order) second_port)

pub returns-then-first-waiting : goal.returns-then-first-waiting
unfolding number_in
returns-then-first-waiting c =
    let count = rw c.in_ok-judge.ensures.0 at c.waiting_by_port-waiting.ensures in
    record { first = sym (short_first _ _ _ c.in_ok-judge.ensures.1 (omega arith)) }

pub returns-then-second-waiting : goal.returns-then-second-waiting
unfolding number_in
returns-then-second-waiting c =
    let count = rw c.in_ok-judge.ensures.0 at c.waiting_by_port-waiting.ensures in
    record { first = sym (short_second _ _ _ c.in_ok-judge.ensures.1 (omega arith) (omega arith)) }

pub returns : goal.returns
unfolding number_in
returns c =
    let count = rw c.in_ok-judge.ensures.0 at c.waiting_by_port-waiting.ensures in
    record { first = sym (long_enough _ _ _ c.in_ok-judge.ensures.1 (omega arith) (omega arith)) }
