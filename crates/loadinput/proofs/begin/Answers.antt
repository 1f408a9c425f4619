-- The load of the input, or the line of the refusal.
use Rattle.std.proofs.Common.{sym, ◌∙◌, arith}
use Rattle.answers.proofs.Answers.{numbered, err_number, ok_number}
use Rattle.loadformat.proofs.Inputs.{accepted_long, refused_begins, accepted_begins}
use Rattle.loadinput.proofs.begin.Goals as goal

pub returns-in-Err-clause-begins : goal.returns-in-Err-clause-begins
returns-in-Err-clause-begins c =
    let number = c.from-number.ensures.0 ∙ sym (err_number c.in-Err.why c.read_input.ensures.number c.in-Err.is) in
    refused_begins _ _ _ _ _ _ number (λ z. absurd (omega (arith, numbered c.in-Err.why))) (rw (c.clear.ensures.bytes, c.clear.ensures.len) at c.put_refused.ensures.put)

pub four-state-requires : goal.four-state-requires
four-state-requires c =
    omega (arith, accepted_long _ (ok_number _ c.read_input.ensures.number c.in_default.is))

pub four-ticks-requires : goal.four-ticks-requires
four-ticks-requires c =
    omega (arith, accepted_long _ (ok_number _ c.read_input.ensures.number c.in_default.is))

pub returns-clause-begins : goal.returns-clause-begins
returns-clause-begins c =
    let accepted = ok_number _ c.read_input.ensures.number c.in_default.is in
    let table = c.read_input.ensures.table (c.read_input.ensures.number ∙ accepted) in
    rw (c.clear.ensures.bytes, c.clear.ensures.len) (accepted_begins _ _ _ _ _ accepted table c.four-state.ensures.four c.four-ticks.ensures.four)
