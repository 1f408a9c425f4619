-- What reading the plan answers.
use Rattle.std.proofs.Common.{◌≡◌, ℕ, ◌-◌, List, length, take, drop, length-drop, ap, arith}
use lib.Seq.{take_all}
use Rattle.std.proofs.lemmas.Result.{err_from_is_err_and}
use Rattle.definitions.specs.Refusals.{number_told}
use Rattle.answers.specs.Answers.{number_in, told}
use Rattle.loadformat.specs.Text.{plan_at}
use Rattle.loadformat.proofs.Inputs.{plan_read}
use Rattle.loadinput.proofs.read_input.Goals as goal

behind_head : (s : List ℕ) → take (length s - plan_at) (drop plan_at s) ≡ drop plan_at s
behind_head s = take_all (length s - plan_at) (drop plan_at s) (omega (arith, length-drop plan_at s))

pub returns-in_err-read-clause-number : goal.returns-in_err-read-clause-number
unfolding number_in told number_told
returns-in_err-read-clause-number c =
    let p = err_from_is_err_and c.from_residual.result c.from_residual.ensures.1 in
    rw (p.1, p.2) (plan_read c.args.input.now _ _ _ _ c.if-input-lt-PLAN_AT.false (behind_head c.args.input.now) c.requires (ap number_told c.in_err-read.ensures.answer) c.read.ensures.table).0

pub returns-clause-number : goal.returns-clause-number
unfolding number_in told number_told
returns-clause-number c =
    (plan_read c.args.input.now _ _ _ _ c.if-input-lt-PLAN_AT.false (behind_head c.args.input.now) c.requires (ap number_told c.in_ok-read.ensures.answer) c.read.ensures.table).0

pub returns-clause-table : goal.returns-clause-table
unfolding number_in told number_told
returns-clause-table c =
    (plan_read c.args.input.now _ _ _ _ c.if-input-lt-PLAN_AT.false (behind_head c.args.input.now) c.requires (ap number_told c.in_ok-read.ensures.answer) c.read.ensures.table).1
