-- A refused call leaves the table as it was. A call's table and answer go by one refusal number, so its answer tells which table it
-- leaves.
use Prim.Native.Nat.{ℕ}
use mathlib.Core.Path.{◌≡◌, ap}
use mathlib.Core.Bool.{true, false}
use mathlib.Core.List.{List}
use native.Mathlib.Decide.{ℕ_discrete}
use lib.IntN.{ℤ}
use Rattle.numbers.proofs.Tests.{true_false}
use Rattle.definitions.specs.Refusals.{outcome, kept}
use Rattle.definitions.specs.Calls.{join_table, join_answer, leave_table, leave_answer, change_share_table, change_share_answer, change_rate_table, change_rate_answer, request_table, request_answer}
use Rattle.definitions.specs.Tick.{tick_table, tick_answer}
use Rattle.hourlaws.specs.SetMinute.{set_minute_table, set_minute_answer}
use Rattle.definitions.proofs.Refusals.{kept_old, outcome_accepted, outcome_refused}
use Rattle.runs.specs.Runs.{Call, join, leave, change_share, change_rate, set_minute, request, tick, after, accepts}

module _ (refusal : ℕ) (values : List ℤ) where
  -- An answer that accepts has no refusal.
  pub accepted_none : accepts (outcome refusal values) ≡ true → refusal ≡ 0
  unfolding accepts
  accepted_none h =
      elim (ℕ_discrete refusal 0) [
        | yes e ↦ e
        | no ne ↦ absurd (true_false h (ap accepts (outcome_refused refusal values ne)))
      ]

  kept_refused : (new old : List ℤ) → accepts (outcome refusal values) ≡ false → kept refusal new old ≡ old
  unfolding accepts
  kept_refused new old h = kept_old refusal new old (λ e. true_false (ap accepts (outcome_accepted refusal values e)) h)

pub refused_keeps : (t : List ℤ) (call : Call) → accepts (after t call).answer ≡ false → (after t call).table ≡ t
unfolding after join_table join_answer leave_table leave_answer change_share_table change_share_answer change_rate_table change_rate_answer set_minute_table set_minute_answer request_table request_answer tick_table tick_answer
refused_keeps t (join node parent sort kind share depth port) h = kept_refused _ _ _ t h
refused_keeps t (leave node) h = kept_refused _ _ _ t h
refused_keeps t (change_share node kind share) h = kept_refused _ _ _ t h
refused_keeps t (change_rate rate) h = kept_refused _ _ _ t h
refused_keeps t (set_minute plan windows minute) h = kept_refused _ _ _ t h
refused_keeps t (request client tag size) h = kept_refused _ _ _ t h
refused_keeps t (tick first second) h = kept_refused _ _ _ t h
