-- Demand 3. The opened table agrees with the observer, every call keeps that, and the laws of one call give the three
-- claims over a stretch.
use Prim.Native.Nat.{ℕ}
use mathlib.Core.Path.{◌≡◌, refl}
use mathlib.Core.Bool.{true}
use mathlib.Core.List.{List}
use lib.ListN.{take, drop}
use lib.IntN.{ℤ}
use Rattle.numbers.proofs.Tests.{by_test}
use Rattle.definitions.specs.Calls.{open_refusal, open_table, join_table, join_answer, leave_table, leave_answer, change_share_table, change_share_answer, change_rate_table, change_rate_answer, request_table, request_answer}
use Rattle.hourlaws.specs.SetMinute.{set_minute_table, set_minute_answer}
use Rattle.runs.specs.Runs.{Call, join, leave, change_share, change_rate, set_minute, request, tick, after, is_tick, accepts, events, table_after_all}
use Rattle.bounds.specs.Observer.{Observer, start, observed_all}
use Rattle.bounds.specs.Demand.{Bounds, Demand3}
use Rattle.bounds.specs.Levels.{ByLevel}
use Rattle.bounds.proofs.Simulation.{Agrees, Step, Steps}
use Rattle.bounds.proofs.Telescope.{agrees_all}
use Rattle.bounds.proofs.Stretch.{bounds_from, levels_from}
use Rattle.bounds.proofs.Opened.{opened_agrees}
use Rattle.bounds.proofs.Join.{join_change}
use Rattle.bounds.proofs.Leave.{leave_change}
use Rattle.bounds.proofs.ChangeShare.{share_change}
use Rattle.bounds.proofs.ChangeRate.{rate_change}
use Rattle.bounds.proofs.SetMinute.{minute_change}
use Rattle.bounds.proofs.Request.{request_change}
use Rattle.bounds.proofs.CallSteps.{quiet_step, refused_step}
use Rattle.bounds.proofs.TickSteps.{tick_step}

-- The laws of each accepted call: the one list of calls in these proofs.
accepted_step : (t : List ℤ) (o : Observer) (call : Call) → Agrees t o → accepts (after t call).answer ≡ true → Step t o call
unfolding after is_tick join_table join_answer leave_table leave_answer change_share_table change_share_answer change_rate_table change_rate_answer set_minute_table set_minute_answer request_table request_answer
accepted_step t o (join node parent sort kind share depth port) a h =
    quiet_step t o (join node parent sort kind share depth port) _ _ _ refl refl h (join_change t o node parent sort kind share depth port a)
accepted_step t o (leave node) a h = quiet_step t o (leave node) _ _ _ refl refl h (leave_change t o node a)
accepted_step t o (change_share node kind share) a h = quiet_step t o (change_share node kind share) _ _ _ refl refl h (share_change t o node kind share a)
accepted_step t o (change_rate rate) a h = quiet_step t o (change_rate rate) _ _ _ refl refl h (rate_change t o rate a)
accepted_step t o (set_minute plan windows minute) a h =
    quiet_step t o (set_minute plan windows minute) _ _ _ refl refl h (minute_change t o plan windows minute a)
accepted_step t o (request client tag size) a h = quiet_step t o (request client tag size) _ _ _ refl refl h (request_change t o client tag size a)
accepted_step t o (tick first second) a h = tick_step t o first second a h

pub steps : Steps
steps t o call a = by_test (accepts (after t call).answer) (accepted_step t o call a) (refused_step t o call a)

-- The table before a stretch agrees with the observer.
before_agrees :
    (t : List ℤ) (rate depth : ℤ) (before : List Call) → open_refusal t rate depth ≡ 0
    → Agrees (table_after_all (open_table t rate depth) before) (observed_all (start rate depth) (events (open_table t rate depth) before))
before_agrees t rate depth before h = agrees_all steps (open_table t rate depth) (start rate depth) before (opened_agrees t rate depth h)

pub demand_3 : Demand3
unfolding Demand3
demand_3 t rate depth before stretch h = bounds_from steps _ _ (before_agrees t rate depth before h) stretch

pub by_level : ByLevel
unfolding ByLevel
by_level t rate depth before stretch h = levels_from steps _ _ (before_agrees t rate depth before h) stretch

-- Demand 3 of one list of calls: the stretch may begin after any of them and have any number of them.
pub every_stretch :
    (t : List ℤ) (rate depth : ℤ) (calls : List Call) (from count : ℕ) → open_refusal t rate depth ≡ 0
    → Bounds (observed_all (start rate depth) (events (open_table t rate depth) (take from calls)))
    (events (table_after_all (open_table t rate depth) (take from calls)) (take count (drop from calls)))
unfolding Demand3
every_stretch t rate depth calls from count h = demand_3 t rate depth (take from calls) (take count (drop from calls)) h
