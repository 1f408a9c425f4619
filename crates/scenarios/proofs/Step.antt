-- The short form of a step, and what is known from one step to the next: whether the table is in order, which every call keeps, and what
-- reading the last plan gave. Neither is computed again.
use Prim.Native.Nat.{ℕ}
use mathlib.Core.Path.{◌≡◌, refl, sym, ap, ap₂, ◌∙◌}
use mathlib.Core.Bool.{Bool, true, false, ◌&&◌, ◌||◌, true≢false}
use mathlib.Core.List.{List, [], ◌∷◌}
use mathlib.Core.Logic.{inl, inr}
use borrow.Author.Tests.{eqb-true}
use lib.Dec.{eqb}
use lib.IntN.{ℤ}
use Rattle.numbers.specs.Whole.{plus}
use Rattle.numbers.proofs.Tests.{and_left, and_right, or_cases}
use Rattle.definitions.specs.Rates.{renewed}
use Rattle.definitions.specs.Order.{in_order}
use Rattle.definitions.specs.Calls.{open_refusal, join_table, join_answer, leave_table, leave_answer, change_share_table, change_share_answer, change_rate_table, change_rate_answer, request_table, request_answer, look_answer, same_tree, same_answer}
use Rattle.definitions.specs.Tick.{tick_table, tick_first, tick_second, tick_answer, tick_refusal, ticked, port_entries, port_count}
use Rattle.calllaws.proofs.Ready.{kept_in_order}
use Rattle.calllaws.proofs.Open.{open_keeps, open_keeps_order}
use Rattle.calllaws.proofs.Join.{join_keeps_order}
use Rattle.calllaws.proofs.Leave.{leave_keeps_order}
use Rattle.calllaws.proofs.ChangeShare.{change_share_keeps_order}
use Rattle.calllaws.proofs.ChangeRate.{change_rate_keeps_order}
use Rattle.calllaws.proofs.Request.{request_keeps_order}
use Rattle.ticklaws.proofs.Keeps.{tick_keeps}
use Rattle.hourlaws.specs.SetMinute.{planned, set_minute_table, set_minute_answer}
use Rattle.hourlaws.proofs.Kept.{set_minute_keeps_order}
use Rattle.runs.specs.Runs.{Call as RunCall, join, leave, change_share, change_rate, set_minute, request, tick, after as after_call}
use Rattle.scenarios.specs.Scenario.{made, open_ℤ, look_ℤ, same, Step, ◌gives◌, ◌answers◌leaving◌and◌, keep, fits, spoils, first_lent, second_lent, ticks, answer, called, changed, after, kept_after}
use Rattle.scenarios.proofs.Judge.{holds}
use Rattle.scenarios.proofs.Near.{place_is, tree_is}
use Rattle.scenarios.proofs.Short.{Short, ShortIf, with, by_if, with_if, is, rates_are, Ordered, short_in_order, short_join_refusal, short_leave_refusal, short_change_share_refusal, short_change_rate_refusal, short_same_refusal, short_request_refusal, short_look_refusal, short_lost, short_ports, short_tick_refusal, short_ticked}
use Rattle.scenarios.proofs.Plan.{Read, read_plan, short_plan, short_set_minute_refusal, short_minute_table}

-- Whether two lists of bytes are the same.
unfoldable pub same_bytes : List ℕ → List ℕ → Bool
same_bytes [] [] = true
same_bytes [] (y ∷ ys) = false
same_bytes (x ∷ xs) [] = false
same_bytes (x ∷ xs) (y ∷ ys) = eqb x y && same_bytes xs ys

same_bytes_law : (xs ys : List ℕ) → same_bytes xs ys ≡ true → xs ≡ ys
unfolding same_bytes
same_bytes_law [] [] h = refl
same_bytes_law [] (y ∷ ys) h = absurd (true≢false (sym h))
same_bytes_law (x ∷ xs) [] h = absurd (true≢false (sym h))
same_bytes_law (x ∷ xs) (y ∷ ys) h =
    ap₂ (λ (z : ℕ) (zs : List ℕ). z ∷ zs) (eqb-true x y (and_left (eqb x y) (same_bytes xs ys) h))
    (same_bytes_law xs ys (and_right (eqb x y) (same_bytes xs ys) h))

-- A value that is computed once.
unfoldable pub once : {A : Type 0} (x : A) → Short x
once x = record { value = x; same = refl }

-- The plan that was read last: its bytes, and what reading them gives.
pub record LastPlan : Type 0 where
  pub bytes : List ℕ
  pub reading : Short (read_plan bytes)

-- The plan s, where the one that was read last is not read again.
unfoldable pub read_again : LastPlan → List ℕ → LastPlan
read_again plan s = elim (same_bytes s plan.bytes) [ true ↦ plan | false ↦ record { bytes = s; reading = short_plan s } ]

pub again_is : (plan : LastPlan) (s : List ℕ) → read_plan s ≡ (read_again plan s).reading.value
unfolding read_again
again_is plan s = cases (same_bytes s plan.bytes) (λ h. ap read_plan (same_bytes_law s plan.bytes h) ∙ plan.reading.same)
  where
    cases : (b : Bool) → (b ≡ true → read_plan s ≡ plan.reading.value) → read_plan s ≡ (elim b as (λ _. LastPlan) [ true ↦ plan | false ↦ record { bytes = s; reading = short_plan s } ]).reading.value
    cases true f = f refl
    cases false f = (short_plan s).same

pub table_is : (s : List ℕ) (plan : Read) → read_plan s ≡ plan → planned s ≡ plan.table
unfolding read_plan
table_is s plan read = ap (λ (r : Read). r.table) read

-- What is known: whether the table is in order, and the plan that was read last.
pub record Known : Type 0 where
  pub ordered : Bool
  pub plan : LastPlan

-- What is known at first: nothing of the table, and the plan without bytes.
unfoldable pub nothing : Known
nothing = record { ordered = false; plan = record { bytes = []; reading = short_plan [] } }

-- The plan that was read last after a call.
unfoldable pub plan_after : RunCall → LastPlan → LastPlan
plan_after (join node parent sort kind share depth port) plan = plan
plan_after (leave node) plan = plan
plan_after (change_share node kind share) plan = plan
plan_after (change_rate rate) plan = plan
plan_after (set_minute s windows minute) plan = read_again plan s
plan_after (request client tag size) plan = plan
plan_after (tick first second) plan = plan

-- What is known after a step: every call leaves a table in order that was in order.
unfoldable pub known_after : Step → List ℤ → Known → Known
known_after (made call gives o) t known = record { ordered = known.ordered; plan = plan_after call known.plan }
known_after (open_ℤ rate depth gives o) t known = record { ordered = eqb (open_refusal t rate depth) 0 || known.ordered; plan = known.plan }
known_after (look_ℤ node gives o) t known = known
known_after (same gives o) t known = known
known_after (c answers o leaving first and second) t known = known
known_after keep t known = known
known_after (fits change) t known = record { ordered = in_order (changed change t); plan = known.plan }
known_after (spoils change) t known = record { ordered = false; plan = known.plan }

call_keeps_order : (t : List ℤ) (call : RunCall) → in_order t ≡ true → in_order (after_call t call).table ≡ true
unfolding after_call tick_table
call_keeps_order t (join node parent sort kind share depth port) h = join_keeps_order t node parent sort kind share depth port h
call_keeps_order t (leave node) h = leave_keeps_order t node h
call_keeps_order t (change_share node kind share) h = change_share_keeps_order t node kind share h
call_keeps_order t (change_rate rate) h = change_rate_keeps_order t rate h
call_keeps_order t (set_minute plan windows minute) h = set_minute_keeps_order t plan windows minute h
call_keeps_order t (request client tag size) h = request_keeps_order t client tag size h
call_keeps_order t (tick first second) h = kept_in_order (tick_refusal t first second) (ticked t).table t (λ _. tick_keeps t h) h

pub ordered_after : (step : Step) (t : List ℤ) (known : Known) → Ordered t known.ordered → Ordered (after step t) (known_after step t known).ordered
unfolding known_after after called
ordered_after (made call gives o) t known order h = call_keeps_order t call (order h)
ordered_after (open_ℤ rate depth gives o) t known order h =
    elim (or_cases (eqb (open_refusal t rate depth) 0) known.ordered h) [
      | inl e ↦ open_keeps t rate depth (eqb-true (open_refusal t rate depth) 0 e)
      | inr e ↦ open_keeps_order t rate depth (order e)
    ]
ordered_after (look_ℤ node gives o) t known order h = order h
ordered_after (same gives o) t known order h = order h
ordered_after (c answers o leaving first and second) t known order h = call_keeps_order t (ticks c) (order h)
ordered_after keep t known order h = order h
ordered_after (fits change) t known order h = h
ordered_after (spoils change) t known order h = absurd (true≢false (sym h))

-- A step, and a test of what comes after it. The refusal, and what a tick does, are computed once for both.
unfoldable pub short_step : (step : Step) (rest : (kept t : List ℤ) → Known → Bool) (kept t : List ℤ) (known : Known) → ShortIf (Ordered t known.ordered) (holds step kept t && rest (kept_after step kept t) (after step t) (known_after step t known))
unfolding holds after kept_after known_after plan_after answer called after_call changed join_table join_answer leave_table leave_answer change_share_table change_share_answer change_rate_table change_rate_answer set_minute_table set_minute_answer request_table request_answer look_answer same_tree same_answer tick_table tick_first tick_second tick_answer port_count port_entries renewed
short_step (made (join node parent sort kind share depth port) gives o) rest kept t known =
    with_if (short_join_refusal t known.ordered node parent sort kind share depth port) (λ n. by_if (λ h y e. simp (h.1, tree_is, rates_are) at e))
short_step (made (leave node) gives o) rest kept t known =
    with_if (short_leave_refusal t known.ordered node) (λ n. by_if (λ h y e. simp (h.1, tree_is, rates_are) at e))
short_step (made (change_share node kind share) gives o) rest kept t known =
    with_if (short_change_share_refusal t known.ordered node kind share) (λ n. by_if (λ h y e. simp (h.1, tree_is, rates_are) at e))
short_step (made (change_rate rate) gives o) rest kept t known =
    with_if (short_change_rate_refusal t known.ordered rate) (λ n. by_if (λ h y e. simp (h.1, tree_is, rates_are) at e))
short_step (made (set_minute s windows minute) gives o) rest kept t known =
    with (once (read_again known.plan s))
    (λ plan again.
    let read : read_plan s ≡ plan.reading.value = again_is known.plan s ∙ ap (λ (l : LastPlan). l.reading.value) again in
    with_if (short_set_minute_refusal t known.ordered s plan.reading.value read windows minute)
    (λ n. by_if (λ h y e. simp (h.1, again, table_is s plan.reading.value read, (short_minute_table t plan.reading.value.table windows (plus minute)).same) at e)))
short_step (made (request client tag size) gives o) rest kept t known =
    with_if (short_request_refusal t known.ordered client tag size) (λ n. by_if (λ h y e. simp h.1 at e))
short_step (made (tick first second) gives o) rest kept t known =
    with_if (short_tick_refusal t known.ordered first second) (λ n. with (short_ticked t) (λ st k. by_if (λ h y e. simp (h.1, k, is short_ports) at e)))
short_step (open_ℤ rate depth gives o) rest kept t known = record { value = _; same = λ _. refl }
short_step (look_ℤ node gives o) rest kept t known =
    with_if (short_look_refusal t known.ordered node) (λ n. by_if (λ h y e. simp (h.1, is (short_lost t)) at e))
short_step (same gives o) rest kept t known = with (short_same_refusal kept t) (λ n h. by_if (λ _ y e. simp (h, place_is) at e))
short_step (c answers o leaving first and second) rest kept t known =
    with_if (short_tick_refusal t known.ordered (first_lent c) (second_lent c)) (λ n. with (short_ticked t) (λ st k. by_if (λ h y e. simp (h.1, k, is short_ports) at e)))
short_step keep rest kept t known = record { value = _; same = λ _. refl }
short_step (fits change) rest kept t known = with (short_in_order (changed change t)) (λ b h. by_if (λ _ y e. simp h at e))
short_step (spoils change) rest kept t known = by_if (λ _ y e. simp (is short_in_order) at e)
