-- Scenarios: calls on a table, one after the other, each with what it must give. What comes of join, leave, change share, change
-- rate, set minute, request and tick is said in runs/specs; of the others in definitions/specs.
use Rattle.std.specs.Prelude.{ℕ, zero, suc, ◌-◌, ◌≡◌, true, false, List, [], ◌∷◌, ◌++◌, length, take, drop, replicate, ℤ, pos}
use Rattle.definitions.specs.Limits.{table_length, balance_at, first_port}
use Rattle.definitions.specs.Places.{put, put_header}
use Rattle.definitions.specs.Order.{in_order}
use Rattle.definitions.specs.Refusals.{Outcome, accepted, refused}
use Rattle.definitions.specs.Calls.{open_table, open_answer, look_answer, same_answer}
use Rattle.runs.specs.Runs.{Call as RunCall, join as run_join, leave as run_leave, change_share as run_change_share, change_rate as run_change_rate, set_minute as run_set_minute, request as run_request, tick as run_tick, after as after_call}

-- A call with any whole numbers for its arguments: one of those of runs/specs, open, look, or same. Same has the table that was
-- kept last for its first table and the table as it is for its second. A tick stands in a step of its own, which says its lists, too.
pub data Call : Type 0 where
  made : RunCall → Call
  open_ℤ : (rate depth : ℤ) → Call
  look_ℤ : (node : ℤ) → Call
  same : Call

abbrev pub join_ℤ : (node parent sort kind share depth port : ℤ) → Call
join_ℤ node parent sort kind share depth port = made (run_join node parent sort kind share depth port)

abbrev pub leave_ℤ : (node : ℤ) → Call
leave_ℤ node = made (run_leave node)

abbrev pub change_share_ℤ : (node kind share : ℤ) → Call
change_share_ℤ node kind share = made (run_change_share node kind share)

abbrev pub change_rate_ℤ : (rate : ℤ) → Call
change_rate_ℤ rate = made (run_change_rate rate)

abbrev pub set_minute_ℤ : (plan : List ℕ) (windows : List ℤ) (minute : ℤ) → Call
set_minute_ℤ plan windows minute = made (run_set_minute plan windows minute)

abbrev pub request_ℤ : (client tag size : ℤ) → Call
request_ℤ client tag size = made (run_request client tag size)

-- The same calls with natural numbers. `disk` is open, with the disk's rate and the root's depth; `join` is on the first port.
abbrev pub disk : (rate depth : ℕ) → Call
disk rate depth = open_ℤ (pos rate) (pos depth)

abbrev pub join_on : (port node parent sort kind share depth : ℕ) → Call
join_on port node parent sort kind share depth = join_ℤ (pos node) (pos parent) (pos sort) (pos kind) (pos share) (pos depth) (pos port)

abbrev pub join : (node parent sort kind share depth : ℕ) → Call
join = join_on first_port

abbrev pub leave : (node : ℕ) → Call
leave node = leave_ℤ (pos node)

abbrev pub change_share : (node kind share : ℕ) → Call
change_share node kind share = change_share_ℤ (pos node) (pos kind) (pos share)

abbrev pub change_rate : (rate : ℕ) → Call
change_rate rate = change_rate_ℤ (pos rate)

abbrev pub set_minute : (plan : List ℕ) (windows : List ℤ) (minute : ℕ) → Call
set_minute plan windows minute = set_minute_ℤ plan windows (pos minute)

abbrev pub request : (client tag size : ℕ) → Call
request client tag size = request_ℤ (pos client) (pos tag) (pos size)

abbrev pub look : (node : ℕ) → Call
look node = look_ℤ (pos node)

-- A tick, with the lengths of the lists that it is lent; with the second list empty; and an entry of a list.
pub data Tick : Type 0 where
  tick_both : (first_length second_length : ℕ) → Tick

abbrev pub tick : (first_length : ℕ) → Tick
tick n = tick_both n 0

pub data Dispatch : Type 0 where
  dispatch : (client tag size supplier : ℕ) → Dispatch

-- A change of the table by no call: a number put at a place of a node or of the header; the last number taken off; a zero
-- put behind the last.
pub data Change : Type 0 where
  at_place : (node place : ℕ) (number : ℤ) → Change
  at_header : (place : ℕ) (number : ℤ) → Change
  one_less one_more : Change

-- A step: a call that must give an answer; a tick that must give an answer and leave two lists; the table kept for same; a
-- change after which the table must be in order; one after which it must not be.
infix 70 ◌gives◌ ◌answers◌leaving◌and◌
pub data Step : Type 0 where
  ◌gives◌ : Call → Outcome → Step
  ◌answers◌leaving◌and◌ : Tick → Outcome → List ℤ → List ℤ → Step
  keep : Step
  fits spoils : Change → Step

abbrev pub Scenario : Type 0
Scenario = List Step

-- Accepted with one number; the two counts of a tick; and what look returns: rate, balance, waiting count and lost grains.
abbrev pub number : ℕ → Outcome
number n = accepted (pos n ∷ [])

abbrev pub counts : ℕ → ℕ → Outcome
counts first second = accepted (pos first ∷ pos second ∷ [])

abbrev pub seen : ℕ → ℤ → ℕ → ℕ → Outcome
seen rate balance waiting lost = accepted (pos rate ∷ balance ∷ pos waiting ∷ pos lost ∷ [])

-- The greatest number that a place or an argument can have.
abbrev pub greatest_number : ℕ
greatest_number = 9223372036854775807

-- The lists that a tick is lent, sevens and eights, and the call.
unfoldable pub first_lent : Tick → List ℤ
first_lent (tick_both n m) = replicate n (pos 7)

unfoldable pub second_lent : Tick → List ℤ
second_lent (tick_both n m) = replicate m (pos 8)

abbrev pub ticks : Tick → RunCall
ticks c = run_tick (first_lent c) (second_lent c)

-- The numbers of dispatches in a list.
unfoldable pub entries : List Dispatch → List ℤ
entries [] = []
entries (dispatch client tag size supplier ∷ dispatches) = pos client ∷ pos tag ∷ pos size ∷ pos supplier ∷ entries dispatches

-- A list with dispatches at its start; beyond them it is as it came.
abbrev pub begins : List Dispatch → List ℤ → List ℤ
begins dispatches list = entries dispatches ++ drop (length (entries dispatches)) list

-- A tick that must list dispatches on both lists: it answers how many on each, and beyond them the lists stay untouched; or on the
-- first alone. A tick that must be refused with a number: it leaves the lists as they were. A balance put into the table.
infix 70 ◌lists◌and◌ ◌lists◌ ◌refuses◌
abbrev pub ◌lists◌and◌ : Tick → List Dispatch → List Dispatch → Step
c lists first and second =
    c answers counts (length first) (length second) leaving begins first (first_lent c) and begins second (second_lent c)

abbrev pub ◌lists◌ : Tick → List Dispatch → Step
c lists dispatches = c lists dispatches and []

abbrev pub ◌refuses◌ : Tick → ℕ → Step
c refuses refusal = c answers refused refusal leaving first_lent c and second_lent c

abbrev pub set_balance : (node : ℕ) (balance : ℤ) → Step
set_balance node balance = fits (at_place node balance_at balance)

-- A step n times, and then the others.
abbrev pub times : ℕ → Step → Scenario → Scenario
times zero step steps = steps
times (suc n) step steps = step ∷ times n step steps

-- What a call answers, and the table after it.
unfoldable pub answer : Call → (kept t : List ℤ) → Outcome
answer (made call) kept t = (after_call t call).answer
answer (open_ℤ rate depth) kept t = open_answer t rate depth
answer (look_ℤ node) kept t = look_answer t node
answer same kept t = same_answer kept t

unfoldable pub called : Call → List ℤ → List ℤ
called (made call) t = (after_call t call).table
called (open_ℤ rate depth) t = open_table t rate depth
called (look_ℤ node) t = t
called same t = t

-- The table after a change.
unfoldable pub changed : Change → List ℤ → List ℤ
changed (at_place node place number) t = put t node place number
changed (at_header place number) t = put_header t place number
changed one_less t = take (length t - 1) t
changed one_more t = t ++ (pos 0 ∷ [])

-- What a step says of the kept table and the table t.
unfoldable pub Says : Step → (kept t : List ℤ) → Type 0
Says (c gives outcome) kept t = answer c kept t ≡ outcome
Says (c answers outcome leaving first and second) kept t =
    ((after_call t (ticks c)).answer ≡ outcome) × ((after_call t (ticks c)).first ≡ first) × ((after_call t (ticks c)).second ≡ second)
Says keep kept t = Unit {0}
Says (fits change) kept t = in_order (changed change t) ≡ true
Says (spoils change) kept t = in_order (changed change t) ≡ false

-- The table after a step, and the kept one.
unfoldable pub after : Step → List ℤ → List ℤ
after (c gives outcome) t = called c t
after (c answers outcome leaving first and second) t = (after_call t (ticks c)).table
after keep t = t
after (fits change) t = changed change t
after (spoils change) t = changed change t

unfoldable pub kept_after : Step → (kept t : List ℤ) → List ℤ
kept_after (c gives outcome) kept t = kept
kept_after (c answers outcome leaving first and second) kept t = kept
kept_after keep kept t = t
kept_after (fits change) kept t = kept
kept_after (spoils change) kept t = kept

-- That all steps hold, one after the other.
unfoldable pub Hold : Scenario → (kept t : List ℤ) → Type 0
Hold [] kept t = Unit {0}
Hold (step ∷ steps) kept t = Says step kept t × Hold steps (kept_after step kept t) (after step t)

-- A table of sevens, which is not in order: only open takes it.
unfoldable pub sevens : List ℤ
sevens = replicate table_length (pos 7)

-- That a scenario passes, from a table of sevens.
unfoldable pub Passes : Scenario → Type 0
Passes steps = Hold steps sevens sevens
