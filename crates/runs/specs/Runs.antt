-- Lists of calls on a table: what each call leaves, and what its caller sees of it. Document 01, "What demand 3 counts", and
-- document 02, (h): set minute is one of them.
-- Answers, tables and lists are those of the definitions that the calls' contracts cite.
use Rattle.std.specs.Prelude.{ℕ, Bool, true, false, List, [], ◌∷◌, eqb, ℤ}
use Rattle.numbers.specs.Whole.{plus}
use Rattle.definitions.specs.Refusals.{Outcome, accepted, refused}
use Rattle.definitions.specs.Calls.{join_table, join_answer, leave_table, leave_answer, change_share_table, change_share_answer, change_rate_table, change_rate_answer, request_table, request_answer}
use Rattle.definitions.specs.Tick.{tick_table, tick_answer, tick_first, tick_second}
use Rattle.hourlaws.specs.SetMinute.{set_minute_table, set_minute_answer}

-- A call with any arguments and, for a tick, any dispatch lists.
pub data Call : Type 0 where
  -- `accounts::join` ensures join_table and join_answer.
  join : (node parent sort kind share depth port : ℤ) → Call
  -- `accounts::leave` ensures leave_table and leave_answer.
  leave : (node : ℤ) → Call
  -- `accounts::change_share` ensures change_share_table and change_share_answer.
  change_share : (node kind share : ℤ) → Call
  -- `accounts::change_rate` ensures change_rate_table and change_rate_answer.
  change_rate : (rate : ℤ) → Call
  -- `setting::set_minute` ensures set_minute_table and set_minute_answer.
  set_minute : (plan : List ℕ) (windows : List ℤ) (minute : ℤ) → Call
  -- `accounts::request` ensures request_table and request_answer.
  request : (client tag size : ℤ) → Call
  -- `accounts::tick` ensures tick_table, tick_first, tick_second and tick_answer.
  tick : (first second : List ℤ) → Call

-- What comes of a call: the table and the answer and, for a tick, both lists.
pub record After : Type 0 where
  pub table : List ℤ
  pub answer : Outcome
  pub first : List ℤ
  pub second : List ℤ

-- What comes of a call that has no lists.
abbrev pub without_lists : List ℤ → Outcome → After
without_lists table answer = record { table = table; answer = answer; first = []; second = [] }

-- What comes of a call on the table t.
unfoldable pub after : List ℤ → Call → After
after t (join node parent sort kind share depth port) =
    without_lists (join_table t node parent sort kind share depth port) (join_answer t node parent sort kind share depth port)
after t (leave node) = without_lists (leave_table t node) (leave_answer t node)
after t (change_share node kind share) = without_lists (change_share_table t node kind share) (change_share_answer t node kind share)
after t (change_rate rate) = without_lists (change_rate_table t rate) (change_rate_answer t rate)
after t (set_minute plan windows minute) = without_lists (set_minute_table t plan windows minute) (set_minute_answer t plan windows minute)
after t (request client tag size) = without_lists (request_table t client tag size) (request_answer t client tag size)
after t (tick first second) =
    record {
      table = tick_table t first second;
      answer = tick_answer t first second;
      first = tick_first t first second;
      second = tick_second t first second;
    }

-- Whether a call is a tick.
unfoldable pub is_tick : Call → Bool
is_tick (join node parent sort kind share depth port) = false
is_tick (leave node) = false
is_tick (change_share node kind share) = false
is_tick (change_rate rate) = false
is_tick (set_minute plan windows minute) = false
is_tick (request client tag size) = false
is_tick (tick first second) = true

-- Whether a call takes node c out where it is accepted.
unfoldable pub leaves : ℕ → Call → Bool
leaves c (join node parent sort kind share depth port) = false
leaves c (leave node) = eqb (plus node) c
leaves c (change_share node kind share) = false
leaves c (change_rate rate) = false
leaves c (set_minute plan windows minute) = false
leaves c (request client tag size) = false
leaves c (tick first second) = false

-- Whether an answer accepts.
unfoldable pub accepts : Outcome → Bool
accepts (accepted values) = true
accepts (refused number) = false

-- What the caller sees: the call, its answer and, for a tick, both lists after it.
pub record Event : Type 0 where
  pub call : Call
  pub answer : Outcome
  pub first : List ℤ
  pub second : List ℤ

-- What the caller sees of a call on the table t.
unfoldable pub event_of : List ℤ → Call → Event
event_of t c = record { call = c; answer = (after t c).answer; first = (after t c).first; second = (after t c).second }

-- The events of a list of calls that begins at the table t.
unfoldable pub events : List ℤ → List Call → List Event
events t [] = []
events t (c ∷ calls) = event_of t c ∷ events (after t c).table calls

-- The table after all of them.
unfoldable pub table_after_all : List ℤ → List Call → List ℤ
table_after_all t [] = t
table_after_all t (c ∷ calls) = table_after_all (after t c).table calls
