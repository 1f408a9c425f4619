-- The text that is printed for a load. Document 02, (d).
use Rattle.std.specs.Prelude.{ℕ, zero, suc, ◌+◌, ◌*◌, ◌/◌, cond, List, [], ◌∷◌, ◌++◌, length, get_or, drop, eqb, ltb, ℤ, pos}
use Rattle.numbers.specs.Whole.{plus}
use Rattle.definitions.specs.Limits.{entry_length}
use Rattle.definitions.specs.Refusals.{cause, first}
use Rattle.definitions.specs.Calls.{blank}
use Rattle.definitions.specs.Tick.{State, ticked}
use Rattle.planformat.specs.Bytes.{le4, bytes_below}
use Rattle.planlaws.specs.Reading.{refusing, plan_table, check_answer}
use Rattle.text.specs.Text.{ascii, decimal, refused_line}
use Rattle.asking.specs.Asking.{Load, load_of, asked}

-- The tick that follows on a load's next request: the table after it, and its dispatch entries.
unfoldable pub next_tick : Load → State
next_tick load = ticked (asked load).table

-- A load after its next request and tick, and after n of them.
unfoldable pub after_tick : Load → Load
after_tick load = load_of (next_tick load).table (asked load).state

unfoldable pub after_ticks : ℕ → Load → Load
after_ticks zero load = load
after_ticks (suc n) load = after_tick (after_ticks n load)

-- Number p of dispatch entry i behind a space. A load has none below 0; one would show as 0.
unfoldable pub number_text : List ℤ → ℕ → ℕ → List ℕ
number_text entries i p = ascii " " ++ decimal (plus (get_or entries (entry_length * i + p) (pos 0)))

-- The line of dispatch entry i: tick, then client, tag, size, supplier as the entry has them.
unfoldable pub dispatch_line : ℕ → List ℤ → ℕ → List ℕ
dispatch_line tick entries i = decimal tick ++ bytes_below entry_length (number_text entries i) ++ ascii "\n"

-- A line for each dispatch of a tick.
unfoldable pub tick_lines : ℕ → List ℤ → List ℕ
tick_lines tick entries = bytes_below (length entries / entry_length) (dispatch_line tick entries)

-- The lines of n ticks of a load of which so many were made before. Ticks count from 1.
unfoldable pub ticks_text : ℕ → ℕ → Load → List ℕ
ticks_text made n load = bytes_below n (λ i. tick_lines (made + i + 1) (next_tick (after_ticks i load)).entries)

-- The input: seed and number of ticks, 4 bytes each, low byte first, then a plan.
abbrev pub seed_at : ℕ
seed_at = 0

abbrev pub ticks_at : ℕ
ticks_at = 4

abbrev pub plan_at : ℕ
plan_at = 8

-- The load that an input begins, and its number of ticks.
unfoldable pub begun : List ℕ → Load
begun s = load_of (plan_table blank (drop plan_at s)) (le4 s seed_at)

unfoldable pub ticks_in : List ℕ → ℕ
ticks_in s = le4 s ticks_at

-- An input below 8 bytes is refused with 14, then a plan as reading refuses it.
unfoldable pub load_refusal : List ℕ → ℕ
load_refusal s = first (cause 14 (ltb (length s) plan_at) ∷ refusing (check_answer (drop plan_at s)) ∷ [])

-- The text for an input.
unfoldable pub load_text : List ℕ → List ℕ
load_text s = cond (eqb (load_refusal s) 0) (ticks_text 0 (ticks_in s) (begun s)) (refused_line (load_refusal s))
