-- The text of a load in parts, each made in a buffer and then written.
use Rattle.std.specs.Prelude.{ℕ, ◌+◌, ◌-◌, ◌*◌, ◌<◌, ◌≤◌, ◌≡◌, true, cond, List, [], eqb, ℤ}
use Rattle.definitions.specs.Limits.{nodes, entry_length, most_waiting, first_port}
use Rattle.definitions.specs.Places.{port}
use Rattle.definitions.specs.Order.{in_order}
use Rattle.text.specs.Text.{most_digits, refused_line}
use Rattle.text.specs.Appended.{Appended}
use Rattle.asking.specs.Asking.{Load}
use Rattle.loadformat.specs.Text.{after_ticks, ticks_text, begun, ticks_in, load_refusal}

-- The most dispatches of a tick, and how long a number behind a space, a line and the lines of a tick can be.
abbrev pub most_dispatches : ℕ
most_dispatches = nodes * most_waiting

abbrev pub longest_number : ℕ
longest_number = 1 + most_digits

abbrev pub longest_line : ℕ
longest_line = most_digits + longest_number * entry_length + 1

abbrev pub longest_tick : ℕ
longest_tick = longest_line * most_dispatches

-- What a part's buffer holds, the last place of it from which there is room for a tick, and the most ticks of a part.
abbrev pub part_length : ℕ
part_length = 65536

abbrev pub last_place : ℕ
last_place = part_length - longest_tick

abbrev pub part_ticks : ℕ
part_ticks = 4096

-- A load's table: it is in order, and all its clients are on the first port, as a plan puts them.
pub record Loaded (t : List ℤ) : Type 0 where
  pub order : in_order t ≡ true
  pub port : (k : ℕ) → port t k ≡ first_port

-- What is written before the first tick: nothing, or the line of the refusal; and how many ticks follow.
unfoldable pub opening : List ℕ → List ℕ
opening s = cond (eqb (load_refusal s) 0) [] (refused_line (load_refusal s))

unfoldable pub ticks_allowed : List ℕ → ℕ
ticks_allowed s = cond (eqb (load_refusal s) 0) (ticks_in s) 0

-- A load begins with an input: the buffer b becomes b', which begins with the opening, no tick is made, and as many follow as are
-- allowed. Where ticks follow, the load is that of the input, and its table is one of a load.
pub record Begins (s b : List ℕ) (load : Load) (made ticks length : ℕ) (b' : List ℕ) : Type 0 where
  pub text : Appended b 0 (opening s) b' length
  pub none : made ≡ 0
  pub all : ticks ≡ ticks_allowed s
  pub first : 0 < ticks → load ≡ begun s
  pub loaded : 0 < ticks → Loaded load.table

-- A load of which so many ticks were made goes on for n ticks: the buffer b becomes b', which begins with their lines, and the load
-- is the one after them, with a table of a load.
pub record GoesOn (b : List ℕ) (load : Load) (made ticks : ℕ) (b' : List ℕ) (load' : Load) (made' length : ℕ) : Type 0 where
  pub n : ℕ
  pub further : made' ≡ made + n
  pub within : made' ≤ ticks
  pub text : Appended b 0 (ticks_text made n load) b' length
  pub after : load' ≡ after_ticks n load
  pub loaded : Loaded load'.table

-- What is written for the ticks of an input behind tick number made, up to tick number last.
unfoldable pub part_of : List ℕ → ℕ → ℕ → List ℕ
part_of s made last = ticks_text made (last - made) (after_ticks made (begun s))
