-- The list after a tick of a load: how many entries it has, and their lines.
use Prim.Native.Nat.{ℕ, ◌*◌, ◌/◌, ◌≤◌}
use mathlib.Core.Path.{◌≡◌, ap, ap₂, ◌∙◌}
use mathlib.Core.Bool.{not}
use mathlib.Core.List.{List, [], ◌∷◌}
use native.Mathlib.Omega.{arith}
use borrow.Author.Tests.{le-ltb}
use lib.ListN.{length, drop, length-append}
use lib.IntN.{ℤ, pos}
use Rattle.definitions.specs.Limits.{first_port, second_port, entry_length}
use Rattle.definitions.specs.Places.{port}
use Rattle.definitions.specs.Tick.{ticked, listed, port_entries, port_count, port_waiting, list_short, tick_refusal, tick_table, tick_first, tick_answer}
use Rattle.definitions.specs.Refusals.{accepted}
use Rattle.definitions.proofs.Facts.{InOrder, facts}
use Rattle.definitions.proofs.Ports.{port_alone}
use Rattle.definitions.proofs.Refusals.{first_none, first_end, kept_new, outcome_accepted}
use Rattle.ticklaws.proofs.Laws.{tick_laws}
use Rattle.ticklaws.proofs.Ports.{none_waiting, ticked_whole}
use Rattle.ticking.proofs.Waiting.{few}
use Rattle.planformat.specs.Bytes.{bytes_below}
use Rattle.loadformat.specs.Text.{dispatch_line, tick_lines}
use Rattle.loadformat.specs.Parts.{most_dispatches, Loaded}
use Rattle.loadformat.proofs.Lines.{lines_front}

-- A list has so many entries at its start, and their lines are those of the entries.
pub record Shown (entries list : List ℤ) (count : ℕ) : Type 0 where
  pub few : count ≤ most_dispatches
  pub listed : entry_length * count ≤ length list
  pub lines : (tick : ℕ) → bytes_below count (dispatch_line tick list) ≡ tick_lines tick entries

module _ (t list : List ℤ) (loaded : Loaded t) (room : entry_length * most_dispatches ≤ length list) where
  order : InOrder t
  order = facts t loaded.order

  -- All clients are on the first port, so its list gets all, and nothing waits at the second.
  first_all : port_entries t first_port ≡ (ticked t).entries
  unfolding port_entries
  first_all = port_alone (port t) first_port loaded.port (ticked t).entries (ticked_whole t order first_port)

  nothing_second : port_waiting t second_port ≡ 0
  nothing_second = none_waiting t second_port (λ k e. omega (arith, loaded.port k))

  -- There is room for all that wait.
  pub tick_room : entry_length * port_waiting t first_port ≤ length list
  tick_room = omega (arith, few t order first_port)

  pub no_room : entry_length * port_waiting t second_port ≤ 0
  no_room = omega (arith, nothing_second)

  -- The call tick, which tests the table first, would be accepted, and give the same table, first list and counts.
  no_refusal : tick_refusal t list [] ≡ 0
  unfolding tick_refusal list_short
  no_refusal =
      first_none 1 _ _ (ap not loaded.order)
      (first_none 13 _ _ (rw (le-ltb (length list) (entry_length * port_waiting t first_port) tick_room, le-ltb 0 (entry_length * port_waiting t second_port) no_room)) first_end)

  pub called_table : tick_table t list [] ≡ (ticked t).table
  unfolding tick_table
  called_table = kept_new (tick_refusal t list []) _ t no_refusal

  pub called_list : tick_first t list [] ≡ listed (ticked t).entries list
  unfolding tick_first
  called_list = kept_new (tick_refusal t list []) _ list no_refusal ∙ ap (λ (es : List ℤ). listed es list) first_all

  pub called_answer : tick_answer t list [] ≡ accepted (pos (length (ticked t).entries / entry_length) ∷ pos 0 ∷ [])
  unfolding tick_answer port_count
  called_answer =
      outcome_accepted (tick_refusal t list []) _ no_refusal
      ∙ ap₂ (λ (m n : ℕ). accepted (pos m ∷ pos n ∷ []))
      (ap (λ (es : List ℤ). length es / entry_length) first_all)
      (omega (arith, nothing_second, (tick_laws t loaded.order).ports second_port))

  -- So the second list gets nothing.
  pub none_second : (count : ℕ) → entry_length * count ≡ length (port_entries t second_port) → count ≡ 0
  none_second count counted = omega (arith, counted, nothing_second, (tick_laws t loaded.order).ports second_port)

  pub tick_shown : (after : List ℤ) (count : ℕ) → after ≡ listed (port_entries t first_port) list → entry_length * count ≡ length (port_entries t first_port) → Shown (ticked t).entries after count
  unfolding listed
  tick_shown after count is counted =
      let entries = (ticked t).entries in
      let number : count ≡ length entries / entry_length = omega (arith, counted, ap length first_all) in
      let same : after ≡ listed entries list = is ∙ ap (λ (es : List ℤ). listed es list) first_all in
      record {
        few = omega (arith, counted, (tick_laws t loaded.order).ports first_port, few t order first_port);
        listed = omega (arith, counted, ap length first_all, ap length same, length-append entries (drop (length entries) list));
        lines = λ tick. rw (number, same) (lines_front entries _ tick);
      }
