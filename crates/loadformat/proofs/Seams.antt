-- Ticks one behind the other: one more, and a part behind a part.
use Prim.Native.Nat.{ℕ, zero, suc, ◌+◌}
use mathlib.Core.Path.{◌≡◌, sym, ap, ◌∙◌}
use mathlib.Core.Bool.{true}
use mathlib.Core.List.{List, ◌++◌, append_assoc, append-nil}
use native.Mathlib.Nat.{add-zero, add-suc}
use native.Mathlib.Numerals.{add-one}
use native.Mathlib.Omega.{arith}
use lib.IntN.{ℤ}
use Rattle.definitions.specs.Places.{port}
use Rattle.definitions.specs.Order.{in_order}
use Rattle.definitions.specs.Tick.{ticked}
use Rattle.ticklaws.proofs.Laws.{tick_laws}
use Rattle.planformat.specs.Bytes.{bytes_below}
use Rattle.planformat.proofs.Shows.{bytes_next}
use Rattle.asking.specs.Asking.{clients, Load, load_of, asked}
use Rattle.asking.proofs.Kept.{asked_order, asked_clients, asked_port, ticked_clients, ticked_port}
use Rattle.loadformat.specs.Text.{next_tick, after_tick, after_ticks, tick_lines, ticks_text}
use Rattle.loadformat.specs.Parts.{Loaded}

-- One request and one tick, as the code makes them: t is the table after the request, u after the tick.
module _ (load : Load) (t : List ℤ) (state : ℕ) (request : load_of t state ≡ asked load) where
  pub request_loaded : Loaded load.table → Loaded t
  request_loaded l =
      record {
        order = ap (λ (x : Load). in_order x.table) request ∙ asked_order load l.order;
        port = λ k. ap (λ (x : Load). port x.table k) request ∙ asked_port load k ∙ l.port k;
      }

  pub next_entries : (ticked t).entries ≡ (next_tick load).entries
  unfolding next_tick
  next_entries = ap (λ (l : Load). (ticked l.table).entries) request

  pub next_load : (u : List ℤ) → u ≡ (ticked t).table → load_of u state ≡ after_tick load
  unfolding after_tick next_tick
  next_load u tick = ap (λ (x : List ℤ). load_of x state) tick ∙ ap (λ (l : Load). load_of (ticked l.table).table l.state) request

pub after_loaded : (load : Load) → Loaded load.table → Loaded (after_tick load).table
unfolding after_tick next_tick
after_loaded load l =
    let order = asked_order load l.order in
    record {
      order = (tick_laws (asked load).table order).order;
      port = λ k. ticked_port (asked load).table order k ∙ asked_port load k ∙ l.port k;
    }

pub after_clients : (load : Load) → in_order load.table ≡ true → clients (after_tick load).table ≡ clients load.table
unfolding after_tick next_tick
after_clients load order = ticked_clients (asked load).table (asked_order load order) ∙ asked_clients load

module _ (load : Load) where
  pub after_next : (n : ℕ) → after_ticks (n + 1) load ≡ after_tick (after_ticks n load)
  unfolding after_ticks
  after_next n = ap (λ (m : ℕ). after_ticks m load) (add-one n)

  pub text_next : (made n : ℕ) → ticks_text made (n + 1) load ≡ ticks_text made n load ++ tick_lines (made + n + 1) (next_tick (after_ticks n load)).entries
  unfolding ticks_text
  text_next made n = bytes_next n _

  -- A part behind a part.
  pub after_more : (m n : ℕ) → after_ticks (m + n) load ≡ after_ticks n (after_ticks m load)
  unfolding after_ticks
  after_more m zero = ap (λ (k : ℕ). after_ticks k load) (add-zero m)
  after_more m (suc n) = ap (λ (k : ℕ). after_ticks k load) (add-suc m n) ∙ ap after_tick (after_more m n)

  pub text_more : (made m n : ℕ) → ticks_text made (m + n) load ≡ ticks_text made m load ++ ticks_text (made + m) n (after_ticks m load)
  unfolding ticks_text bytes_below
  text_more made m zero = ap (λ (k : ℕ). ticks_text made k load) (add-zero m) ∙ sym (append-nil _)
  text_more made m (suc n) =
      let count : made + (m + n) + 1 ≡ made + m + n + 1 = omega arith in
      let last : tick_lines (made + (m + n) + 1) (next_tick (after_ticks (m + n) load)).entries ≡ tick_lines (made + m + n + 1) (next_tick (after_ticks n (after_ticks m load))).entries = rw (count, after_more m n) in
      ap (λ (k : ℕ). ticks_text made k load) (add-suc m n)
      ∙ ap (λ (u : List ℕ). u ++ tick_lines (made + (m + n) + 1) (next_tick (after_ticks (m + n) load)).entries) (text_more made m n)
      ∙ ap (λ (u : List ℕ). (ticks_text made m load ++ ticks_text (made + m) n (after_ticks m load)) ++ u) last
      ∙ append_assoc (ticks_text made m load) (ticks_text (made + m) n (after_ticks m load)) _
