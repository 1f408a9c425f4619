-- A load goes on tick by tick.
use Prim.Native.Nat.{ℕ, zero, suc, ◌+◌, ◌≤◌, ◌<◌}
use mathlib.Core.Path.{◌≡◌, refl, sym, ap, subst, ◌∙◌}
use mathlib.Core.List.{List}
use native.Mathlib.Omega.{arith}
use lib.ListN.{length}
use Rattle.planformat.specs.Bytes.{bytes_below}
use Rattle.text.specs.Appended.{Appended}
use Rattle.text.proofs.Appending.{append_as, append_none, append_more}
use Rattle.asking.specs.Asking.{Load}
use Rattle.loadformat.specs.Text.{next_tick, after_tick, after_ticks, tick_lines, ticks_text}
use Rattle.loadformat.specs.Parts.{Loaded, GoesOn}
use Rattle.loadformat.proofs.Seams.{after_next, text_next, after_loaded}

module _ (b : List ℕ) (load : Load) (made ticks : ℕ) where
  -- No tick yet.
  pub goes_none : made ≤ ticks → Loaded load.table → GoesOn b load made ticks b load made 0
  unfolding ticks_text bytes_below after_ticks
  goes_none some loaded = record { n = 0; further = omega arith; within = some; text = append_none b 0; after = refl; loaded = loaded }

  module _ (b1 : List ℕ) (load1 : Load) (made1 size1 : ℕ) (so_far : GoesOn b load made ticks b1 load1 made1 size1) where
    -- One tick more.
    pub goes_next : (b2 : List ℕ) (load2 : Load) (made2 size2 : ℕ) → made1 < ticks → size1 ≤ length b → Appended b1 size1 (tick_lines (made1 + 1) (next_tick load1).entries) b2 size2 → load2 ≡ after_tick load1 → made2 ≡ made1 + 1 → GoesOn b load made ticks b2 load2 made2 size2
    goes_next b2 load2 made2 size2 left room lines after further =
        let n = so_far.n in
        let number : made1 + 1 ≡ made + n + 1 = omega (arith, so_far.further) in
        let line : tick_lines (made1 + 1) (next_tick load1).entries ≡ tick_lines (made + n + 1) (next_tick (after_ticks n load)).entries = rw (number, so_far.after) in
        record {
          n = n + 1;
          further = omega (arith, further, so_far.further);
          within = omega (arith, further);
          text = append_as _ _ _ _ _ _ (sym (text_next load made n)) (append_more _ _ _ _ _ _ _ _ (omega (arith, so_far.text.behind)) so_far.text (append_as _ _ _ _ _ _ line lines));
          after = after ∙ ap after_tick so_far.after ∙ sym (after_next load n);
          loaded = subst (λ (l : Load). Loaded l.table) (sym after) (after_loaded load1 so_far.loaded);
        }

    -- Where bytes were put, there was a tick.
    pub goes_some : 0 < size1 → made < made1
    unfolding ticks_text bytes_below
    goes_some bytes = by so_far.n so_far.further so_far.text
      where
        by : (n : ℕ) → made1 ≡ made + n → Appended b 0 (ticks_text made n load) b1 size1 → made < made1
        by zero further text = absurd (omega (arith, text.behind))
        by (suc n) further text = omega (arith, further)
