-- The whole text is the opening and then the parts, however the ticks are divided.
use Prim.Native.Nat.{ℕ, ◌+◌, ◌-◌, ◌^◌, ◌≤◌, ◌<◌}
use mathlib.Core.Path.{◌≡◌, sym, ap, ◌∙◌}
use mathlib.Core.List.{List, ◌++◌, append-nil}
use native.Mathlib.Nat.{sub-zero}
use native.Mathlib.Omega.{arith}
use lib.ListN.{take}
use lib.Dec.{eqb}
use Rattle.numbers.proofs.Tests.{by_test}
use Rattle.planformat.specs.Bytes.{bytes_below}
use Rattle.text.proofs.Appending.{appended_front}
use Rattle.asking.specs.Asking.{Load}
use Rattle.loadformat.specs.Text.{after_ticks, ticks_text, begun, load_refusal, load_text}
use Rattle.loadformat.specs.Parts.{Loaded, opening, ticks_allowed, Begins, GoesOn, part_of}
use Rattle.loadformat.proofs.Seams.{after_more, text_more}

module _ (s : List ℕ) where
  pub text_whole : load_text s ≡ opening s ++ part_of s 0 (ticks_allowed s)
  unfolding load_text opening ticks_allowed part_of ticks_text bytes_below after_ticks
  text_whole = by_test (eqb (load_refusal s) 0) (λ e. rw (e, sub-zero)) (λ e. rw (e, append-nil))

  -- A part behind a part is one part.
  pub parts_join : (a b c : ℕ) → a ≤ b → b ≤ c → part_of s a c ≡ part_of s a b ++ part_of s b c
  unfolding part_of
  parts_join a b c low high =
      let m = b - a in
      let n = c - b in
      let all : c - a ≡ m + n = omega arith in
      let from : a + m ≡ b = omega arith in
      ap (λ (k : ℕ). ticks_text a k (after_ticks a (begun s))) all
      ∙ text_more (after_ticks a (begun s)) a m n
      ∙ ap (λ (u : List ℕ). ticks_text a m (after_ticks a (begun s)) ++ u) (rw (from, sym (after_more (begun s) a m), from))

  -- A load of this input under way: where ticks are left, it is the one after those made, and its table is one of a load.
  pub record UnderWay (load : Load) (made ticks : ℕ) : Type 0 where
    pub within : made ≤ ticks
    pub few : ticks < 2 ^ 32
    pub after : made < ticks → load ≡ after_ticks made (begun s)
    pub loaded : made < ticks → Loaded load.table

  pub begins_way : (b b' : List ℕ) (load : Load) (made ticks size : ℕ) → Begins s b load made ticks size b' → ticks < 2 ^ 32 → UnderWay load made ticks
  unfolding after_ticks
  begins_way b b' load made ticks size begins few =
      record {
        within = omega (arith, begins.none);
        few = few;
        after = λ left. begins.first (omega arith) ∙ ap (λ (n : ℕ). after_ticks n (begun s)) (sym begins.none);
        loaded = λ left. begins.loaded (omega arith);
      }

  module _ (b b' : List ℕ) (load load' : Load) (made made' ticks size : ℕ) (way : UnderWay load made ticks) (left : made < ticks) (part : GoesOn b load made ticks b' load' made' size) where
    pub goes_way : UnderWay load' made' ticks
    goes_way =
        record {
          within = part.within;
          few = way.few;
          after = λ l. part.after ∙ ap (after_ticks part.n) (way.after left) ∙ sym (after_more (begun s) made part.n) ∙ ap (λ (n : ℕ). after_ticks n (begun s)) (sym part.further);
          loaded = λ l. part.loaded;
        }

    -- What stands in the buffer then is the input's part behind what was sent.
    pub part_stands : (sent : ℕ) → sent ≡ made → take size b' ≡ part_of s sent made'
    unfolding part_of
    part_stands sent is =
        let n : part.n ≡ made' - made = omega (arith, part.further) in
        appended_front _ _ _ _ part.text
        ∙ ap (λ (m : ℕ). ticks_text made m load) n
        ∙ ap (ticks_text made (made' - made)) (way.after left)
        ∙ ap (λ (m : ℕ). part_of s m made') (sym is)
