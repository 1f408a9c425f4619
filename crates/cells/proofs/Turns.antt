-- Minutes that are marked.
use Prim.Native.Nat.{ℕ, ◌+◌, ◌-◌, ◌≤◌, ◌<◌}
use mathlib.Core.Path.{◌≡◌, refl, sym, ap, ◌∙◌}
use mathlib.Core.Bool.{Bool, true, false, ◌||◌}
use mathlib.Core.List.{List}
use native.Mathlib.Omega.{arith}
use native.Mathlib.Numerals.{add-one}
use native.Mathlib.Decide.{ℕ_discrete}
use borrow.Author.Tests.{eq-eqb, ne_eqb}
use lib.Dec.{eqb}
use lib.ListN.{length, get_or, set, length-set}
use lib.Seq.{get_or-set_same, get_or-set_other}
use lib.IntN.{ℤ}
use Rattle.numbers.proofs.Tests.{or_true_left}
use Rattle.hourlaws.specs.Windows.{window_start, window_end, window_count, turns_by, turn}
use Rattle.cells.specs.Cells.{part_minutes, Marked, MarkedBy}

-- A minute that is no minute of the part marks none.
pub none_marked : (first m : ℕ) (turns : List Bool) → length turns ≡ part_minutes → ((j : ℕ) → j < part_minutes → m ≡ first + j → ⊥) → Marked first m turns turns
none_marked first m turns long none = record { long = long; at = λ j hj. sym (ap (λ (b : Bool). b || get_or turns j false) (ne_eqb m (first + j) (none j hj))) }

-- Minute x of the part marks itself.
pub one_marked : (first m : ℕ) (turns : List Bool) → length turns ≡ part_minutes → first ≤ m → m - first < part_minutes → Marked first m turns (set turns (m - first) true)
one_marked first m turns long low high =
    record {
      long = length-set turns (m - first) true ∙ long;
      at = λ j hj.
          elim (ℕ_discrete j (m - first)) [
            | yes e ↦
                (ap (λ (i : ℕ). get_or (set turns (m - first) true) i false) e
                ∙ get_or-set_same turns (m - first) true false (omega arith)
                ∙ sym (or_true_left _ (get_or turns j false) (eq-eqb m (first + j) (omega arith))))
            | no ne ↦
                (get_or-set_other turns (m - first) j true false ne
                ∙ sym (ap (λ (b : Bool). b || get_or turns j false) (ne_eqb m (first + j) (λ same. ne (omega arith)))))
          ];
    }

or_other : (a b c : Bool) → (b || (a || c)) ≡ ((a || b) || c)
or_other true true c = refl
or_other true false c = refl
or_other false true c = refl
or_other false false c = refl

-- The start and then the end of a window.
pub both_marked : (ws : List ℤ) (first i : ℕ) (old mid new : List Bool) → Marked first (window_start ws i) old mid → Marked first (window_end ws i) mid new → MarkedBy ws first i old new
both_marked ws first i old mid new a b =
    record {
      long = b.long;
      at = λ j hj.
          b.at j hj
          ∙ ap (λ (x : Bool). eqb (window_end ws i) (first + j) || x) (a.at j hj)
          ∙ or_other (eqb (window_start ws i) (first + j)) (eqb (window_end ws i) (first + j)) (get_or old j false);
    }

-- What stands at a minute once the first n windows are marked, and all.
pub turns_start : (ws : List ℤ) (m : ℕ) (b : Bool) → b ≡ eqb m 0 → b ≡ (turns_by ws 0 m || eqb m 0)
unfolding turns_by
turns_start ws m b e = e

or_moves : (a b c : Bool) → (a || (b || c)) ≡ ((a || b) || c)
or_moves true b c = refl
or_moves false b c = refl

pub turns_next :
    (ws : List ℤ) (m n : ℕ) (b : Bool) → b ≡ (turns_by ws n m || eqb m 0)
    → ((eqb (window_start ws n) m || eqb (window_end ws n) m) || b) ≡ (turns_by ws (n + 1) m || eqb m 0)
unfolding turns_by
turns_next ws m n b e =
    rw add-one
    (ap (λ (x : Bool). (eqb (window_start ws n) m || eqb (window_end ws n) m) || x) e
    ∙ or_moves (eqb (window_start ws n) m || eqb (window_end ws n) m) (turns_by ws n m) (eqb m 0))

or_swaps : (a b : Bool) → (a || b) ≡ (b || a)
or_swaps true true = refl
or_swaps true false = refl
or_swaps false true = refl
or_swaps false false = refl

pub turns_all : (ws : List ℤ) (m : ℕ) (b : Bool) → b ≡ (turns_by ws (window_count ws) m || eqb m 0) → b ≡ turn ws m
unfolding turn
turns_all ws m b e = e ∙ or_swaps (turns_by ws (window_count ws) m) (eqb m 0)
