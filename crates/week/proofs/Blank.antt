-- The cells and the turns of a part before any window is added.
use Prim.Native.Nat.{ℕ, zero, suc, ◌+◌}
use mathlib.Core.Path.{◌≡◌, refl, sym, ap, ◌∙◌}
use mathlib.Core.Bool.{Bool, false}
use native.Mathlib.Omega.{arith}
use native.Mathlib.Decide.{ℕ_discrete}
use borrow.Author.Tests.{ne_eqb}
use lib.Dec.{eqb}
use lib.ListN.{get_or, set, replicate, length-replicate}
use lib.Seq.{get_or-set_same, get_or-set_other}
use Rattle.cells.specs.Cells.{part_minutes}

pub all_alike : {A : Type 0} (n i : ℕ) (a : A) → get_or (replicate n a) i a ≡ a
all_alike zero i a = refl
all_alike (suc n) zero a = refl
all_alike (suc n) (suc i) a = all_alike n i a

-- Minute 0 of the week alone is marked.
pub first_turn : (first j : ℕ) → get_or (set (replicate part_minutes false) 0 (eqb first 0)) j false ≡ eqb (first + j) 0
first_turn first j =
    elim (ℕ_discrete j 0) [
      | yes e ↦
          (let here : first ≡ first + 0 = omega arith in
          rw e
          (get_or-set_same (replicate part_minutes false) 0 (eqb first 0) false (omega (arith, length-replicate {A = Bool} part_minutes false))
          ∙ ap (λ (n : ℕ). eqb n 0) here))
      | no ne ↦
          (get_or-set_other (replicate part_minutes false) 0 j (eqb first 0) false ne
          ∙ all_alike part_minutes j false
          ∙ sym (ne_eqb (first + j) 0 (λ e. ne (omega arith))))
    ]
