-- Tests as the code makes them: a test made only where another holds is the code's `|`.
use mathlib.Core.Path.{◌≡◌, refl, ap}
use Prim.Native.Nat.{ℕ}
use mathlib.Core.Bool.{Bool, true, false, not, ◌&&◌, ◌||◌}
use mathlib.Core.List.{List, ◌∷◌}
use Rattle.numbers.specs.Tests.{every}
use Rattle.numbers.proofs.Tests.{true_false}
use Rattle.definitions.specs.Tree.{test_if}

pub test_or : (b : Bool) (p : ℕ → Bool) (k : ℕ) → test_if b p k ≡ (not b || p k)
unfolding test_if
test_or true p k = refl
test_or false p k = refl

-- A test that holds adds nothing.
pub every_past : (b : Bool) (bs : List Bool) → b ≡ true → every (b ∷ bs) ≡ every bs
unfolding every
every_past b bs h = ap (λ (x : Bool). x && every bs) h

-- A test made only where another holds, by that other.
pub test_here : (b : Bool) (p : ℕ → Bool) (k : ℕ) → b ≡ true → test_if b p k ≡ p k
unfolding test_if
test_here true p k h = refl
test_here false p k h = absurd (true_false h refl)

pub test_past : (b : Bool) (p : ℕ → Bool) (k : ℕ) → b ≡ false → test_if b p k ≡ true
unfolding test_if
test_past true p k h = absurd (true_false refl h)
test_past false p k h = refl
