-- A loop that writes the table by one step a turn: after k of its n turns the table is what k steps make of the first one.
use Prim.Native.Nat.{ℕ, ◌+◌, ◌≤◌, ◌<◌}
use mathlib.Core.Path.{◌≡◌, refl, ap, ◌∙◌}
use mathlib.Core.List.{List}
use native.Mathlib.Omega.{arith}
use lib.ListN.{length}
use lib.IntN.{ℤ}
use Rattle.numbers.specs.Below.{for_below}
use Rattle.numbers.proofs.Steps.{turned}
use Rattle.definitions.specs.Limits.{table_length}

pub record Turns (n : ℕ) (step : ℕ → List ℤ → List ℤ) (first table : List ℤ) (k : ℕ) : Type 0 where
  pub within : k ≤ n
  pub long : length table ≡ table_length
  pub made : table ≡ for_below k step first

pub turns_first : {n : ℕ} {step : ℕ → List ℤ → List ℤ} {first : List ℤ} → length first ≡ table_length → Turns n step first first 0
unfolding for_below
turns_first long = record { within = omega arith; long = long; made = refl }

pub turns_next : {n : ℕ} {step : ℕ → List ℤ → List ℤ} {first table : List ℤ} {k : ℕ} → Turns n step first table k → k < n → (new : List ℤ) → length new ≡ length table → new ≡ step k table → Turns n step first new (k + 1)
turns_next {step = step} {first = first} {table = table} {k = k} so_far more new same made =
    record {
      within = omega arith;
      long = same ∙ so_far.long;
      made = turned k step first table new so_far.made made;
    }

pub turns_all : {n : ℕ} {step : ℕ → List ℤ → List ℤ} {first table : List ℤ} {k : ℕ} → Turns n step first table k → n ≤ k → table ≡ for_below n step first
turns_all {n = n} {step = step} {first = first} {k = k} so_far end =
    let all : k ≡ n = omega (arith, so_far.within) in
    so_far.made ∙ ap (λ (i : ℕ). for_below i step first) all
