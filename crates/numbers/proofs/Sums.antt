-- Sums over the numbers below a bound, by induction on the bound: each law follows from the law at one term.
use Prim.Native.Nat.{ℕ, zero, suc, ◌+◌, ◌*◌, ◌≤◌, ◌<◌}
use native.Mathlib.Numerals.{add-one}
use native.Mathlib.Omega.{arith}
use mathlib.Core.Path.{◌≡◌, refl, sym, ap, ◌∙◌}
use lib.IntN.{ℤ, ◌+ℤ◌}
use Rattle.numbers.specs.Whole.{plus, minus}
use Rattle.numbers.specs.Below.{sum_below, sum_ℤ_below}
use Rattle.numbers.proofs.Parts.{add_parts}
use Rattle.numbers.proofs.All.{below_cases}

pub sum_suc : (n : ℕ) (f : ℕ → ℕ) → sum_below (suc n) f ≡ sum_below n f + f n
unfolding sum_below
sum_suc n f = refl

pub sum_next : (n : ℕ) (f : ℕ → ℕ) → sum_below (n + 1) f ≡ sum_below n f + f n
sum_next n f = rw add-one (sum_suc n f)

-- The start of a loop that sums, one turn of it, and its end.
pub sum_first : (f : ℕ → ℕ) → 0 ≡ sum_below 0 f
unfolding sum_below
sum_first f = refl

pub sum_grows : (n : ℕ) (f : ℕ → ℕ) (sum term : ℕ) → sum ≡ sum_below n f → term ≡ f n → sum + term ≡ sum_below (n + 1) f
sum_grows n f sum term e h = rw (e, h) (sym (sum_next n f))

pub sum_upto : (m n : ℕ) (f : ℕ → ℕ) (sum : ℕ) → sum ≡ sum_below m f → m ≤ n → n ≤ m → sum ≡ sum_below n f
sum_upto m n f sum e a b =
    let end : m ≡ n = omega arith in
    e ∙ ap (λ (i : ℕ). sum_below i f) end

-- A loop that sums: what `search` needs of it.
pub ruleset sum_loop = (sum_first, sum_grows, sum_upto)

pub sum_cong : (n : ℕ) (f g : ℕ → ℕ) → ((k : ℕ) → k < n → f k ≡ g k) → sum_below n f ≡ sum_below n g
unfolding sum_below
sum_cong zero f g h = refl
sum_cong (suc n) f g h = omega (arith, sum_cong n f g (λ k l. h k (omega arith)), h n (omega arith))

pub sum_mono : (n : ℕ) (f g : ℕ → ℕ) → ((k : ℕ) → k < n → f k ≤ g k) → sum_below n f ≤ sum_below n g
unfolding sum_below
sum_mono zero f g h = omega arith
sum_mono (suc n) f g h = omega (arith, sum_mono n f g (λ k l. h k (omega arith)), h n (omega arith))

pub sum_zero : (n : ℕ) (f : ℕ → ℕ) → ((k : ℕ) → k < n → f k ≡ 0) → sum_below n f ≡ 0
unfolding sum_below
sum_zero zero f h = refl
sum_zero (suc n) f h = omega (arith, sum_zero n f (λ k l. h k (omega arith)), h n (omega arith))

pub sum_bound : (n c : ℕ) (f : ℕ → ℕ) → ((k : ℕ) → k < n → f k ≤ c) → sum_below n f ≤ n * c
unfolding sum_below
sum_bound zero c f h = omega arith
sum_bound (suc n) c f h = omega (arith, sum_bound n c f (λ k l. h k (omega arith)), h n (omega arith))

pub sum_add : (n : ℕ) (f g : ℕ → ℕ) → sum_below n (λ k. f k + g k) ≡ sum_below n f + sum_below n g
unfolding sum_below
sum_add zero f g = refl
sum_add (suc n) f g = omega (arith, sum_add n f g)

pub sum_scale : (n : ℕ) (f : ℕ → ℕ) (c : ℕ) → sum_below n (λ k. f k * c) ≡ sum_below n f * c
unfolding sum_below
sum_scale zero f c = omega arith
sum_scale (suc n) f c = omega (arith, sum_scale n f c)

pub sum_swap : (m n : ℕ) (f : ℕ → ℕ → ℕ) → sum_below m (λ i. sum_below n (λ j. f i j)) ≡ sum_below n (λ j. sum_below m (λ i. f i j))
unfolding sum_below
sum_swap zero n f = sym (sum_zero n (λ j. 0) (λ k l. refl))
sum_swap (suc m) n f = omega (arith, sum_swap m n f, sum_add n (λ j. sum_below m (λ i. f i j)) (f m))

pub term_le_sum : (n k : ℕ) (f : ℕ → ℕ) → k < n → f k ≤ sum_below n f
unfolding sum_below
term_le_sum zero k f h = absurd (omega arith)
term_le_sum (suc n) k f h = below_cases n k h (λ l. omega (arith, term_le_sum n k f l)) (λ e. omega (arith, ap f e))

-- One term is changed.
pub sum_changed : (n j : ℕ) (f g : ℕ → ℕ) → j < n → ((k : ℕ) → k < n → (k ≡ j → ⊥) → f k ≡ g k) → sum_below n f + g j ≡ sum_below n g + f j
unfolding sum_below
sum_changed zero j f g l h = absurd (omega arith)
sum_changed (suc n) j f g l h =
    below_cases n j l
    (λ m. omega (arith, sum_changed n j f g m (λ k b d. h k (omega arith) d), h n (omega arith) (omega arith)))
    (λ e. omega (arith, sum_cong n f g (λ k b. h k (omega arith) (omega arith)), ap f e, ap g e))

pub sum_ℤ_suc : (n : ℕ) (f : ℕ → ℤ) → sum_ℤ_below (suc n) f ≡ sum_ℤ_below n f +ℤ f n
unfolding sum_ℤ_below
sum_ℤ_suc n f = refl

pub sum_ℤ_next : (n : ℕ) (f : ℕ → ℤ) → sum_ℤ_below (n + 1) f ≡ sum_ℤ_below n f +ℤ f n
sum_ℤ_next n f = rw add-one (sum_ℤ_suc n f)

pub sum_ℤ_parts : (n : ℕ) (f : ℕ → ℤ) → plus (sum_ℤ_below n f) + sum_below n (λ k. minus (f k)) ≡ minus (sum_ℤ_below n f) + sum_below n (λ k. plus (f k))
unfolding plus minus sum_below sum_ℤ_below
sum_ℤ_parts zero f = refl
sum_ℤ_parts (suc n) f = omega (arith, sum_ℤ_parts n f, add_parts (sum_ℤ_below n f) (f n))

pub sum_ℤ_cong : (n : ℕ) (f g : ℕ → ℤ) → ((k : ℕ) → k < n → f k ≡ g k) → sum_ℤ_below n f ≡ sum_ℤ_below n g
unfolding sum_ℤ_below
sum_ℤ_cong zero f g h = refl
sum_ℤ_cong (suc n) f g h = rw (sum_ℤ_cong n f g (λ k l. h k (omega arith)), h n (omega arith))
