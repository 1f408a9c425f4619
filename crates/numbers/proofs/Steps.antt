-- Repeated steps over the numbers below a bound: what each step keeps holds after all of them.
use Prim.Native.Nat.{ℕ, zero, suc, ◌+◌, ◌<◌, ◌≤◌}
use native.Mathlib.Numerals.{add-one}
use native.Mathlib.Omega.{arith}
use mathlib.Core.Path.{◌≡◌, refl, sym, ap, ◌∙◌}
use Rattle.numbers.specs.Below.{for_below}

pub for_suc : {A : Type 0} (n : ℕ) (f : ℕ → A → A) (a : A) → for_below (suc n) f a ≡ f n (for_below n f a)
unfolding for_below
for_suc n f a = refl

pub for_next : {A : Type 0} (n : ℕ) (f : ℕ → A → A) (a : A) → for_below (n + 1) f a ≡ f n (for_below n f a)
for_next n f a = rw add-one (for_suc n f a)

-- After n turns b was reached, and one more turn makes c of it.
pub turned : {A : Type 0} (n : ℕ) (f : ℕ → A → A) (a b c : A) → b ≡ for_below n f a → c ≡ f n b → c ≡ for_below (n + 1) f a
turned n f a b c h e = e ∙ ap (f n) h ∙ sym (for_next n f a)

pub for_cong : {A : Type 0} (n : ℕ) (f g : ℕ → A → A) → ((k : ℕ) (a : A) → k < n → f k a ≡ g k a) → (a : A) → for_below n f a ≡ for_below n g a
unfolding for_below
for_cong zero f g h a = refl
for_cong (suc n) f g h a =
    h n (for_below n f a) (omega arith) ∙ ap (g n) (for_cong n f g (λ k b l. h k b (omega arith)) a)

-- What holds of the value after k steps, for each k.
pub for_reaches : {A : Type 0} (P : ℕ → A → Type 0) (n : ℕ) (f : ℕ → A → A) → ((k : ℕ) (a : A) → k < n → P k a → P (suc k) (f k a)) → (a : A) → P 0 a → P n (for_below n f a)
unfolding for_below
for_reaches P zero f h a p = p
for_reaches P (suc n) f h a p = h n (for_below n f a) (omega arith) (for_reaches P n f (λ k b l. h k b (omega arith)) a p)

pub for_keeps : {A : Type 0} (P : A → Type 0) (n : ℕ) (f : ℕ → A → A) → ((k : ℕ) (a : A) → k < n → P a → P (f k a)) → (a : A) → P a → P (for_below n f a)
for_keeps P n f h a p = for_reaches (λ k. P) n f h a p

-- The start and the end of a loop that takes a step for each number.
pub for_first : {A : Type 0} (f : ℕ → A → A) (a : A) → a ≡ for_below 0 f a
unfolding for_below
for_first f a = refl

pub for_upto : {A : Type 0} (m n : ℕ) (f : ℕ → A → A) (a b : A) → b ≡ for_below m f a → m ≤ n → n ≤ m → b ≡ for_below n f a
for_upto m n f a b e h l =
    let end : m ≡ n = omega arith in
    e ∙ ap (λ (i : ℕ). for_below i f a) end

-- A loop that takes a step for each number: what `search` needs of it.
pub ruleset for_loop = (for_first, turned, for_upto)
