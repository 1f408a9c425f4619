-- A test over the numbers below a bound passes just where it passes at each of them.
use Prim.Native.Nat.{ℕ, zero, suc, ◌+◌, ◌-◌, ◌<◌, ◌≤◌}
use native.Mathlib.Numerals.{add-one}
use native.Mathlib.Decide.{ℕ_discrete}
use native.Mathlib.Omega.{arith}
use mathlib.Core.Path.{◌≡◌, refl, sym, ap, ◌∙◌}
use mathlib.Core.Bool.{Bool, true, ◌&&◌}
use borrow.Author.Tests.{ltb-true, ltb-false}
use lib.Dec.{ltb}
use Rattle.numbers.specs.Below.{all_below}
use Rattle.numbers.proofs.Tests.{by_test, same_truth, and_true, and_left, and_right}

-- A number below n + 1 is below n or is n.
pub below_cases {ℓ} : {P : Type ℓ} (n k : ℕ) → k < suc n → (k < n → P) → (k ≡ n → P) → P
below_cases {P = P} n k h below last = by (ℕ_discrete k n)
  where
    by : Dec (k ≡ n) → P
    by (yes e) = last e
    by (no d) = below (omega arith)

-- Of two numbers one is less than the other, or they are the same.
pub by_order {ℓ} : {P : Type ℓ} (a b : ℕ) → (a < b → P) → (b < a → P) → (a ≡ b → P) → P
by_order a b less greater same =
    by_test (ltb a b)
    (λ l. less (ltb-true a b l))
    (λ n. by_test (ltb b a) (λ l. greater (ltb-true b a l)) (λ m. same (omega (arith, ltb-false a b n, ltb-false b a m))))

pub all_suc : (n : ℕ) (p : ℕ → Bool) → all_below (suc n) p ≡ (all_below n p && p n)
unfolding all_below
all_suc n p = refl

pub all_next : (n : ℕ) (p : ℕ → Bool) → all_below (n + 1) p ≡ (all_below n p && p n)
all_next n p = rw add-one (all_suc n p)

pub all_at : (n : ℕ) (p : ℕ → Bool) → all_below n p ≡ true → (k : ℕ) → k < n → p k ≡ true
unfolding all_below
all_at zero p h k l = absurd (omega arith)
all_at (suc n) p h k l =
    below_cases n k l
    (λ m. all_at n p (and_left (all_below n p) (p n) h) k m)
    (λ e. rw e (and_right (all_below n p) (p n) h))

pub all_intro : (n : ℕ) (p : ℕ → Bool) → ((k : ℕ) → k < n → p k ≡ true) → all_below n p ≡ true
unfolding all_below
all_intro zero p h = refl
all_intro (suc n) p h = and_true (all_below n p) (p n) (all_intro n p (λ k l. h k (omega arith))) (h n (omega arith))

pub all_cong : (n : ℕ) (p q : ℕ → Bool) → ((k : ℕ) → k < n → p k ≡ q k) → all_below n p ≡ all_below n q
all_cong n p q h =
    same_truth (all_below n p) (all_below n q)
    (λ t. all_intro n q (λ k l. sym (h k l) ∙ all_at n p t k l))
    (λ t. all_intro n p (λ k l. h k l ∙ all_at n q t k l))

-- The start of a loop that joins tests, one turn of it, and its end.
pub all_first : (p : ℕ → Bool) → true ≡ all_below 0 p
unfolding all_below
all_first p = refl

pub all_grows : (n : ℕ) (p : ℕ → Bool) (ok b : Bool) → ok ≡ all_below n p → b ≡ p n → (ok && b) ≡ all_below (n + 1) p
all_grows n p ok b e f = ap (λ (x : Bool). x && b) e ∙ ap (λ (x : Bool). all_below n p && x) f ∙ sym (all_next n p)

pub all_done : (m n : ℕ) (p : ℕ → Bool) (ok : Bool) → ok ≡ all_below m p → m ≡ n → ok ≡ all_below n p
all_done m n p ok e end = e ∙ ap (λ (i : ℕ). all_below i p) end

pub all_upto : (m n : ℕ) (p : ℕ → Bool) (ok : Bool) → ok ≡ all_below m p → m ≤ n → n ≤ m → ok ≡ all_below n p
all_upto m n p ok e a b = all_done m n p ok e (omega arith)

-- A test over two neighbouring stretches.
all_append : (n m : ℕ) (p : ℕ → Bool) → all_below (n + m) p ≡ (all_below n p && all_below m (λ j. p (n + j)))
all_append n m p =
    same_truth _ _
    (λ h. and_true _ _ (all_intro n p (λ k l. all_at (n + m) p h k (omega arith))) (all_intro m (λ j. p (n + j)) (λ j l. all_at (n + m) p h (n + j) (omega arith))))
    (λ h.
    all_intro (n + m) p
    (λ k l.
    by_test (ltb k n) (λ y. all_at n p (and_left _ _ h) k (ltb-true k n y))
    (λ f.
    let past = ltb-false k n f in
    let back : n + (k - n) ≡ k = omega arith in
    sym (ap p back) ∙ all_at m (λ j. p (n + j)) (and_right (all_below n p) _ h) (k - n) (omega arith))))

-- A test that is made part by part: one part more.
pub all_part : (n m : ℕ) (p : ℕ → Bool) (ok b : Bool) → ok ≡ all_below n p → b ≡ all_below m (λ j. p (n + j)) → (ok && b) ≡ all_below (n + m) p
all_part n m p ok b e f = ap (λ (x : Bool). x && b) e ∙ ap (λ (x : Bool). all_below n p && x) f ∙ sym (all_append n m p)

-- A loop that joins tests: what `search` needs of it.
pub ruleset all_loop = (all_first, all_grows, all_upto)
