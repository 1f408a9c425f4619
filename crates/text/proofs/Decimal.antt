-- The decimal digits of a number: what `io::decimal` puts, and how many there are.
use Prim.Native.Nat.{ℕ, zero, suc, ◌-◌, ◌/◌, ◌%◌, ◌^◌, ◌≤◌, ◌<◌}
use mathlib.Core.Path.{◌≡◌, sym, ap, ◌∙◌}
use mathlib.Core.List.{List, [], ◌∷◌, ◌++◌}
use native.Mathlib.Nat.{one-le-pow, pow-le-pow_right}
use native.Mathlib.Numerals.{unary_clauses}
use native.Mathlib.Omega.{arith}
use borrow.Author.Tests.{ltb-true, ltb-false, lt-ltb, le-ltb}
use lib.ListN.{length, length-append}
use lib.Dec.{ltb}
use Rattle.numbers.proofs.Tests.{by_test, cond_true, cond_false}
use Rattle.io.specs.Digits.{hex_digit_ascii, last_digits, IsDigitCount}
use Rattle.text.specs.Text.{most_digits, digit, decimal_within, decimal}

-- The digits of `io` below 10.
glyph_low : (d : ℕ) → d < 10 → hex_digit_ascii d ≡ digit d
glyph_low d h = cond_true (ltb d 10) (digit d) _ (lt-ltb d 10 h)

one_digit : (m n : ℕ) → n < 10 → decimal_within (suc m) n ≡ digit n ∷ []
unfolding decimal_within
one_digit m n h = cond_true (ltb n 10) (digit n ∷ []) _ (lt-ltb n 10 h)

more_digits : (m n : ℕ) → 10 ≤ n → decimal_within (suc m) n ≡ decimal_within m (n / 10) ++ (digit (n % 10) ∷ [])
unfolding decimal_within
more_digits m n h = cond_false (ltb n 10) (digit n ∷ []) _ (le-ltb n 10 h)

-- The fewest digits that hold n are its digits without leading zeros.
within : (m n k : ℕ) → k ≤ m → IsDigitCount 10 1 n k → last_digits 10 k n ≡ decimal_within m n
within m n zero le h = absurd (omega (arith, h.0))
within zero n (suc k) le h = absurd (omega arith)
within (suc m) n (suc zero) le h =
    let low : n < 10 = omega (arith, h.1) in
    let same : n % 10 ≡ n = omega arith in
    ap (λ (d : ℕ). hex_digit_ascii d ∷ []) same ∙ ap (λ (d : ℕ). d ∷ []) (glyph_low n low) ∙ sym (one_digit m n low)
within (suc m) n (suc (suc k)) le h =
    let above = simp unary_clauses at (h.2 (omega arith)) in
    let rest : IsDigitCount 10 1 (n / 10) (suc k) = (omega arith, simp unary_clauses (omega (arith, simp unary_clauses at h.1)), λ l. simp unary_clauses (omega arith)) in
    ap (λ (u : List ℕ). u ++ (hex_digit_ascii (n % 10) ∷ [])) (within m (n / 10) (suc k) (omega arith) rest)
    ∙ ap (λ (d : ℕ). decimal_within m (n / 10) ++ (d ∷ [])) (glyph_low (n % 10) (omega arith))
    ∙ sym (more_digits m n (omega (arith, one-le-pow k 10 (omega arith))))

-- So many at most has a number below 2 ^ 64.
pub fewest_few : (n k : ℕ) → n < 2 ^ 64 → IsDigitCount 10 1 n k → k ≤ most_digits
fewest_few n k small h =
    by_test (ltb most_digits k)
    (λ e.
    let many : most_digits ≤ k - 1 = omega (arith, ltb-true most_digits k e) in
    let power : 10 ^ most_digits ≤ 10 ^ (k - 1) = pow-le-pow_right (omega arith) many in
    absurd (omega (arith, h.2 (omega arith))))
    (λ e. ltb-false most_digits k e)

pub fewest_decimal : (n k : ℕ) → n < 2 ^ 64 → IsDigitCount 10 1 n k → last_digits 10 k n ≡ decimal n
unfolding decimal
fewest_decimal n k small h = within most_digits n k (fewest_few n k small h) h

within_short : (m n : ℕ) → length (decimal_within m n) ≤ m
unfolding decimal_within
within_short zero n = omega arith
within_short (suc m) n =
    by_test (ltb n 10)
    (λ e. rw e (omega arith))
    (λ e. rw e (omega (arith, length-append (decimal_within m (n / 10)) (digit (n % 10) ∷ []), within_short m (n / 10))))

pub decimal_short : (n : ℕ) → length (decimal n) ≤ most_digits
unfolding decimal
decimal_short n = within_short most_digits n
