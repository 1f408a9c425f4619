-- The laws of whole numbers in their two natural parts, so that omega, which reads naturals alone, does the arithmetic.
-- The set zarith has omega read the tests le_z, lt_z, same_ℤ and within_ℤ among the hypotheses, and prove them.
use Prim.Native.Nat.{ℕ, zero, suc, ◌+◌, ◌-◌, ◌^◌, ◌≤◌, ◌<◌, min}
use native.Mathlib.Omega.{arith}
use mathlib.Core.Path.{◌≡◌, refl, sym, ap, ◌∙◌}
use mathlib.Core.Bool.{Bool, true, false, true≢false}
use lib.Dec.{leb, ltb, eqb}
use lib.IntN.{ℤ, pos, negsuc, neg_ℤ, sub_ℕ, ◌+ℤ◌, ◌-ℤ◌}
use lib.Signed.{le_z, lt_z}
use mir.Syntax.{Width, w64}
use mir.Val.{SFits, of_z, to_z}
use mir.ValLaws.{to_z-of_z}
use borrow.Author.Tests.{ltb-true, ltb-false, leb-true, leb-false, eqb-true, lt-ltb, le-leb, eq-eqb}
use Rattle.numbers.specs.Whole.{plus, minus, same_ℤ, within_ℤ}
use Rattle.numbers.proofs.Tests.{by_test, true_false, same_truth, and_true, and_left, and_right}

pub one_is_zero : (z : ℤ) → min (plus z) (minus z) ≡ 0
unfolding plus minus
one_is_zero (pos n) = omega arith
one_is_zero (negsuc n) = omega arith

pub plus_pos : (n : ℕ) → plus (pos n) ≡ n
unfolding plus
plus_pos n = refl

pub minus_pos : (n : ℕ) → minus (pos n) ≡ 0
unfolding minus
minus_pos n = refl

pub pos_plus : (z : ℤ) → minus z ≡ 0 → pos (plus z) ≡ z
unfolding plus minus
pos_plus (pos n) h = refl
pos_plus (negsuc n) h = absurd (omega arith)

pub by_parts : (a b : ℤ) → plus a + minus b ≡ plus b + minus a → a ≡ b
unfolding plus minus
by_parts (pos m) (pos n) h = ap pos (omega arith)
by_parts (pos m) (negsuc n) h = absurd (omega arith)
by_parts (negsuc m) (pos n) h = absurd (omega arith)
by_parts (negsuc m) (negsuc n) h = ap negsuc (omega arith)

pub eq_parts : (a b : ℤ) → a ≡ b → plus a + minus b ≡ plus b + minus a
eq_parts a b e = omega (arith, ap plus e, ap minus e)

difference_parts : (m n : ℕ) → plus (sub_ℕ m n) + n ≡ minus (sub_ℕ m n) + m
unfolding plus minus
difference_parts m n =
    by_test (ltb m n) (λ t. rw t (omega (arith, ltb-true m n t))) (λ f. rw f (omega (arith, ltb-false m n f)))

pub add_parts : (a b : ℤ) → plus (a +ℤ b) + (minus a + minus b) ≡ minus (a +ℤ b) + (plus a + plus b)
unfolding plus minus
add_parts (pos m) (pos n) = omega arith
add_parts (pos m) (negsuc n) = omega (arith, difference_parts m (suc n))
add_parts (negsuc m) (pos n) = omega (arith, difference_parts n (suc m))
add_parts (negsuc m) (negsuc n) = omega arith

pub plus_neg : (z : ℤ) → plus (neg_ℤ z) ≡ minus z
unfolding plus minus
plus_neg (pos zero) = refl
plus_neg (pos (suc n)) = refl
plus_neg (negsuc n) = refl

pub minus_neg : (z : ℤ) → minus (neg_ℤ z) ≡ plus z
unfolding plus minus
minus_neg (pos zero) = refl
minus_neg (pos (suc n)) = refl
minus_neg (negsuc n) = refl

pub sub_parts : (a b : ℤ) → plus (a -ℤ b) + (minus a + plus b) ≡ minus (a -ℤ b) + (plus a + minus b)
sub_parts a b = omega (arith, add_parts a (neg_ℤ b), plus_neg b, minus_neg b)

-- A test that passes just where x ≤ y fails just where y < x.
failed : (t : Bool) (x y : ℕ) → (x ≤ y → t ≡ true) → t ≡ false → y < x
failed t x y f e = by_test (leb x y) (λ h. absurd (true_false (f (leb-true x y h)) e)) (λ h. leb-false x y h)

fails : (t : Bool) (x y : ℕ) → (t ≡ true → x ≤ y) → y < x → t ≡ false
fails t x y f h = by_test t (λ e. absurd (lemma (f e))) (λ e. e)
  where
    lemma : x ≤ y → ⊥
    lemma k = omega arith

pub le_parts : (a b : ℤ) → le_z a b ≡ true → plus a + minus b ≤ plus b + minus a
unfolding plus minus
le_parts (pos m) (pos n) h = omega (arith, leb-true m n h)
le_parts (pos m) (negsuc n) h = absurd (true≢false (sym h))
le_parts (negsuc m) (pos n) h = omega arith
le_parts (negsuc m) (negsuc n) h = omega (arith, leb-true n m h)

pub parts_le : (a b : ℤ) → plus a + minus b ≤ plus b + minus a → le_z a b ≡ true
unfolding plus minus
parts_le (pos m) (pos n) h = le-leb m n (omega arith)
parts_le (pos m) (negsuc n) h = absurd (omega arith)
parts_le (negsuc m) (pos n) h = refl
parts_le (negsuc m) (negsuc n) h = le-leb n m (omega arith)

pub not_le_parts : (a b : ℤ) → le_z a b ≡ false → plus b + minus a < plus a + minus b
not_le_parts a b h = failed (le_z a b) (plus a + minus b) (plus b + minus a) (parts_le a b) h

pub parts_not_le : (a b : ℤ) → plus b + minus a < plus a + minus b → le_z a b ≡ false
parts_not_le a b h = fails (le_z a b) (plus a + minus b) (plus b + minus a) (le_parts a b) h

pub lt_parts : (a b : ℤ) → lt_z a b ≡ true → plus a + minus b < plus b + minus a
unfolding plus minus
lt_parts (pos m) (pos n) h = omega (arith, ltb-true m n h)
lt_parts (pos m) (negsuc n) h = absurd (true≢false (sym h))
lt_parts (negsuc m) (pos n) h = omega arith
lt_parts (negsuc m) (negsuc n) h = omega (arith, ltb-true n m h)

pub parts_lt : (a b : ℤ) → plus a + minus b < plus b + minus a → lt_z a b ≡ true
unfolding plus minus
parts_lt (pos m) (pos n) h = lt-ltb m n (omega arith)
parts_lt (pos m) (negsuc n) h = absurd (omega arith)
parts_lt (negsuc m) (pos n) h = refl
parts_lt (negsuc m) (negsuc n) h = lt-ltb n m (omega arith)

pub not_lt_parts : (a b : ℤ) → lt_z a b ≡ false → plus b + minus a ≤ plus a + minus b
not_lt_parts a b h = omega (arith, failed (lt_z a b) (suc (plus a + minus b)) (plus b + minus a) (parts_lt a b) h)

pub parts_not_lt : (a b : ℤ) → plus b + minus a ≤ plus a + minus b → lt_z a b ≡ false
parts_not_lt a b h = fails (lt_z a b) (suc (plus a + minus b)) (plus b + minus a) (lt_parts a b) (omega arith)

pub same_eq : (a b : ℤ) → same_ℤ a b ≡ true → a ≡ b
unfolding same_ℤ
same_eq (pos m) (pos n) h = ap pos (eqb-true m n h)
same_eq (pos m) (negsuc n) h = absurd (true≢false (sym h))
same_eq (negsuc m) (pos n) h = absurd (true≢false (sym h))
same_eq (negsuc m) (negsuc n) h = ap negsuc (eqb-true m n h)

same_self : (z : ℤ) → same_ℤ z z ≡ true
unfolding same_ℤ
same_self (pos n) = eq-eqb n n refl
same_self (negsuc n) = eq-eqb n n refl

pub eq_same : (a b : ℤ) → a ≡ b → same_ℤ a b ≡ true
eq_same a b e = rw e (same_self b)

pub not_same : (a b : ℤ) → same_ℤ a b ≡ false → a ≡ b → ⊥
not_same a b h e = true_false (eq_same a b e) h

pub ne_same : (a b : ℤ) → (a ≡ b → ⊥) → same_ℤ a b ≡ false
ne_same a b f = by_test (same_ℤ a b) (λ t. absurd (f (same_eq a b t))) (λ h. h)

pub same_parts : (a b : ℤ) → same_ℤ a b ≡ true → plus a + minus b ≡ plus b + minus a
same_parts a b h = eq_parts a b (same_eq a b h)

pub parts_same : (a b : ℤ) → plus a + minus b ≡ plus b + minus a → same_ℤ a b ≡ true
parts_same a b h = eq_same a b (by_parts a b h)

pub not_same_parts : (a b : ℤ) → same_ℤ a b ≡ false → plus a + minus b ≡ plus b + minus a → ⊥
not_same_parts a b h e = not_same a b h (by_parts a b e)

pub parts_not_same : (a b : ℤ) → (plus a + minus b ≡ plus b + minus a → ⊥) → same_ℤ a b ≡ false
parts_not_same a b f = ne_same a b (λ e. f (eq_parts a b e))

-- The test == of two signed integers compares their bits.
pub bits_same : (w : Width) (a b : ℤ) → SFits w a → SFits w b → eqb (of_z w a) (of_z w b) ≡ same_ℤ a b
bits_same w a b p q =
    same_truth (eqb (of_z w a) (of_z w b)) (same_ℤ a b)
    (λ h. eq_same a b (sym (to_z-of_z w a p) ∙ ap (to_z w) (eqb-true (of_z w a) (of_z w b) h) ∙ to_z-of_z w b q))
    (λ h. eq-eqb (of_z w a) (of_z w b) (ap (of_z w) (same_eq a b h)))

pub within_parts : (low high : ℕ) (z : ℤ) → within_ℤ low high z ≡ true → (minus z ≡ 0) × (low ≤ plus z) × (plus z ≤ high)
unfolding plus minus within_ℤ
within_parts low high (pos n) h =
    (refl, leb-true low n (and_left (leb low n) (leb n high) h), leb-true n high (and_right (leb low n) (leb n high) h))
within_parts low high (negsuc n) h = absurd (true≢false (sym h))

pub parts_within : (low high : ℕ) (z : ℤ) → (minus z ≡ 0) × (low ≤ plus z) × (plus z ≤ high) → within_ℤ low high z ≡ true
unfolding plus minus within_ℤ
parts_within low high (pos n) h = and_true (leb low n) (leb n high) (le-leb low n h.1) (le-leb n high h.2)
parts_within low high (negsuc n) h = absurd (omega arith)

-- How far z lies outside of low .. high, as one number, since a rule of omega has one premise.
pub within_gap : (low high : ℕ) (z : ℤ) → within_ℤ low high z ≡ true → minus z + (low - plus z) + (plus z - high) ≡ 0
within_gap low high z h = omega (arith, within_parts low high z h)

pub gap_within : (low high : ℕ) (z : ℤ) → minus z + (low - plus z) + (plus z - high) ≡ 0 → within_ℤ low high z ≡ true
gap_within low high z h = parts_within low high z (omega arith)

pub not_within_gap : (low high : ℕ) (z : ℤ) → within_ℤ low high z ≡ false → 0 < minus z + (low - plus z) + (plus z - high)
not_within_gap low high z h = failed (within_ℤ low high z) (minus z + (low - plus z) + (plus z - high)) 0 (λ g. gap_within low high z (omega arith)) h

pub gap_not_within : (low high : ℕ) (z : ℤ) → 0 < minus z + (low - plus z) + (plus z - high) → within_ℤ low high z ≡ false
gap_not_within low high z h = fails (within_ℤ low high z) (minus z + (low - plus z) + (plus z - high)) 0 (λ t. omega (arith, within_parts low high z t)) h

pub pos_of_within : (low high : ℕ) (z : ℤ) → within_ℤ low high z ≡ true → pos (plus z) ≡ z
pos_of_within low high z h = pos_plus z (within_parts low high z h).0

pub fits_parts : (z : ℤ) → plus z < 2 ^ 63 → minus z ≤ 2 ^ 63 → SFits w64 z
unfolding plus minus
fits_parts (pos n) p q = record { sfits = p }
fits_parts (negsuc n) p q = record { sfits = q }

pub parts_fit : (z : ℤ) → SFits w64 z → (plus z < 2 ^ 63) × (minus z ≤ 2 ^ 63)
unfolding plus minus
parts_fit (pos n) f = omega arith
parts_fit (negsuc n) f = omega arith

pub ruleset zarith =
    (by_parts, eq_parts, le_parts, parts_le, not_le_parts, parts_not_le, lt_parts, parts_lt, not_lt_parts, parts_not_lt, same_parts, parts_same, not_same_parts, parts_not_same, within_gap, gap_within, not_within_gap, gap_not_within)

-- The set at work.
le_not_lt : (a b c : ℤ) → le_z a b ≡ true → lt_z c b ≡ false → le_z a c ≡ true
le_not_lt a b c p q = omega (arith, zarith)

not_le_lt : (a b : ℤ) → le_z a b ≡ false → lt_z b a ≡ true
not_le_lt a b p = omega (arith, zarith)

le_le_same : (a b : ℤ) → le_z a b ≡ true → le_z b a ≡ true → same_ℤ a b ≡ true
le_le_same a b p q = omega (arith, zarith)

le_le_eq : (a b : ℤ) → le_z a b ≡ true → le_z b a ≡ true → a ≡ b
le_le_eq a b p q = omega (arith, zarith)

lt_not_same : (a b : ℤ) → lt_z a b ≡ true → same_ℤ a b ≡ false
lt_not_same a b p = omega (arith, zarith)

not_same_lt : (a b : ℤ) → same_ℤ a b ≡ false → le_z a b ≡ true → lt_z a b ≡ true
not_same_lt a b p q = omega (arith, zarith)

le_add : (a b c : ℤ) → le_z a b ≡ true → le_z (a +ℤ c) (b +ℤ c) ≡ true
le_add a b c p = omega (arith, zarith, add_parts a c, add_parts b c)

zero_le_add : (a b : ℤ) → le_z (pos 0) a ≡ true → le_z (pos 0) b ≡ true → le_z (pos 0) (a +ℤ b) ≡ true
unfolding plus minus
zero_le_add a b p q = omega (arith, zarith, add_parts a b)

sub_of_add : (a b c : ℤ) → a ≡ b +ℤ c → c ≡ a -ℤ b
sub_of_add a b c e = omega (arith, zarith, add_parts b c, sub_parts a b)

within_tighter : (z : ℤ) → within_ℤ 3 7 z ≡ true → within_ℤ 2 9 z ≡ true
within_tighter z h = omega (arith, zarith)

not_within_less : (z : ℤ) → within_ℤ 2 9 z ≡ false → le_z z (pos 9) ≡ true → lt_z z (pos 2) ≡ true
unfolding plus minus
not_within_less z h k = omega (arith, zarith, one_is_zero z)

-- A difference and what was taken off make the whole.
pub add_of_sub : (a b : ℤ) → a ≡ b +ℤ (a -ℤ b)
add_of_sub a b = omega (arith, zarith, add_parts b (a -ℤ b), sub_parts a b)
