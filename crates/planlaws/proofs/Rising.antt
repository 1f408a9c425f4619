-- Two lists that rise by some number and have the same members are one list, and a list of different small numbers is short.
-- A list is its length n and the function of its places below n.
use Prim.Native.Nat.{ℕ, zero, suc, ◌≤◌, ◌<◌}
use mathlib.Core.Path.{◌≡◌, sym, ap, ◌∙◌}
use mathlib.Core.Bool.{cond}
use native.Mathlib.Omega.{arith}
use native.Mathlib.Decide.{ℕ_discrete, dec_lt}
use borrow.Author.Tests.{eqb-true, eqb-false}
use lib.Dec.{eqb}
use Rattle.numbers.proofs.Tests.{by_test, cond_true, cond_false}
use Rattle.numbers.proofs.All.{below_cases}

-- The members rise by their keys.
pub record Rises (key : ℕ → ℕ) (n : ℕ) (f : ℕ → ℕ) : Type 0 where
  pub up : (i j : ℕ) → i < j → j < n → key (f i) < key (f j)

-- It is enough that each rises above the one before.
pub rises_by_steps : (key : ℕ → ℕ) (n : ℕ) (f : ℕ → ℕ) → ((i : ℕ) → suc i < n → key (f i) < key (f (suc i))) → Rises key n f
rises_by_steps key n f step = record { up = up }
  where
    up : (i j : ℕ) → i < j → j < n → key (f i) < key (f j)
    up i zero h hn = absurd (omega arith)
    up i (suc j) h hn = below_cases j i h (λ l. omega (arith, up i j l (omega arith), step j hn)) (λ e. rw e (step j hn))

rises_or_same : (key : ℕ → ℕ) (n : ℕ) (f : ℕ → ℕ) → Rises key n f → (i j : ℕ) → i ≤ j → j < n → key (f i) ≤ key (f j)
rises_or_same key n f r i j h hn = below_cases j i (omega arith) (λ l. omega (arith, r.up i j l hn)) (λ e. rw e (omega arith))

-- Whether k is a member.
pub found_below : (n : ℕ) (f : ℕ → ℕ) (k : ℕ) → Dec ((i : ℕ) × (i < n) × (f i ≡ k))
found_below zero f k = no (λ h. omega (arith, h.1))
found_below (suc n) f k = go (ℕ_discrete (f n) k) (found_below n f k)
  where
    go : Dec (f n ≡ k) → Dec ((i : ℕ) × (i < n) × (f i ≡ k)) → Dec ((i : ℕ) × (i < suc n) × (f i ≡ k))
    go (yes e) before = yes (n, omega arith, e)
    go (no ne) (yes h) = yes (h.0, omega (arith, h.1), h.2)
    go (no ne) (no nobody) = no (λ h. below_cases n h.0 h.1 (λ l. nobody (h.0, l, h.2)) (λ e. ne (ap f (sym e) ∙ h.2)))

-- Each member of f is a member of g.
pub record Within (n m : ℕ) (f g : ℕ → ℕ) : Type 0 where
  pub member : (i : ℕ) → i < n → (j : ℕ) × (j < m) × (g j ≡ f i)

-- The first i places of f are those of g.
record SameTo (n m : ℕ) (f g : ℕ → ℕ) (i : ℕ) : Type 0 where
  long : i ≤ m
  places : (l : ℕ) → l < i → f l ≡ g l

module _ (key : ℕ → ℕ) (n m : ℕ) (f g : ℕ → ℕ) (rf : Rises key n f) (rg : Rises key m g) (fg : Within n m f g) (gf : Within m n g f) (apart : (i j : ℕ) → i < n → j < m → key (f i) ≡ key (g j) → f i ≡ g j) where
  -- A member of the rest of f is in the rest of g, and the other way round.
  rest_f : (i j : ℕ) → i < n → ((l : ℕ) → l < i → f l ≡ g l) → g j ≡ f i → i ≤ j
  rest_f i j hi same e = elim (dec_lt j i) [ yes l ↦ absurd (omega (arith, rf.up j i l hi, ap key (same j l ∙ e))) | no l ↦ omega arith ]

  rest_g : (i j : ℕ) → i < m → ((l : ℕ) → l < i → f l ≡ g l) → f j ≡ g i → i ≤ j
  rest_g i j hi same e = elim (dec_lt j i) [ yes l ↦ absurd (omega (arith, rg.up j i l hi, ap key (sym (same j l) ∙ e))) | no l ↦ omega arith ]

  same_next : (i : ℕ) → i < n → SameTo n m f g i → SameTo n m f g (suc i)
  same_next i hi s =
      let a = fg.member i hi in
      let late = rest_f i a.0 hi s.places a.2 in
      let hm : i < m = omega (arith, a.1) in
      let b = gf.member i hm in
      let later = rest_g i b.0 hm s.places b.2 in
      let under = rises_or_same key m g rg i a.0 late a.1 in
      let over = rises_or_same key n f rf i b.0 later b.1 in
      let here : key (f i) ≡ key (g i) = omega (arith, ap key a.2, ap key b.2) in
      record { long = hm; places = λ l hl. below_cases i l hl (s.places l) (λ e. rw e (apart i i hi hm here)) }

  same_to : (i : ℕ) → i ≤ n → SameTo n m f g i
  same_to zero h = record { long = omega arith; places = λ l hl. absurd (omega arith) }
  same_to (suc i) h = same_next i h (same_to i (omega arith))

  pub rising_same : (i : ℕ) → i < n → f i ≡ g i
  rising_same = (same_to n (omega arith)).places

  pub rising_short : n ≤ m
  rising_short = (same_to n (omega arith)).long

-- A list of different numbers below m has at most m. The idea: take the last one out, and put it where m stands.
pub record Different (n : ℕ) (f : ℕ → ℕ) : Type 0 where
  pub apart : (i j : ℕ) → i < j → j < n → f i ≡ f j → ⊥

without_last : ℕ → ℕ → (ℕ → ℕ) → ℕ → ℕ
without_last m n f i = cond (eqb (f i) m) (f n) (f i)

module _ (m n : ℕ) (f : ℕ → ℕ) (d : Different (suc n) f) where
  -- Place i holds m and is now the last one, or is as it was.
  put_cases : (P : Type 0) (i : ℕ) → (f i ≡ m → without_last m n f i ≡ f n → P) → ((f i ≡ m → ⊥) → without_last m n f i ≡ f i → P) → P
  unfolding without_last
  put_cases P i here other =
      by_test (eqb (f i) m) (λ e. here (eqb-true (f i) m e) (cond_true (eqb (f i) m) (f n) (f i) e)) (λ e. other (eqb-false (f i) m e) (cond_false (eqb (f i) m) (f n) (f i) e))

  put_small : ((i : ℕ) → i < suc n → f i < suc m) → (i : ℕ) → i < n → without_last m n f i < m
  put_small small i hi =
      put_cases (without_last m n f i < m) i (λ e w. let ne : f n ≡ m → ⊥ = λ l. d.apart i n hi (omega arith) (e ∙ sym l) in omega (arith, small n (omega arith)))
      (λ ne w. omega (arith, small i (omega arith)))

  put_different : Different n (without_last m n f)
  put_different =
      record {
        apart = λ i j h hj e.
            put_cases ⊥ i
            (λ a v. put_cases ⊥ j (λ b w. d.apart i j h (omega arith) (a ∙ sym b)) (λ b w. d.apart j n hj (omega arith) (sym w ∙ sym e ∙ v)))
            (λ a v. put_cases ⊥ j (λ b w. d.apart i n (omega arith) (omega arith) (sym v ∙ e ∙ w)) (λ b w. d.apart i j h (omega arith) (sym v ∙ e ∙ w)));
      }

pub different_few : (m n : ℕ) (f : ℕ → ℕ) → ((i : ℕ) → i < n → f i < m) → Different n f → n ≤ m
different_few zero zero f small d = omega arith
different_few zero (suc n) f small d = absurd (omega (arith, small 0 (omega arith)))
different_few (suc m) zero f small d = omega arith
different_few (suc m) (suc n) f small d = let few = different_few m n (without_last m n f) (put_small m n f d small) (put_different m n f d) in omega arith
