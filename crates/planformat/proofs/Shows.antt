-- Bytes that stand in other bytes from a place on. To write a plan and to read it are two sides of one statement: that its
-- head, its entries and its bodies stand where they belong.
use Prim.Native.Nat.{ℕ, zero, suc, ◌+◌, ◌*◌, ◌-◌, ◌/◌, ◌%◌, ◌<◌}
use mathlib.Core.Path.{◌≡◌, refl, sym, ap, ◌∙◌}
use mathlib.Core.List.{List, [], ◌∷◌, ◌++◌}
use native.Mathlib.Numerals.{add-one}
use native.Mathlib.Omega.{arith}
use native.Mathlib.Decide.{dec_lt}
use native.Mathlib.Nat.{add-zero, zero-add, add-mul-div_left, add-mul-mod_self_left}
use lib.Arith.{mod-mul}
use lib.ListN.{length, length-append, get_or-append}
use lib.Seq.{get_or-append-add, ext_get_or}
use Rattle.numbers.proofs.All.{below_cases}
use Rattle.planformat.specs.Bytes.{byte_values, pair_values, four_values, byte_at, le2, le4, bytes2, bytes4, bytes_below}

-- The bytes of u stand in s from place a on.
pub record Shows (s : List ℕ) (a : ℕ) (u : List ℕ) : Type 0 where
  pub byte : (j : ℕ) → j < length u → byte_at s (a + j) ≡ byte_at u j

pub same_byte : (s : List ℕ) (i j : ℕ) → i ≡ j → byte_at s i ≡ byte_at s j
same_byte s i j e = ap (byte_at s) e

pub shown : {s u : List ℕ} {a : ℕ} → Shows s a u → (i j : ℕ) → i ≡ a + j → j < length u → byte_at s i ≡ byte_at u j
shown {s} {u} {a} h i j e hj = same_byte s i (a + j) e ∙ h.byte j hj

pub shows_from : {s u : List ℕ} {a : ℕ} (b : ℕ) → a ≡ b → Shows s a u → Shows s b u
shows_from b e h = rw e at h

pub shows_self : (s : List ℕ) → Shows s 0 s
shows_self s = record { byte = λ j hj. same_byte s (0 + j) j (zero-add j) }

-- Bytes that stand in others from their start on, and are as many, are those.
pub shows_all : (s u : List ℕ) → length s ≡ length u → Shows s 0 u → s ≡ u
unfolding byte_at
shows_all s u e h = ext_get_or 0 s u e (λ i hi. shown h i i (omega arith) (omega arith))

-- One byte, and one in front of others.
pub shows_none : (s : List ℕ) (a : ℕ) → Shows s a []
shows_none s a = record { byte = λ j hj. absurd (omega arith) }

pub shows_next : {s u : List ℕ} {a b : ℕ} → byte_at s a ≡ b → Shows s (a + 1) u → Shows s a (b ∷ u)
unfolding byte_at
shows_next {s} {u} {a} {b} e h = record { byte = at }
  where
    at : (j : ℕ) → j < suc (length u) → byte_at s (a + j) ≡ byte_at (b ∷ u) j
    at zero hj = same_byte s (a + 0) a (add-zero a) ∙ e
    at (suc j) hj = shown h (a + suc j) j (omega arith) (omega arith)

-- Bytes behind bytes.
byte_left : (u v : List ℕ) (j : ℕ) → j < length u → byte_at (u ++ v) j ≡ byte_at u j
unfolding byte_at
byte_left u v j h = get_or-append u v 0 j h

byte_right : (u v : List ℕ) (j : ℕ) → byte_at (u ++ v) (length u + j) ≡ byte_at v j
unfolding byte_at
byte_right u v j = get_or-append-add u v j 0

pub shows_left : {s : List ℕ} {a : ℕ} (u v : List ℕ) → Shows s a (u ++ v) → Shows s a u
shows_left u v h = record { byte = λ j hj. h.byte j (omega (arith, length-append u v)) ∙ byte_left u v j hj }

pub shows_right : {s : List ℕ} {a : ℕ} (u v : List ℕ) → Shows s a (u ++ v) → Shows s (a + length u) v
shows_right {s} {a} u v h = record { byte = λ j hj. shown h (a + length u + j) (length u + j) (omega arith) (omega (arith, length-append u v)) ∙ byte_right u v j }

pub shows_both : {s u v : List ℕ} {a : ℕ} → Shows s a u → Shows s (a + length u) v → Shows s a (u ++ v)
shows_both {s} {u} {v} {a} h k = record { byte = at }
  where
    behind : (j m : ℕ) → j ≡ length u + m → m < length v → byte_at s (a + j) ≡ byte_at (u ++ v) j
    behind j m e hm = shown k (a + j) m (omega arith) hm ∙ sym (byte_right u v m) ∙ same_byte (u ++ v) (length u + m) j (sym e)

    at : (j : ℕ) → j < length (u ++ v) → byte_at s (a + j) ≡ byte_at (u ++ v) j
    at j hj = elim (dec_lt j (length u)) [ yes l ↦ h.byte j l ∙ sym (byte_left u v j l) | no l ↦ behind j (j - length u) (omega arith) (omega (arith, length-append u v)) ]

-- Pieces of one length, one behind the other.
pub bytes_next : (n : ℕ) (f : ℕ → List ℕ) → bytes_below (n + 1) f ≡ bytes_below n f ++ f n
unfolding bytes_below
bytes_next n f = ap (λ (m : ℕ). bytes_below m f) (add-one n)

module _ (w : ℕ) (f : ℕ → List ℕ) (each : (i : ℕ) → length (f i) ≡ w) where
  pub length_below : (n : ℕ) → length (bytes_below n f) ≡ n * w
  unfolding bytes_below
  length_below zero = omega arith
  length_below (suc n) = length-append (bytes_below n f) (f n) ∙ omega (arith, length_below n, each n)

  pub shows_each : {s : List ℕ} {a : ℕ} (n : ℕ) → Shows s a (bytes_below n f) → (i : ℕ) → i < n → Shows s (a + i * w) (f i)
  unfolding bytes_below
  shows_each zero h i hi = absurd (omega arith)
  shows_each {a = a} (suc n) h i hi =
      below_cases n i hi (shows_each n (shows_left (bytes_below n f) (f n) h) i)
      (λ e. rw e (shows_from (a + n * w) (omega (arith, length_below n)) (shows_right (bytes_below n f) (f n) h)))

  pub each_shows : {s : List ℕ} {a : ℕ} (n : ℕ) → ((i : ℕ) → i < n → Shows s (a + i * w) (f i)) → Shows s a (bytes_below n f)
  unfolding bytes_below
  each_shows {s} {a} zero h = shows_none s a
  each_shows {s} {a} (suc n) h =
      shows_both (each_shows n (λ i hi. h i (omega arith))) (shows_from (a + length (bytes_below n f)) (omega (arith, length_below n)) (h n (omega arith)))

-- Integers of two bytes.
pub shown2 : (s : List ℕ) (a n : ℕ) → Shows s a (bytes2 n) → le2 s a ≡ n % pair_values
unfolding byte_at le2 bytes2
shown2 s a n h =
    let low : byte_at s a ≡ n % byte_values = shown h a 0 (omega arith) (omega arith) in
    let high : byte_at s (a + 1) ≡ n / byte_values % byte_values = shown h (a + 1) 1 (omega arith) (omega arith) in
    omega (arith, mod-mul n {m = byte_values} {c = byte_values} (omega arith) (omega arith))

pub shows2 : (s : List ℕ) (a : ℕ) → byte_at s a < byte_values → byte_at s (a + 1) < byte_values → Shows s a (bytes2 (le2 s a))
unfolding le2 bytes2
shows2 s a low high = shows_next (omega arith) (shows_next (omega arith) (shows_none s (a + 1 + 1)))

-- Integers of four bytes.
length2 : (n : ℕ) → length (bytes2 n) ≡ 2
unfolding bytes2
length2 n = refl

pub shown4 : (s : List ℕ) (a n : ℕ) → n < four_values → Shows s a (bytes4 n) → le4 s a ≡ n
unfolding le4 bytes4 bytes2
shown4 s a n most h =
    let low = shown2 s a n (shows_left (bytes2 n) (bytes2 (n / pair_values)) h) in
    let high = shown2 s (a + 2) (n / pair_values) (shows_right (bytes2 n) (bytes2 (n / pair_values)) h) in
    omega arith

small2 : (s : List ℕ) (a : ℕ) → byte_at s a < byte_values → byte_at s (a + 1) < byte_values → le2 s a < pair_values
unfolding le2
small2 s a low high = omega arith

-- The low two bytes are those of the low part.
low2 : (l h : ℕ) → bytes2 (l + pair_values * h) ≡ bytes2 l
unfolding bytes2
low2 l h =
    let low : (l + pair_values * h) % byte_values ≡ l % byte_values = omega arith in
    let split : l + pair_values * h ≡ l + byte_values * (byte_values * h) = omega arith in
    let high : (l + pair_values * h) / byte_values % byte_values ≡ l / byte_values % byte_values = ap (λ (n : ℕ). n / byte_values % byte_values) split ∙ ap (λ (n : ℕ). n % byte_values) (add-mul-div_left l (byte_values * h) {y = byte_values} (omega arith)) ∙ add-mul-mod_self_left (l / byte_values) byte_values h in
    cc

pub shows4 : (s : List ℕ) (a : ℕ) → ((i : ℕ) → byte_at s i < byte_values) → Shows s a (bytes4 (le4 s a))
unfolding le4 bytes4
shows4 s a small =
    let most = small2 s a (small a) (small (a + 1)) in
    let high : (le2 s a + pair_values * le2 s (a + 2)) / pair_values ≡ le2 s (a + 2) = omega arith in
    rw (low2 (le2 s a) (le2 s (a + 2)), high)
    (shows_both (shows2 s a (small a) (small (a + 1)))
    (shows_from (a + length (bytes2 (le2 s a))) (omega (arith, length2 (le2 s a))) (shows2 s (a + 2) (small (a + 2)) (small (a + 2 + 1)))))
