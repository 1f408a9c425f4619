-- What differs between the editions: the mark, the length of a share and the greatest kind. Each law is over the edition.
use Prim.Native.Nat.{ℕ, zero, suc, ◌+◌, ◌*◌, ◌≤◌, ◌<◌}
use mathlib.Core.Path.{◌≡◌, refl, ◌∙◌}
use mathlib.Core.Bool.{Bool, true, false}
use mathlib.Core.List.{List, [], ◌∷◌}
use native.Mathlib.Omega.{arith}
use native.Mathlib.Nat.{mul-le-mul_left, mul-le-mul_right}
use borrow.Author.Tests.{eqb-true, eq-eqb}
use lib.Dec.{eqb}
use lib.ListN.{length, get_or-eq_default}
use Rattle.numbers.specs.Below.{all_below}
use Rattle.numbers.proofs.Tests.{by_test, cond_true, cond_false}
use Rattle.numbers.proofs.All.{all_at, all_intro}
use Rattle.planformat.specs.declared.Edition.{Edition}
use Rattle.planformat.specs.declared.Edition.TheVariants.{First, Second}
use Rattle.planformat.specs.Bytes.{byte_values, pair_values, four_values, byte_at, le2, le4, bytes2, bytes4}
use Rattle.planformat.specs.Kinds.{client_stated}
use Rattle.planformat.specs.Format.{edition_number, edition_of, mark_byte, mark_length, mark_bytes, start_of, long_share, share_length, last_kind, last_count, body_length, body_at, plan_length, share_bytes, share_from, share_values, edition_in}
use Rattle.planformat.proofs.Shows.{Shows, shown, shows_none, shows_next, shown2, shows2, shown4, shows4}

-- The number that four bytes FF make.
abbrev pub mark_value : ℕ
mark_value = 0xFFFFFFFF

-- The number of an edition is one of two, and stands for it.
pub edition_again : (e : Edition) → edition_of (edition_number e) ≡ e
unfolding edition_of edition_number
edition_again First = refl
edition_again Second = refl

-- Small figures.
pub start_small : (e : Edition) → start_of e ≤ mark_length
unfolding start_of
start_small First = omega arith
start_small Second = omega arith

pub share_length_small : (e : Edition) → share_length e ≤ long_share
unfolding share_length
share_length_small First = omega arith
share_length_small Second = omega arith

pub last_kind_small : (e : Edition) → last_kind e ≤ client_stated
unfolding last_kind
last_kind_small First = omega arith
last_kind_small Second = omega arith

pub share_values_small : (e : Edition) → share_values e ≤ four_values
unfolding share_values
share_values_small First = omega arith
share_values_small Second = omega arith

-- Shares of i bodies, of fewer bodies, and as if all were long.
pub fewer_shares : (e : Edition) (i n : ℕ) → i ≤ n → share_length e * i ≤ share_length e * n
fewer_shares e i n h = mul-le-mul_left (share_length e) h

pub shares_small : (e : Edition) (i : ℕ) → share_length e * i ≤ long_share * i
shares_small e i = mul-le-mul_right i (share_length_small e)

-- A body before the last ends within the plan.
pub body_within : (e : Edition) (n i : ℕ) → i < n → body_at e n i + body_length e ≤ plan_length e n
body_within e n i h = omega (arith, fewer_shares e (i + 1) n (omega arith))

-- Every place of a plan is a small number.
pub body_small : (e : Edition) (n i : ℕ) → n ≤ last_count → i ≤ n → body_at e n i < pair_values
body_small e n i few h = omega (arith, start_small e, fewer_shares e i n h, shares_small e n)

-- No plan is longer than the longest of the second edition.
pub plan_small : (e : Edition) (n : ℕ) → n ≤ last_count → plan_length e n ≤ plan_length Second last_count
unfolding start_of share_length
plan_small e n few = omega (arith, start_small e, shares_small e n)

-- The mark.
pub length_mark : (e : Edition) → length (mark_bytes e) ≡ start_of e
unfolding mark_bytes start_of
length_mark First = refl
length_mark Second = refl

-- A share of either length: its bytes, and the integer that they make.
pub length_share : (e : Edition) (n : ℕ) → length (share_bytes e n) ≡ share_length e
unfolding share_bytes share_length bytes4 bytes2
length_share First n = refl
length_share Second n = refl

pub shown_share : (e : Edition) (s : List ℕ) (a n : ℕ) → n < share_values e → Shows s a (share_bytes e n) → share_from e s a ≡ n
unfolding share_values share_bytes share_from
shown_share First s a n small h = shown2 s a n h ∙ omega arith
shown_share Second s a n small h = shown4 s a n small h

pub shows_share : (e : Edition) (s : List ℕ) (a : ℕ) → ((i : ℕ) → byte_at s i < byte_values) → Shows s a (share_bytes e (share_from e s a))
unfolding share_bytes share_from
shows_share First s a small = shows2 s a (small a) (small (a + 1))
shows_share Second s a small = shows4 s a small

-- Which edition bytes are of.
abbrev Marks : List ℕ → ℕ → Bool
Marks s i = eqb (byte_at s i) mark_byte

pub marked : (s : List ℕ) → all_below mark_length (Marks s) ≡ true → edition_in s ≡ Second
unfolding edition_in
marked s e = cond_true _ Second First e

pub unmarked : (s : List ℕ) → all_below mark_length (Marks s) ≡ false → edition_in s ≡ First
unfolding edition_in
unmarked s e = cond_false _ Second First e

-- Fewer than four bytes have no mark: the last of it is read as 0.
byte_beyond : (s : List ℕ) (i : ℕ) → length s ≤ i → byte_at s i ≡ 0
unfolding byte_at
byte_beyond s i h = get_or-eq_default s 0 {n = i} h

pub short_unmarked : (s : List ℕ) → length s < mark_length → all_below mark_length (Marks s) ≡ false
short_unmarked s short =
    by_test (all_below mark_length (Marks s))
    (λ e. absurd (omega (arith, byte_beyond s 3 (omega arith), eqb-true (byte_at s 3) mark_byte (all_at mark_length (Marks s) e 3 (omega arith)))))
    (λ e. e)

-- Four bytes FF make a number that no disk's rate is.
mark_value_law : (s : List ℕ) → all_below mark_length (Marks s) ≡ true → le4 s 0 ≡ mark_value
unfolding le4 le2
mark_value_law s e =
    let at : (i : ℕ) → i < mark_length → byte_at s i ≡ mark_byte = λ i hi. eqb-true (byte_at s i) mark_byte (all_at mark_length (Marks s) e i hi) in
    omega (arith, at 0 (omega arith), at 1 (omega arith), at 2 (omega arith), at 3 (omega arith))

-- The mark stands before a head; in the first edition the disk's rate stands in its place, which is less than four bytes FF.
pub mark_tells : (e : Edition) (s : List ℕ) (rate : ℕ) → rate < mark_value → Shows s 0 (mark_bytes e) → le4 s (start_of e) ≡ rate → edition_in s ≡ e
unfolding mark_bytes start_of byte_at
mark_tells First s rate small h head = unmarked s (by_test (all_below mark_length (Marks s)) (λ e. absurd (omega (arith, mark_value_law s e))) (λ e. e))
mark_tells Second s rate small h head = marked s (all_intro mark_length (Marks s) (λ i hi. eq-eqb (byte_at s i) mark_byte (shown h i i (omega arith) hi ∙ each i hi)))
  where
    each : (i : ℕ) → i < mark_length → byte_at (mark_byte ∷ mark_byte ∷ mark_byte ∷ mark_byte ∷ []) i ≡ mark_byte
    each zero hi = refl
    each (suc zero) hi = refl
    each (suc (suc zero)) hi = refl
    each (suc (suc (suc zero))) hi = refl
    each (suc (suc (suc (suc i)))) hi = absurd (omega arith)

pub shows_mark : (s : List ℕ) → Shows s 0 (mark_bytes (edition_in s))
unfolding mark_bytes
shows_mark s =
    by_test (all_below mark_length (Marks s))
    (λ e.
    let at : (i : ℕ) → i < mark_length → byte_at s i ≡ mark_byte = λ i hi. eqb-true (byte_at s i) mark_byte (all_at mark_length (Marks s) e i hi) in
    rw (marked s e)
    (shows_next (at 0 (omega arith)) (shows_next (at 1 (omega arith)) (shows_next (at 2 (omega arith)) (shows_next (at 3 (omega arith)) (shows_none s 4))))))
    (λ e. rw (unmarked s e) (shows_none s 0))
