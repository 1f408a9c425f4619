-- The numbers from one on, as the code looks at them, are places of the header and of a record.
use Prim.Native.Nat.{ℕ, suc, ◌+◌, ◌*◌, ◌-◌, ◌≤◌}
use mathlib.Core.Path.{◌≡◌, refl, ap, ◌∙◌}
use mathlib.Core.Bool.{Bool, ◌||◌, ◌&&◌}
use mathlib.Core.Logic.{⊎_elim}
use mathlib.Core.List.{List}
use native.Mathlib.Omega.{arith}
use borrow.Author.Tests.{ltb-true, ltb-false}
use lib.ListN.{get_or}
use lib.Dec.{ltb}
use lib.IntN.{ℤ, pos}
use Rattle.numbers.specs.Below.{all_below}
use Rattle.numbers.proofs.Tests.{same_truth, by_test, and_true, and_left, and_right, or_cases, or_true_left, or_true_right}
use Rattle.numbers.proofs.All.{all_at, all_intro, all_cong}
use Rattle.definitions.specs.Limits.{header_length, record_length, spare_at, spare_length, queue_at, queue_length}
use Rattle.definitions.specs.Places.{place, header}
use Rattle.definitions.specs.Order.{is_zero}
use Rattle.places.specs.Zeros.{zeros}

-- One number looked at from two starts.
same_number : (t : List ℤ) (m n : ℕ) → m ≡ n → is_zero (get_or t m (pos 0)) ≡ is_zero (get_or t n (pos 0))
same_number t m n e = ap (λ (i : ℕ). is_zero (get_or t i (pos 0))) e

pub header_zeros : (t : List ℤ) → zeros t 1 (header_length - 1) ≡ all_below (header_length - 1) (λ p. is_zero (header t (suc p)))
unfolding zeros header
header_zeros t =
    all_cong (header_length - 1) (λ p. is_zero (get_or t (1 + p) (pos 0))) (λ p. is_zero (get_or t (suc p) (pos 0)))
    (λ p hp. same_number t (1 + p) (suc p) (omega arith))

pub record_zeros : (t : List ℤ) (k : ℕ) → zeros t (header_length + record_length * k) record_length ≡ all_below record_length (λ p. is_zero (place t k p))
unfolding zeros place
record_zeros t k = refl

pub spare_zeros : (t : List ℤ) (k : ℕ) → zeros t (header_length + record_length * k + spare_at) spare_length ≡ all_below spare_length (λ p. is_zero (place t k (spare_at + p)))
unfolding zeros place
spare_zeros t k =
    all_cong spare_length (λ p. is_zero (get_or t (header_length + record_length * k + spare_at + p) (pos 0))) (λ p. is_zero (get_or t (header_length + record_length * k + (spare_at + p)) (pos 0)))
    (λ p hp. same_number t (header_length + record_length * k + spare_at + p) (header_length + record_length * k + (spare_at + p)) (omega arith))

-- The spare places and the waiting places in one, which stand one behind the other.
pub both_zeros : (t : List ℤ) (k : ℕ) → zeros t (header_length + record_length * k + spare_at) (record_length - spare_at) ≡ (zeros t (header_length + record_length * k + spare_at) spare_length && zeros t (header_length + record_length * k + queue_at) queue_length)
unfolding zeros
both_zeros t k =
    let at = header_length + record_length * k in
    let zero : ℕ → ℕ → Bool = λ from p. is_zero (get_or t (from + p) (pos 0)) in
    same_truth (zeros t (at + spare_at) (record_length - spare_at)) (zeros t (at + spare_at) spare_length && zeros t (at + queue_at) queue_length)
    (λ h.
    and_true (zeros t (at + spare_at) spare_length) (zeros t (at + queue_at) queue_length)
    (all_intro spare_length (zero (at + spare_at)) (λ p hp. all_at (record_length - spare_at) (zero (at + spare_at)) h p (omega arith)))
    (all_intro queue_length (zero (at + queue_at))
    (λ p hp. same_number t (at + queue_at + p) (at + spare_at + (spare_length + p)) (omega arith) ∙ all_at (record_length - spare_at) (zero (at + spare_at)) h (spare_length + p) (omega arith))))
    (λ h.
    all_intro (record_length - spare_at) (zero (at + spare_at))
    (λ p hp.
    by_test (ltb p spare_length)
    (λ e. all_at spare_length (zero (at + spare_at)) (and_left (zeros t (at + spare_at) spare_length) (zeros t (at + queue_at) queue_length) h) p (ltb-true p spare_length e))
    (λ e.
    same_number t (at + spare_at + p) (at + queue_at + (p - spare_length)) (omega (arith, ltb-false p spare_length e))
    ∙ all_at queue_length (zero (at + queue_at)) (and_right (zeros t (at + spare_at) spare_length) (zeros t (at + queue_at) queue_length) h) (p - spare_length) (omega (arith, ltb-false p spare_length e)))))

-- The waiting places from the first that holds no request on.
pub queue_zeros : (t : List ℤ) (k n : ℕ) → n ≤ queue_length → zeros t (header_length + record_length * k + queue_at + n) (queue_length - n) ≡ all_below queue_length (λ p. ltb p n || is_zero (place t k (queue_at + p)))
unfolding zeros place
queue_zeros t k n hn =
    same_truth (all_below (queue_length - n) (λ p. is_zero (get_or t (header_length + record_length * k + queue_at + n + p) (pos 0)))) (all_below queue_length (λ p. ltb p n || is_zero (get_or t (header_length + record_length * k + (queue_at + p)) (pos 0))))
    (λ h.
    all_intro queue_length (λ p. ltb p n || is_zero (get_or t (header_length + record_length * k + (queue_at + p)) (pos 0)))
    (λ p hp.
    by_test (ltb p n) (or_true_left (ltb p n) (is_zero (get_or t (header_length + record_length * k + (queue_at + p)) (pos 0))))
    (λ e.
    or_true_right (ltb p n) (is_zero (get_or t (header_length + record_length * k + (queue_at + p)) (pos 0)))
    (same_number t (header_length + record_length * k + (queue_at + p)) (header_length + record_length * k + queue_at + n + (p - n)) (omega (arith, ltb-false p n e))
    ∙ all_at (queue_length - n) (λ p. is_zero (get_or t (header_length + record_length * k + queue_at + n + p) (pos 0))) h (p - n) (omega (arith, ltb-false p n e))))))
    (λ h.
    all_intro (queue_length - n) (λ p. is_zero (get_or t (header_length + record_length * k + queue_at + n + p) (pos 0)))
    (λ p hp.
    ⊎_elim (λ e. absurd (omega (arith, ltb-true (n + p) n e)))
    (λ e. same_number t (header_length + record_length * k + queue_at + n + p) (header_length + record_length * k + (queue_at + (n + p))) (omega arith) ∙ e)
    (or_cases (ltb (n + p) n) (is_zero (get_or t (header_length + record_length * k + (queue_at + (n + p))) (pos 0))) (all_at queue_length (λ p. ltb p n || is_zero (get_or t (header_length + record_length * k + (queue_at + p)) (pos 0))) h (n + p) (omega arith)))))
