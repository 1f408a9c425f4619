-- Pieces one behind the other: how long they are together, one more of them, and when they are the same.
use Prim.Native.Nat.{ℕ, zero, suc, ◌+◌, ◌*◌, ◌≤◌, ◌<◌}
use mathlib.Core.Path.{◌≡◌, refl, sym}
use mathlib.Core.List.{List}
use native.Mathlib.Omega.{arith}
use lib.ListN.{length, length-append}
use Rattle.planformat.specs.Bytes.{bytes_below}
use Rattle.planformat.proofs.Shows.{bytes_next}
use Rattle.text.specs.Appended.{Appended}
use Rattle.text.proofs.Appending.{append_none, append_as, append_more}

pub bytes_short : (n m : ℕ) (f : ℕ → List ℕ) → ((k : ℕ) → length (f k) ≤ m) → length (bytes_below n f) ≤ m * n
unfolding bytes_below
bytes_short zero m f h = omega arith
bytes_short (suc n) m f h = omega (arith, length-append (bytes_below n f) (f n), bytes_short n m f h, h n)

-- No piece yet, and one piece more, as a loop goes.
pub append_first : (b : List ℕ) (a : ℕ) (f : ℕ → List ℕ) → Appended b a (bytes_below 0 f) b a
unfolding bytes_below
append_first b a f = append_none b a

pub append_next : (b now after : List ℕ) (a at next i : ℕ) (f : ℕ → List ℕ) → a + length (bytes_below i f) ≤ length b → Appended b a (bytes_below i f) now at → Appended now at (f i) after next → Appended b a (bytes_below (i + 1) f) after next
append_next b now after a at next i f room so_far more =
    append_as b a _ _ after next (sym (bytes_next i f)) (append_more b a (bytes_below i f) (f i) now after at next room so_far more)

pub bytes_cong : (n : ℕ) (f g : ℕ → List ℕ) → ((k : ℕ) → k < n → f k ≡ g k) → bytes_below n f ≡ bytes_below n g
unfolding bytes_below
bytes_cong zero f g h = refl
bytes_cong (suc n) f g h = rw (bytes_cong n f g (λ k l. h k (omega arith)), h n (omega arith))
