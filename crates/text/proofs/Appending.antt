-- Bytes appended one behind the other.
use Prim.Native.Nat.{ℕ, ◌+◌, ◌-◌, ◌≤◌}
use mathlib.Core.Path.{◌≡◌, sym, ap, ◌∙◌}
use mathlib.Core.List.{List, [], ◌++◌}
use native.Mathlib.Omega.{arith}
use lib.ListN.{length, take, drop, length-append}
use lib.Seq.{length-take-le, take_at, drop-drop}
use borrow.Rule.Slice.PartMut.{put_mid}
use Rattle.io.specs.Counts.{IsPrefixLen}
use Rattle.planformat.specs.Written.{written}
use Rattle.planformat.proofs.Written.{written_more, written_none, written_front}
use Rattle.text.specs.Appended.{Appended}

module _ (b : List ℕ) (a : ℕ) where
  pub append_none : Appended b a [] b a
  append_none = record { bytes = sym (written_none b a); behind = omega arith }

  -- The bytes as another term has them.
  pub append_as : (u v after : List ℕ) (next : ℕ) → u ≡ v → Appended b a u after next → Appended b a v after next
  append_as u v after next e h = rw e at h

  -- Behind the bytes u the bytes v.
  pub append_more : (u v after last : List ℕ) (next end : ℕ) → a + length u ≤ length b → Appended b a u after next → Appended after next v last end → Appended b a (u ++ v) last end
  append_more u v after last next end room h more =
      record {
        bytes = more.bytes ∙ ap (λ (x : List ℕ). written x next v) h.bytes ∙ written_more b a u room next v h.behind;
        behind = omega (arith, h.behind, more.behind, length-append u v);
      }

  -- What is appended to a text that lies within its buffer lies within it, too.
  pub appended_within : (u after : List ℕ) (next : ℕ) → a ≤ length b → Appended b a u after next → next ≤ length after
  unfolding written
  appended_within u after next within h =
      omega (arith, h.behind, ap length h.bytes, length-append (take a b) (u ++ drop (a + length u) b), length-append u (drop (a + length u) b), length-take-le a b within)

  -- A piece copied over a part of the buffer.
  pub append_copied : (piece part : List ℕ) (next : ℕ) → part ≡ piece → next ≡ a + length piece → Appended b a piece (put_mid a (next - a) b part) next
  unfolding written
  append_copied piece part next same behind =
      let long : next - a ≡ length piece = omega arith in
      record {
        bytes = rw (same, long) (ap (λ (rest : List ℕ). take a b ++ (piece ++ rest)) (drop-drop (length piece) a b));
        behind = behind;
      }

-- What is appended from the start on stands at the start, and the next place counts its bytes.
module _ (b u after : List ℕ) (next : ℕ) (h : Appended b 0 u after next) where
  front : after ≡ u ++ drop (length u) b
  front = h.bytes ∙ written_front b u

  pub appended_front : take next after ≡ u
  appended_front = ap (take next) front ∙ take_at u (drop (length u) b) next (omega (arith, h.behind))

  pub appended_counts : IsPrefixLen next after
  appended_counts = (
    appended_within b 0 u after next (omega arith) h,
    omega (arith, ap length appended_front, h.behind),
  )

-- So what is written at the start of a buffer is read back there.
pub written_first : (b u after : List ℕ) (n : ℕ) → after ≡ written b 0 u → n ≡ length u → take n after ≡ u
written_first b u after n e h = appended_front b u after n (record { bytes = e; behind = omega (arith, h) })
