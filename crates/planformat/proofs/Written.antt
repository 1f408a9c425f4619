-- Bytes written one behind the other.
use Prim.Native.Nat.{ℕ, ◌+◌, ◌*◌, ◌≤◌, ◌<◌}
use mathlib.Core.Path.{◌≡◌, sym, ap, ◌∙◌}
use mathlib.Core.List.{List, [], ◌∷◌, ◌++◌, append_assoc}
use native.Mathlib.Numerals.{add-one}
use native.Mathlib.Omega.{arith}
use native.Mathlib.Nat.{add-zero, zero-add}
use lib.ListN.{length, take, drop, set, length-append, take-append-drop}
use lib.Seq.{length-take-le, take_at, drop-append-add, drop-drop, set_split}
use Rattle.planformat.specs.declared.Edition.{Edition}
use Rattle.planformat.specs.Bytes.{bytes_below}
use Rattle.planformat.specs.Format.{Plan, entry_at, head_bytes, entry_bytes, body_bytes, bytes_of}
use Rattle.planformat.specs.Written.{written}
use Rattle.planformat.proofs.Shows.{bytes_next, length_below}
use Rattle.planformat.proofs.Codec.{length_head, length_entries}

pub written_one : (b : List ℕ) (a v : ℕ) → a < length b → set b a v ≡ written b a (v ∷ [])
unfolding written
written_one b a v h = set_split b a v h ∙ ap (λ (n : ℕ). take a b ++ (v ∷ drop n b)) (sym (add-one a))

module _ (b : List ℕ) (a : ℕ) (u : List ℕ) (room : a + length u ≤ length b) where
  front : length (take a b ++ u) ≡ a + length u
  front = length-append (take a b) u ∙ ap (λ (n : ℕ). n + length u) (length-take-le a b (omega arith))

  pub written_more : (c : ℕ) (v : List ℕ) → c ≡ a + length u → written (written b a u) c v ≡ written b a (u ++ v)
  unfolding written
  written_more c v e =
      rw (e, ← append_assoc (take a b) u (drop (a + length u) b), take_at (take a b ++ u) (drop (a + length u) b) (a + length u) front, behind, length-append u v) (simp append_assoc)
    where
      behind : drop (a + length u + length v) ((take a b ++ u) ++ drop (a + length u) b) ≡ drop (a + (length u + length v)) b
      behind =
          let same : a + length u + length v ≡ a + (length u + length v) = omega arith in
          ap (λ (n : ℕ). drop (n + length v) ((take a b ++ u) ++ drop (a + length u) b)) (sym front)
          ∙ drop-append-add (take a b ++ u) (drop (a + length u) b) (length v)
          ∙ drop-drop (length v) (a + length u) b
          ∙ ap (λ (n : ℕ). drop n b) same

-- Bytes written behind those written before.
pub written_after : (b : List ℕ) (a c : ℕ) (u v : List ℕ) {t s : List ℕ} → a + length u ≤ length b → c ≡ a + length u → t ≡ written s c v → s ≡ written b a u → t ≡ written b a (u ++ v)
written_after b a c u v room at more before = more ∙ ap (λ (x : List ℕ). written x c v) before ∙ written_more b a u room c v at

-- Nothing written, and bytes written from the start on.
pub written_none : (b : List ℕ) (a : ℕ) → written b a [] ≡ b
unfolding written
written_none b a = ap (λ (n : ℕ). take a b ++ drop n b) (add-zero a) ∙ take-append-drop a b

pub written_front : (b u : List ℕ) → written b 0 u ≡ u ++ drop (length u) b
unfolding written
written_front b u = ap (λ (n : ℕ). u ++ drop n b) (zero-add (length u))

-- Pieces of one length written one behind the other, as a loop goes.
module _ (w : ℕ) (f : ℕ → List ℕ) (each : (i : ℕ) → length (f i) ≡ w) (b : List ℕ) (a : ℕ) where
  pub pieces_none : written b a (bytes_below 0 f) ≡ b
  unfolding bytes_below
  pieces_none = written_none b a

  pub pieces_next : (i c : ℕ) (u r : List ℕ) → a + i * w ≤ length b → c ≡ a + i * w → u ≡ written b a (bytes_below i f) → r ≡ written u c (f i) → r ≡ written b a (bytes_below (i + 1) f)
  pieces_next i c u r room here so_far h =
      let long = length_below w f each i in
      h ∙ ap (λ (v : List ℕ). written v c (f i)) so_far ∙ written_more b a (bytes_below i f) (omega arith) c (f i) (omega arith) ∙ ap (written b a) (sym (bytes_next i f))

-- The head, the entries and the bodies written in turn are the plan written.
pub plan_written : (e : Edition) (p : Plan) (n : ℕ) (b h c r : List ℕ) → n ≡ p.count → entry_at e n ≤ length b → h ≡ written b 0 (head_bytes e p) → c ≡ written h (entry_at e 0) (bytes_below n (entry_bytes e p)) → r ≡ written c (entry_at e n) (bytes_below n (body_bytes e p)) → r ≡ written b 0 (bytes_of e p)
unfolding bytes_of
plan_written e p n b h c r count room head entries bodies =
    bodies
    ∙ ap (λ (v : List ℕ). written v (entry_at e n) (below body_bytes)) front
    ∙ written_more b 0 (head_bytes e p ++ below entry_bytes) (omega (arith, long)) (entry_at e n) (below body_bytes) (omega (arith, long))
    ∙ ap (λ (m : ℕ). written b 0 (head_bytes e p ++ bytes_below m (entry_bytes e p) ++ bytes_below m (body_bytes e p))) count
  where
    below : (Edition → Plan → ℕ → List ℕ) → List ℕ
    below part = bytes_below n (part e p)

    long : length (head_bytes e p ++ below entry_bytes) ≡ entry_at e n
    long = length-append (head_bytes e p) (below entry_bytes) ∙ omega (arith, length_head e p, length_entries e p n)

    front : c ≡ written b 0 (head_bytes e p ++ below entry_bytes)
    front = entries ∙ ap (λ (v : List ℕ). written v (entry_at e 0) (below entry_bytes)) head ∙ written_more b 0 (head_bytes e p) (omega (arith, length_head e p)) (entry_at e 0) (below entry_bytes) (omega (arith, length_head e p))
