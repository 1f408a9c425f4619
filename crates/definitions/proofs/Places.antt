-- Reading a place after a write: the written place shows what was written, every other place what it showed before.
-- Two tables are equal when their headers and all their places are.
use Prim.Native.Nat.{ℕ, ◌+◌, ◌*◌, ◌-◌, ◌/◌, ◌%◌, ◌≤◌, ◌<◌}
use mathlib.Core.Path.{◌≡◌, sym, ap₂, ◌∙◌, subst}
use mathlib.Core.List.{List}
use native.Mathlib.Omega.{arith}
use lib.ListN.{length, get_or, length-set}
use lib.Seq.{get_or-set_same, get_or-set_other, ext_get_or}
use lib.IntN.{ℤ, pos}
use Rattle.definitions.specs.Limits.{table_length, header_length, record_length, nodes}
use Rattle.definitions.specs.Places.{place, put, header, put_header}

pub length_put : (t : List ℤ) (k p : ℕ) (v : ℤ) → length (put t k p v) ≡ length t
unfolding put
length_put t k p v = length-set t (header_length + record_length * k + p) v

pub length_put_header : (t : List ℤ) (p : ℕ) (v : ℤ) → length (put_header t p v) ≡ length t
unfolding put_header
length_put_header t p v = length-set t p v

pub place_put_same : (t : List ℤ) (k p : ℕ) (v : ℤ) → length t ≡ table_length → k < nodes → p < record_length → place (put t k p v) k p ≡ v
unfolding place put
place_put_same t k p v n hk hp = get_or-set_same t (header_length + record_length * k + p) v (pos 0) (omega arith)

pub place_put_node : (t : List ℤ) (k p : ℕ) (v : ℤ) (j q : ℕ) → p < record_length → q < record_length → (j ≡ k → ⊥) → place (put t k p v) j q ≡ place t j q
unfolding place put
place_put_node t k p v j q hp hq ne = get_or-set_other t (header_length + record_length * k + p) (header_length + record_length * j + q) v (pos 0) (λ e. ne (omega arith))

pub place_put_place : (t : List ℤ) (k p : ℕ) (v : ℤ) (j q : ℕ) → p < record_length → q < record_length → (q ≡ p → ⊥) → place (put t k p v) j q ≡ place t j q
unfolding place put
place_put_place t k p v j q hp hq ne = get_or-set_other t (header_length + record_length * k + p) (header_length + record_length * j + q) v (pos 0) (λ e. ne (omega arith))

pub header_put : (t : List ℤ) (k p : ℕ) (v : ℤ) (q : ℕ) → q < header_length → header (put t k p v) q ≡ header t q
unfolding header put
header_put t k p v q h = get_or-set_other t (header_length + record_length * k + p) q v (pos 0) (λ e. omega arith)

pub place_put_header : (t : List ℤ) (p : ℕ) (v : ℤ) (k q : ℕ) → p < header_length → place (put_header t p v) k q ≡ place t k q
unfolding place put_header
place_put_header t p v k q h = get_or-set_other t p (header_length + record_length * k + q) v (pos 0) (λ e. omega arith)

pub header_put_header_same : (t : List ℤ) (p : ℕ) (v : ℤ) → length t ≡ table_length → p < header_length → header (put_header t p v) p ≡ v
unfolding header put_header
header_put_header_same t p v n h = get_or-set_same t p v (pos 0) (omega arith)

pub header_put_header_other : (t : List ℤ) (p : ℕ) (v : ℤ) (q : ℕ) → (q ≡ p → ⊥) → header (put_header t p v) q ≡ header t q
unfolding header put_header
header_put_header_other t p v q ne = get_or-set_other t p q v (pos 0) ne

-- A write, where the table before it and what is written are known by equations.
pub put_then : (k p : ℕ) {s u t : List ℤ} {v w : ℤ} → s ≡ put u k p v → v ≡ w → u ≡ t → s ≡ put t k p w
put_then k p e same before = e ∙ ap₂ (λ (x : List ℤ) (y : ℤ). put x k p y) before same

-- Writing what stands there changes nothing.
pub put_same : (t : List ℤ) (k p : ℕ) → put t k p (place t k p) ≡ t
unfolding place put
put_same t k p = lib.Seq.set-get_or t (header_length + record_length * k + p) (pos 0)

-- Equal tables.
pub same_places : (t u : List ℤ) → length t ≡ table_length → length u ≡ table_length → ((p : ℕ) → p < header_length → header t p ≡ header u p) → ((k p : ℕ) → k < nodes → p < record_length → place t k p ≡ place u k p) → t ≡ u
unfolding place header
same_places t u nt nu hs ps = ext_get_or (pos 0) t u (nt ∙ sym nu) each
  where
    far : (i : ℕ) → i < table_length → header_length ≤ i → get_or t i (pos 0) ≡ get_or u i (pos 0)
    far i h low =
        let e : i ≡ header_length + record_length * ((i - header_length) / record_length) + (i - header_length) % record_length = omega arith in
        subst (λ (n : ℕ). get_or t n (pos 0) ≡ get_or u n (pos 0)) (sym e) (ps ((i - header_length) / record_length) ((i - header_length) % record_length) (omega arith) (omega arith))

    each : (i : ℕ) → i < length t → get_or t i (pos 0) ≡ get_or u i (pos 0)
    each i h = elim (native.Mathlib.Decide.dec_lt i header_length) [ yes q ↦ hs i q | no q ↦ far i (omega arith) (omega arith) ]
