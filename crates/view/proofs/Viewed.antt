-- What reading the count of a plan and the node of an entry asks of the bytes.
use Prim.Native.Nat.{ℕ, ◌+◌, ◌≤◌, ◌<◌}
use mathlib.Core.Path.{◌≡◌, ap, ap₂}
use mathlib.Core.Bool.{true}
use mathlib.Core.List.{List}
use native.Mathlib.Omega.{arith}
use lib.ListN.{length}
use Rattle.planformat.specs.declared.Edition.{Edition}
use Rattle.planformat.specs.Bytes.{pair_values}
use Rattle.planformat.specs.Format.{head_length, last_count, last_kind, start_of, body_at, body_length, edition_in, count_in, entry_in, formed}
use Rattle.planformat.proofs.Editions.{body_within, body_small}
use Rattle.planformat.proofs.Codec.{formed_facts, formed_frame}
use Rattle.planformat.specs.Framed.{Framed}
use Rattle.view.specs.Views.{Views}

-- Well formed bytes have a head, where their edition has it.
pub headed : (s : List ℕ) (e : Edition) → formed s ≡ true → e ≡ edition_in s → (e ≡ edition_in s) × (start_of e + head_length ≤ length s)
headed s e right same = (same, omega (arith, ap start_of same, (formed_facts s right).long))

-- The bytes of a view are framed, and entry i has a kind of their edition.
pub viewed : (s : List ℕ) (e : Edition) (n i : ℕ) → Views s e n → i < n → Framed s e n × (i < n) × ((entry_in s i).kind ≤ last_kind e)
viewed s e n i views within =
    let f = formed_facts s views.right in
    let here : i < count_in s = omega (arith, views.counted) in
    rw (views.edition, views.counted) (formed_frame s f, here, f.kind i here)

-- What a view says of entry i: there are few entries, its body stands where the bytes have it and ends within them, and its kind
-- is one of the edition.
pub record Within (s : List ℕ) (e : Edition) (n i : ℕ) : Type 0 where
  pub few : n ≤ last_count
  pub room : body_at e n i + body_length e ≤ length s
  pub low : body_at e n i < pair_values
  pub body : body_at e n i ≡ body_at (edition_in s) (count_in s) i
  pub kind : (entry_in s i).kind ≤ last_kind e

pub within : (s : List ℕ) (e : Edition) (n i : ℕ) → Views s e n → i < n → Within s e n i
within s e n i views h =
    let v = viewed s e n i views h in
    let f = v.0 in
    record {
      few = f.few;
      room = omega (arith, f.long, body_within e n i h);
      low = body_small e n i f.few (omega arith);
      body = ap₂ (λ (d : Edition) (m : ℕ). body_at d m i) f.edition f.counted;
      kind = v.2;
    }
