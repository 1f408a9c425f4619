-- The waiting place, the waiting count and the header's count.
use Rattle.std.proofs.Common.{◌≡◌, ◌+◌, ℕ, ℤ, pos, List, add-one}
use mir.Syntax.{w64}
use mir.ValLaws.{to_z-of_z}
use Rattle.numbers.specs.Whole.{plus}
use Rattle.definitions.specs.Limits.{waiting_at, tag_at, size_at, arrival_at}
use Rattle.definitions.specs.Places.{place, put, put_header, queue_place, count, waiting}
use Rattle.definitions.specs.Calls.{requested}
use Rattle.requesting.proofs.write_request.Goals as goal

-- The three writes make what is requested.
together :
    (t t₁ t₂ t₃ : List ℤ) (k w n : ℕ) (tag size : ℤ)
    → w ≡ plus (place t k waiting_at)
    → n ≡ count t
    → t₁ ≡ put (put (put t k (queue_place w + tag_at) tag) k (queue_place w + size_at) size) k (queue_place w + arrival_at) (pos (n + 1))
    → t₂ ≡ put t₁ k waiting_at (pos (w + 1))
    → t₃ ≡ put_header t₂ 0 (pos (n + 1))
    → t₃ ≡ requested t k tag size
unfolding requested waiting
together t t₁ t₂ t₃ k w n tag size hw hn h₁ h₂ h₃ = cc (add-one w, add-one n)

pub returns : goal.returns
returns c =
    together c.args.table.now _ _ _ c.args.k _ _ c.args.tag c.args.size
    c.natural-waiting.ensures
    c.count-number.ensures
    (rw (to_z-of_z w64 _ c.ranges.tag, to_z-of_z w64 _ c.ranges.size) at c.write_place.ensures)
    c.put_natural.ensures
    c.put_count.ensures
