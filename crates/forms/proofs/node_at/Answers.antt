-- What stands in the entry and in its body.
use Rattle.std.proofs.Common.{◌≡◌, ℕ, ◌+◌, ◌≤◌, ◌<◌, List, length, ap, ap₂, ◌∙◌, arith}
use Rattle.planformat.specs.declared.Edition.{Edition}
use Rattle.planformat.specs.Bytes.{pair_values, byte_at, le4}
use Rattle.planformat.specs.Format.{entry_parent_at, body_share_at, share_length, body_length, entry_at, body_at, edition_in, count_in, share_from, entry_in}
use Rattle.planformat.specs.Framed.{Framed}
use Rattle.planformat.specs.Nodes.{entry_by}
use Rattle.planformat.proofs.Editions.{body_within, body_small, last_kind_small}
use Rattle.planformat.proofs.Codec.{same_entry}
use Rattle.forms.proofs.node_at.Goals as goal

-- Body i ends within the bytes, its place is a small number, and it stands where edition and count in the bytes have it.
record Placed (s : List ℕ) (e : Edition) (n i : ℕ) : Type 0 where
  pub room : body_at e n i + body_length e ≤ length s
  pub low : body_at e n i < pair_values
  pub body : body_at e n i ≡ body_at (edition_in s) (count_in s) i

placed : (s : List ℕ) (e : Edition) (n i : ℕ) → Framed s e n → i < n → Placed s e n i
placed s e n i f h =
    record {
      room = omega (arith, f.long, body_within e n i h);
      low = body_small e n i f.few (omega (arith, f.few));
      body = ap₂ (λ (d : Edition) (m : ℕ). body_at d m i) f.edition f.counted;
    }

pub byte-requires : goal.byte-requires
byte-requires c = omega (arith, (placed _ _ _ _ c.requires.0 c.requires.1).room, c.body_at-body.ensures)

pub unreachable-requires : goal.unreachable-requires
unfolding entry_in
unreachable-requires c =
    let p = placed _ _ _ _ c.requires.0 c.requires.1 in
    omega (arith, c.requires.2, last_kind_small c.args.edition, c.byte.ensures.byte ∙ ap (byte_at c.args.s.now) (c.body_at-body.ensures ∙ p.body), c.in_default.ensures)

pub overflow_add-at_share : goal.overflow_add-at_share
overflow_add-at_share c = omega (arith, (placed _ _ _ _ c.requires.0 c.requires.1).low, c.body_at-body.ensures)

pub share-share-requires : goal.share-share-requires
share-share-requires c = omega (arith, (placed _ _ _ _ c.requires.0 c.requires.1).room, c.body_at-body.ensures)

pub overflow_add-at_share-2 : goal.overflow_add-at_share-2
overflow_add-at_share-2 c = omega (arith, (placed _ _ _ _ c.requires.0 c.requires.1).low, c.body_at-body.ensures)

pub four-depth-requires : goal.four-depth-requires
four-depth-requires c = omega (arith, (placed _ _ _ _ c.requires.0 c.requires.1).room, c.body_at-body.ensures, c.share_length.ensures.length)

pub returns-clause-entry : goal.returns-clause-entry
unfolding entry_by entry_in
returns-clause-entry c =
    let s = c.args.s.now in
    let met = c.requires.0.edition in
    let entry = c.entry_at-at.ensures ∙ ap (λ (e : Edition). entry_at e c.args.i) met in
    let at = c.body_at-body.ensures ∙ (placed _ _ _ _ c.requires.0 c.requires.1).body in
    same_entry _ _
    (c.byte-number.ensures.byte ∙ ap (byte_at s) entry)
    (c.byte-parent.ensures.byte ∙ ap (λ (a : ℕ). byte_at s (a + entry_parent_at)) entry)
    (c.sort_of-sort.ensures.kind ∙ c.in-Ok.ensures ∙ c.byte.ensures.byte ∙ ap (byte_at s) at)
    (c.sort_of-sort.ensures.share ∙ c.share-share.ensures.share ∙ ap₂ (λ (e : Edition) (a : ℕ). share_from e s (a + body_share_at)) met at)
    (c.four-depth.ensures.four ∙ ap (le4 s) (omega (arith, at, c.share_length.ensures.length, ap share_length met)))
