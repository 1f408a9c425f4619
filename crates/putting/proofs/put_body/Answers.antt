-- Kind, share and depth.
use Rattle.std.proofs.Common.{◌+◌, [], ◌∷◌, refl, arith}
use Rattle.planformat.specs.Bytes.{bytes4}
use Rattle.planformat.specs.Format.{body_share_at, share_bytes}
use Rattle.planformat.proofs.Editions.{length_share}
use Rattle.planformat.proofs.Written.{written_after}
use Rattle.putting.proofs.put_body.Goals as goal

pub returns : goal.returns
returns c =
    let x = c.args in
    let b = x.buffer.now in
    written_after b x.a (x.a + body_share_at + c.share_length.result) (x.kind ∷ share_bytes x.edition x.share) (bytes4 x.depth)
    (omega (arith, c.requires.0, length_share x.edition x.share))
    (omega (arith, c.share_length.ensures.length, length_share x.edition x.share))
    c.put_four.ensures
    (written_after b x.a (x.a + body_share_at) (x.kind ∷ []) (share_bytes x.edition x.share) (omega (arith, c.requires.0)) refl
    c.put_share.ensures
    c.put_byte.ensures)
