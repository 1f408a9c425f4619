use Rattle.std.proofs.Common.{◌+◌, [], ◌∷◌, refl, arith}
use Rattle.planformat.specs.Bytes.{bytes2}
use Rattle.planformat.specs.Format.{entry_parent_at, entry_offset_at}
use Rattle.planformat.proofs.Written.{written_after}
use Rattle.putting.proofs.put_entry.Goals as goal

pub returns : goal.returns
unfolding bytes2
returns c =
    let x = c.args in
    written_after x.buffer.now x.a (x.a + entry_offset_at) (x.node ∷ x.parent ∷ []) (bytes2 x.offset) (omega arith) refl
    c.put_pair.ensures
    (written_after x.buffer.now x.a (x.a + entry_parent_at) (x.node ∷ []) (x.parent ∷ []) (omega arith) refl
    c.put_byte-2.ensures
    c.put_byte.ensures)
