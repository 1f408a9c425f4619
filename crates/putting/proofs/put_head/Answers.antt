-- The mark, then the numbers.
use Rattle.std.proofs.Common.{[], ◌∷◌, ◌++◌, arith}
use Rattle.planformat.specs.Bytes.{bytes4}
use Rattle.planformat.specs.Format.{mark_bytes}
use Rattle.planformat.proofs.Editions.{length_mark}
use Rattle.planformat.proofs.Written.{written_after}
use Rattle.putting.proofs.put_head.Goals as goal

pub returns : goal.returns
returns c =
    let x = c.args in
    written_after x.buffer.now 0 c.start_of.result (mark_bytes x.edition) (bytes4 x.rate ++ bytes4 x.depth ++ (x.count ∷ []))
    (omega (arith, length_mark x.edition, c.requires.0))
    (omega (arith, length_mark x.edition, c.start_of.ensures.start))
    c.put_numbers.ensures
    c.put_mark.ensures
