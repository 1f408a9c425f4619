-- Rate, depth and count.
use Rattle.std.proofs.Common.{ℕ, ◌+◌, [], ◌∷◌, ◌++◌, ap, ◌∙◌, refl, arith}
use native.Mathlib.Nat.{add-zero}
use Rattle.planformat.specs.Bytes.{bytes2, bytes4}
use Rattle.planformat.specs.Format.{root_depth_at, count_at}
use Rattle.planformat.specs.Written.{written}
use Rattle.planformat.proofs.Written.{written_after}
use Rattle.putting.proofs.put_numbers.Goals as goal

pub returns : goal.returns
unfolding bytes4 bytes2
returns c =
    let x = c.args in
    let b = x.buffer.now in
    written_after b x.a (x.a + count_at) (bytes4 x.rate ++ bytes4 x.depth) (x.count ∷ []) (omega arith) refl
    c.put_byte.ensures
    (written_after b x.a (x.a + root_depth_at) (bytes4 x.rate) (bytes4 x.depth) (omega arith) refl
    c.put_four-2.ensures
    (c.put_four.ensures ∙ ap (λ (n : ℕ). written b n (bytes4 x.rate)) (add-zero x.a)))
