-- Bytes copied over a part of the buffer are written there.
use Rattle.std.proofs.Common.{◌≡◌, ℕ, ◌+◌, ◌-◌, List, ◌++◌, length, take, ap, arith}
use borrow.Rule.Slice.PartMut.{put_mid}
use lib.Seq.{drop-drop}
use Rattle.planformat.specs.Written.{written}

pub copied : (b u part : List ℕ) (a next : ℕ) → part ≡ u → next ≡ a + length u → put_mid a (next - a) b part ≡ written b a u
unfolding written
copied b u part a next same behind =
    let long : next - a ≡ length u = omega arith in
    rw (same, long) (ap (λ (rest : List ℕ). take a b ++ (u ++ rest)) (drop-drop (length u) a b))
