use Rattle.std.proofs.Common.{◌+◌, take, ap, ◌∙◌, refl}
use Rattle.planformat.specs.Bytes.{bytes2}
use Rattle.putting.proofs.Copied.{copied}
use Rattle.putting.proofs.put_pair.Goals as goal

pub returns : goal.returns
unfolding bytes2
returns c = copied _ (bytes2 c.args.n) _ _ (c.args.a + 2) (c.copy_from_slice.ensures.after ∙ ap (take 2) c.to_le_bytes.ensures) refl
