use Rattle.std.proofs.Common.{◌≡◌, ◌+◌, ap, ◌∙◌, arith}
use Rattle.planformat.specs.Bytes.{byte_at, le2, le4}
use Rattle.layout.proofs.bytes.four.Goals as goal

pub returns-clause-four : goal.returns-clause-four
unfolding le4 le2 byte_at
returns-clause-four c =
    let last : c.args.i + 2 + 1 ≡ c.args.i + 3 = omega arith in
    omega (arith, c.from.ensures ∙ c.from_le_bytes.ensures, ap (byte_at c.args.s.now) last)
