use Rattle.std.proofs.Common.{◌∙◌, arith}
use Rattle.planformat.specs.Bytes.{byte_at, le2}
use Rattle.layout.proofs.bytes.pair.Goals as goal

pub returns-clause-pair : goal.returns-clause-pair
unfolding le2 byte_at
returns-clause-pair c = omega (arith, c.from.ensures ∙ c.from_le_bytes.ensures)
