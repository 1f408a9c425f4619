-- The product fits 64 bits.
use Rattle.std.proofs.Common.{arith}
use native.Mathlib.Nat.{mul-le-mul}
use Rattle.planformat.proofs.Editions.{start_small}
use Rattle.forms.proofs.body_at.Goals as goal

pub overflow_add-result : goal.overflow_add-result
overflow_add-result c =
    omega (arith, mul-le-mul c.body_length.ensures.small c.requires.1, c.entry_at.ensures, start_small c.args.edition)
