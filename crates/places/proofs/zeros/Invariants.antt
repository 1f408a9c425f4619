-- The invariant: the bits are zero just where the numbers so far are.
use Rattle.std.proofs.Common.{◌≡◌, get_or, pos}
use Rattle.numbers.specs.Below.{all_below}
use Rattle.definitions.specs.Order.{is_zero}
use Rattle.places.proofs.zeros.Given as goal

abbrev pub invariant-loop-z : goal.invariant-loop-z
invariant-loop-z l = is_zero l.bits ≡ all_below l.z-index (λ p. is_zero (get_or l.z-items p (pos 0)))
