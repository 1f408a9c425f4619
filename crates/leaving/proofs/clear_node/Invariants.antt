-- The invariant: the places so far are zero.
use Rattle.std.proofs.Common.{◌≡◌, pos}
use Rattle.numbers.specs.Below.{for_below}
use Rattle.definitions.specs.Places.{put}
use Rattle.leaving.proofs.clear_node.Given as goal

abbrev pub invariant-loop-p : goal.invariant-loop-p
invariant-loop-p l = l.table ≡ for_below l.p (λ p u. put u l.k p (pos 0)) l.initial.table
