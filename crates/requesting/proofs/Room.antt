-- Where a request is accepted, there is room for it and for its number.
use Prim.Native.Nat.{ℕ, ◌+◌, ◌<◌, ◌^◌}
use mathlib.Core.Path.{◌≡◌}
use mathlib.Core.List.{List}
use native.Mathlib.Omega.{arith}
use lib.ListN.{length}
use lib.IntN.{ℤ}
use Rattle.numbers.specs.Whole.{plus}
use Rattle.numbers.proofs.Parts.{zarith}
use Rattle.definitions.specs.Limits.{table_length, nodes, most_waiting}
use Rattle.definitions.specs.Places.{count, waiting}
use Rattle.definitions.specs.Calls.{request_refusal}
use Rattle.definitions.proofs.Facts.{facts}
use Rattle.definitions.proofs.Passed.{request_passed}

pub record Room (t : List ℤ) (k : ℕ) : Type 0 where
  pub long : length t ≡ table_length
  pub node : k < nodes
  pub places : waiting t k < most_waiting
  pub numbers : count t + 1 < 2 ^ 63

pub accepted_room : (t : List ℤ) (node tag size : ℤ) → request_refusal t node tag size ≡ 0 → Room t (plus node)
unfolding count waiting
accepted_room t node tag size h =
    let p = request_passed t node tag size h in
    let f = facts t p.order in
    let waits = (f.limits _ p.node p.there).waiting in
    record { long = f.long; node = p.node; places = omega (arith, zarith, p.room); numbers = omega (arith, zarith, f.counted) }
