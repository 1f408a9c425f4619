-- Buckets start empty. Open writes no balance into its table of zeros. Join leaves the balance that stood in the node's
-- record, and the record of an unused node is zero.
use Prim.Native.Nat.{ℕ, ◌<◌}
use mathlib.Core.Path.{◌≡◌, ◌∙◌}
use mathlib.Core.Bool.{false}
use mathlib.Core.List.{List}
use native.Mathlib.Omega.{arith}
use lib.ListN.{length}
use lib.IntN.{ℤ, pos}
use Rattle.definitions.specs.Limits.{table_length, nodes, root, balance_at}
use Rattle.definitions.specs.Places.{balance}
use Rattle.definitions.specs.Tree.{tree_of, there}
use Rattle.definitions.specs.Calls.{opened, joined}
use Rattle.definitions.proofs.Facts.{InOrder}
use Rattle.definitions.proofs.Edits.{opened_place_law, joined_rest}

pub opened_empty : (rate depth : ℤ) → balance (opened rate depth) root ≡ pos 0
unfolding balance
opened_empty rate depth =
    opened_place_law rate depth balance_at (omega arith) (omega arith) (omega arith) (omega arith) (omega arith)

module _ (t : List ℤ) (k parent : ℕ) (sort kind share depth port : ℤ) where
  pub joined_balance : length t ≡ table_length → k < nodes → (j : ℕ) → balance (joined t k parent sort kind share depth port) j ≡ balance t j
  unfolding balance
  joined_balance long node j = joined_rest t k parent sort kind share depth port long node j balance_at (omega arith) (omega arith) (λ e. omega arith)

  pub joined_empty : InOrder t → k < nodes → there (tree_of t) k ≡ false → balance (joined t k parent sort kind share depth port) k ≡ pos 0
  unfolding balance
  joined_empty order node unused = joined_balance order.long node k ∙ order.empty k node unused balance_at (omega arith)
