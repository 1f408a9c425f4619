-- The shares below k are written.
use Rattle.std.proofs.Common.{◌≡◌, ℕ, ◌<◌, get_or}
use Rattle.definitions.specs.Tree.{tree_of}
use Rattle.windows.proofs.plan_shares.Given as goal

abbrev pub invariant-loop-k : goal.invariant-loop-k
invariant-loop-k l = (j : ℕ) → j < l.k → get_or l.shares j 0 ≡ (tree_of l.plan).share j
