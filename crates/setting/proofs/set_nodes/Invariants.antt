-- The nodes so far have their kinds and shares.
use Rattle.std.proofs.Common.{◌≡◌, ℕ, ◌<◌, pos, get_or}
use Rattle.numbers.specs.Below.{for_below}
use Rattle.definitions.specs.Limits.{nodes}
use Rattle.definitions.specs.Tree.{tree_of}
use Rattle.definitions.specs.Calls.{reshared}
use Rattle.hourlaws.specs.Windows.{share_in}
use Rattle.setting.proofs.set_nodes.Given as goal

abbrev pub invariant-loop-k : goal.invariant-loop-k
invariant-loop-k l =
    ((j : ℕ) → j < nodes → get_or l.shares j 0 ≡ share_in (tree_of l.plan) l.windows l.m j)
    × (l.table ≡ for_below l.k (λ j u. reshared u j (pos ((tree_of l.plan).kind j)) (pos (share_in (tree_of l.plan) l.windows l.m j))) l.initial.table)
