-- Each node has its share by the windows so far.
use Rattle.std.proofs.Common.{◌≡◌, ℕ, ◌<◌, get_or}
use Rattle.definitions.specs.Limits.{nodes}
use Rattle.definitions.specs.Tree.{tree_of}
use Rattle.hourlaws.specs.Windows.{window_share, value_by}
use Rattle.windows.proofs.shares_at.Given as goal

abbrev pub invariant-loop-i : goal.invariant-loop-i
invariant-loop-i l =
    (k : ℕ) → k < nodes → get_or l.shares k 0 ≡ value_by l.windows (window_share l.windows) l.i k l.m ((tree_of l.plan).share k)
