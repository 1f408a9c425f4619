-- The shares that the cells of a minute show are in their limits, so that their sums fit; and the sums of one kind are the test of that
-- kind.
use Prim.Native.Nat.{ℕ, ◌+◌, ◌-◌, ◌≤◌, ◌<◌}
use mathlib.Core.Path.{◌≡◌, ap}
use mathlib.Core.List.{List}
use native.Mathlib.Omega.{arith}
use lib.Dec.{eqb, leb}
use lib.ListN.{get_or}
use lib.IntN.{ℤ}
use Rattle.numbers.specs.Below.{all_below}
use Rattle.numbers.proofs.Tests.{by_test, cond_true, cond_false}
use Rattle.numbers.proofs.All.{all_cong}
use Rattle.definitions.specs.Limits.{nodes, kinds, greatest_rate}
use Rattle.definitions.specs.Tree.{Tree, tree_of, there}
use Rattle.hourlaws.specs.SetMinute.{kind_within}
use Rattle.sums.specs.Sums.{Shareable, sum_at, ShareSums}
use Rattle.sums.proofs.NodeByNode.{share_sums_end}
use Rattle.cells.specs.Cells.{part_minutes, cell_at}
use Rattle.week.specs.Week.{cell_share, cell_tree, Shared, Small}

-- The share that a cell shows is at most the greatest rate.
cell_share_small : (tree : Tree) (cells : List ℕ) (j k : ℕ) → tree.share k ≤ greatest_rate → get_or cells (cell_at k j) 0 ≤ greatest_rate + 1 → cell_share tree cells j k ≤ greatest_rate
unfolding cell_share
cell_share_small tree cells j k share cell =
    by_test (eqb (get_or cells (cell_at k j) 0) 0)
    (λ e. omega (arith, cond_true _ (tree.share k) (get_or cells (cell_at k j) 0 - 1) e))
    (λ e. omega (arith, cond_false _ (tree.share k) (get_or cells (cell_at k j) 0 - 1) e))

pub cells_shareable : (t : List ℤ) (cells : List ℕ) (j : ℕ) → Shared t → Small cells → j < part_minutes → Shareable (cell_tree (tree_of t) cells j)
unfolding cell_tree there
cells_shareable t cells j s small hj =
    record { parent = s.parent; kind = s.kind; small = λ k hk e ne. cell_share_small (tree_of t) cells j k (s.share k hk) (small k j hk hj) }

pub sums_judge : (tree : Tree) (sums : List ℕ) (kind limit : ℕ) → ShareSums tree nodes sums → kind < kinds → all_below nodes (λ c. leb (get_or sums (sum_at c kind) 0) limit) ≡ kind_within kind limit tree
unfolding kind_within
sums_judge tree sums kind limit f hk = all_cong nodes (λ c. leb (get_or sums (sum_at c kind) 0) limit) _ (λ c hc. ap (λ (n : ℕ). leb n limit) (share_sums_end tree sums f c kind hc hk))
