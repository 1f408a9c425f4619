-- A window that is right for a plan is timed.
use Prim.Native.Nat.{ℕ, ◌<◌}
use mathlib.Core.Path.{◌≡◌}
use mathlib.Core.Bool.{true}
use mathlib.Core.List.{List}
use native.Mathlib.Omega.{arith}
use borrow.Author.Tests.{ltb-true}
use lib.IntN.{ℤ}
use Rattle.numbers.specs.Below.{all_below}
use Rattle.numbers.proofs.Every.{head_holds, rest_hold}
use Rattle.numbers.proofs.Parts.{within_parts}
use Rattle.numbers.proofs.All.{all_at}
use Rattle.definitions.specs.Limits.{last_node}
use Rattle.definitions.specs.Tree.{Tree}
use Rattle.hourlaws.specs.Windows.{week_minutes, window_node_at, window_end_at, window_number, window_start, window_end, window_count, window_formed}
use Rattle.windows.specs.Timed.{Timed}

pub timed_of : (tree : Tree) (ws : List ℤ) → all_below (window_count ws) (window_formed tree ws) ≡ true → (i : ℕ) → i < window_count ws → Timed ws i
unfolding window_formed
timed_of tree ws h i hi =
    let w = all_at (window_count ws) (window_formed tree ws) h i hi in
    let w1 = rest_hold _ _ w in
    let w2 = rest_hold _ _ w1 in
    let node = within_parts 1 last_node (window_number ws i window_node_at) (head_holds _ _ (rest_hold _ _ w2)) in
    let end = within_parts 0 week_minutes (window_number ws i window_end_at) (head_holds _ _ w1) in
    record { whole = omega arith; node = omega arith; rises = ltb-true (window_start ws i) (window_end ws i) (head_holds _ _ w2); ends = omega arith }
