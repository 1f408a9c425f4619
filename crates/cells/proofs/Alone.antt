-- What window i does is what it does alone.
use Prim.Native.Nat.{ℕ}
use mathlib.Core.Path.{◌≡◌}
use mathlib.Core.Bool.{Bool}
use mathlib.Core.List.{List}
use native.Mathlib.Omega.{arith}
use lib.IntN.{ℤ}
use Rattle.hourlaws.specs.Windows.{window_node_at, window_start_at, window_end_at, window_share_at, window_number, covers}
use Rattle.windows.specs.declared.Window.{Window}
use Rattle.windows.specs.Alone.{alone}
use Rattle.windows.specs.Timed.{Timed}
use Rattle.cells.specs.Cells.{cell_value, clear_at, FilledBy, MarkedBy}

module _
    (ws : List ℤ) (i : ℕ) (w : Window) (node : w.node ≡ window_number ws i window_node_at) (start : w.start ≡ window_number ws i window_start_at)
    (end : w.end ≡ window_number ws i window_end_at) (share : w.share ≡ window_number ws i window_share_at) where
  pub timed_alone : Timed ws i → Timed (alone w) 0
  unfolding window_number
  timed_alone t = record { whole = omega arith; node = rw node t.node; rises = rw (start, end) t.rises; ends = rw end t.ends }

  pub filled_alone : (first : ℕ) (old new : List ℕ) (b : Bool) → FilledBy (alone w) first 0 old new b → FilledBy ws first i old new b
  unfolding window_number covers cell_value clear_at
  filled_alone first old new b f = record { long = f.long; at = rw (node, start, end, share) at f.at; clear = rw (node, start, end) at f.clear }

  pub marked_alone : (first : ℕ) (old new : List Bool) → MarkedBy (alone w) first 0 old new → MarkedBy ws first i old new
  unfolding window_number
  marked_alone first old new m = record { long = m.long; at = rw (start, end) at m.at }
