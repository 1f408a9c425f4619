-- What the tests over the week ask of a window.
use Rattle.std.specs.Prelude.{ℕ, ◌+◌, ◌*◌, ◌≤◌, ◌<◌, List, length, ℤ}
use Rattle.definitions.specs.Limits.{nodes}
use Rattle.hourlaws.specs.Windows.{week_minutes, window_length, window_share_at, window_node, window_start, window_end}

-- Its four numbers are there, it is one of a node, it ends after it starts, and it ends in the week.
pub record Timed (ws : List ℤ) (i : ℕ) : Type 0 where
  pub whole : window_length * i + window_share_at < length ws
  pub node : window_node ws i < nodes
  pub rises : window_start ws i < window_end ws i
  pub ends : window_end ws i ≤ week_minutes
