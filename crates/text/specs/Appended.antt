-- Bytes appended to what stands in a buffer.
use Rattle.std.specs.Prelude.{ℕ, ◌+◌, ◌≡◌, List, length}
use Rattle.planformat.specs.Written.{written}
use Rattle.text.specs.declared.LentText.{LentText}

-- Buffer b with the bytes u from place a on is the buffer after, and the next place is behind them.
pub record Appended (b : List ℕ) (a : ℕ) (u after : List ℕ) (next : ℕ) : Type 0 where
  pub bytes : after ≡ written b a u
  pub behind : next ≡ a + length u

-- A text's buffer lies where it lay before, and is as long as it was.
pub record SameBuffer (before after : LentText) : Type 0 where
  pub place : after.bytes.ghost_name ≡ before.bytes.ghost_name
  pub long : length after.bytes.now ≡ length before.bytes.now
