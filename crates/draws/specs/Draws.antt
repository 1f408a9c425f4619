-- The draws of a load. Document 02, (d).
use Rattle.std.specs.Prelude.{ℕ, zero, suc, ◌+◌, ◌*◌, ◌/◌, ◌%◌, ◌^◌}

-- The new state of a draw, wrapping at 32 bits.
unfoldable pub next_state : ℕ → ℕ
next_state state = (state * 1664525 + 1013904223) % 2 ^ 32

-- The state after n draws.
unfoldable pub state_after : ℕ → ℕ → ℕ
state_after zero state = state
state_after (suc n) state = next_state (state_after n state)

-- What is drawn when a state is new: its upper 16 bits.
unfoldable pub upper : ℕ → ℕ
upper state = state / 2 ^ 16

-- The n-th draw from a state, counted from 1.
unfoldable pub draw : ℕ → ℕ → ℕ
draw n state = upper (state_after n state)
