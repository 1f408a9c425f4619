-- What the list of a port gets.
use Rattle.std.specs.Prelude.{ℕ, cond, eqb}

-- How many entries the list of port p gets of a dispatch for a client on a port: one where it is that port.
unfoldable pub gets : ℕ → ℕ → ℕ
gets p port = cond (eqb port p) 1 0
