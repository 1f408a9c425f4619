-- The invariant: best is the best of the clients so far.
use Rattle.std.proofs.Common.{◌≡◌}
use Rattle.suppliers.proofs.Choice.{best_among}
use Rattle.suppliers.proofs.next_client.Given as goal

abbrev pub invariant-clients : goal.invariant-clients
invariant-clients l = l.best ≡ best_among l.table l.k
