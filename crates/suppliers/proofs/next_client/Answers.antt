use Rattle.std.proofs.Common.{rules}
use Rattle.suppliers.proofs.Choice.{best_turn}
use Rattle.suppliers.proofs.next_client.Goals as goal

pub returns : goal.returns
returns c = let e = best_turn _ _ _ c.clients.invariant c.clients-test.false c.clients.auto.k-end in search (rules, e)
