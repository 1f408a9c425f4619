-- The invariant: the supplier on what is left of the way, from as many steps above the client as were climbed, is the one on the
-- whole way.
use Rattle.std.proofs.Common.{◌≡◌, ◌+◌, ◌<◌, ◌≤◌}
use Rattle.definitions.specs.Limits.{nodes, last_level}
use Rattle.definitions.specs.Tick.{supplier_from, supply}
use Rattle.suppliers.proofs.supplier_of.Given as goal

abbrev pub invariant-loop-node : goal.invariant-loop-node
invariant-loop-node l = record {
  low : l.node < nodes;
  few : l.steps + l.level ≤ last_level;
  rest : supplier_from l.table l.amount l.steps l.level l.node ≡ supply l.table l.k;
}

abbrev pub decreases-loop-node : goal.decreases-loop-node
decreases-loop-node l = l.level
