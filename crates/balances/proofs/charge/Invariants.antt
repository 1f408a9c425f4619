-- The invariant: what is left to charge from here, applied to the table as it is now, equals the whole charge applied to the
-- table as it came.
use Rattle.std.proofs.Common.{◌≡◌, ◌<◌, ◌-◌}
use Rattle.definitions.specs.Limits.{nodes}
use Rattle.definitions.specs.Tree.{tree_of}
use Rattle.definitions.specs.Tick.{charge}
use Rattle.balances.proofs.Charged.{Chargeable}
use Rattle.balances.proofs.charge.Given as goal

abbrev pub invariant-loop : goal.invariant-loop
invariant-loop l = record {
  low : l.node < nodes;
  able : Chargeable (tree_of l.fn.table) l.amount (l.level - l.counter) l.table;
  left : charge l.table l.amount (l.level - l.counter) l.node ≡ charge l.fn.table l.amount ((tree_of l.fn.table).level l.s) l.s;
}
