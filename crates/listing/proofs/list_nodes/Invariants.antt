-- The nodes that stand below m are listed.
use Rattle.std.proofs.Common.{◌≡◌, length, take}
use Rattle.definitions.specs.Limits.{nodes}
use Rattle.definitions.specs.Tree.{tree_of}
use Rattle.planlaws.specs.Writing.{order_below}
use Rattle.listing.proofs.list_nodes.Given as goal

abbrev pub invariant-loop-m : goal.invariant-loop-m
invariant-loop-m l =
    (length l.nodes ≡ nodes) × (l.count ≡ length (order_below (tree_of l.table) l.m)) × (take l.count l.nodes ≡ order_below (tree_of l.table) l.m)
