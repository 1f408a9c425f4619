-- The clients below k are listed.
use Rattle.definitions.specs.Tree.{tree_of}
use Rattle.asking.proofs.Listing.{Lists}
use Rattle.asking.proofs.list_clients.Given as goal

abbrev pub invariant-loop-k : goal.invariant-loop-k
invariant-loop-k l = Lists (tree_of l.table) l.k l.count l.list
