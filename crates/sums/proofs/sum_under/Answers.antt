-- The sum fits at every node: a term adds at most 2^57.
use Rattle.std.proofs.Common.{◌≡◌, ◌∙◌, sym, arith}
use Rattle.definitions.specs.Limits.{nodes}
use Rattle.definitions.specs.Tree.{tree_of}
use Rattle.sums.specs.Sums.{term}
use Rattle.sums.proofs.NodeByNode.{under_start, under_next, under_end, under_small, child_small}
use Rattle.sums.proofs.sum_under.Goals as goal

pub loop-k-init : goal.loop-k-init
loop-k-init c = sym (under_start _ _ _)

pub overflow_add-sum : goal.overflow_add-sum
overflow_add-sum c =
    omega (arith, child_small c.args.which c.args.table.now c.requires c.args.c c.loop-k.k (omega arith), under_small c.args.which c.args.table.now c.requires c.loop-k.k c.args.c (omega arith))

pub loop-k-preserved : goal.loop-k-preserved
loop-k-preserved c = omega (arith, under_next (tree_of c.args.table.now) c.args.c (term c.args.which c.args.table.now) c.loop-k.k)

pub returns : goal.returns
returns c =
    let end : c.loop-k.k ≡ nodes = omega arith in
    rw end at c.loop-k.invariant ∙ under_end _ _ _
