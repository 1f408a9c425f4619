-- The sum leaves room for one share more.
use Rattle.std.proofs.Common.{arith}
use Rattle.definitions.specs.Limits.{nodes}
use Rattle.definitions.specs.Tree.{tree_of}
use Rattle.sums.specs.declared.Summand.TheVariants.{Shares}
use Rattle.sums.specs.Sums.{term}
use Rattle.sums.proofs.NodeByNode.{under_small, under_end}
use Rattle.sums.proofs.sum_with.Goals as goal

pub overflow_add-result : goal.overflow_add-result
overflow_add-result c =
    let which = Shares c.args.summed in
    let t = c.args.table.now in
    omega (arith, c.sum_under-sum.ensures, under_small which t c.requires.0 nodes c.args.c (omega arith), under_end (tree_of t) c.args.c (term which t))
