-- Node, sort, rate and the line's end stand one behind the other.
use Rattle.std.proofs.Common.{arith}
use Rattle.text.specs.Text.{ascii}
use Rattle.text.proofs.Decimal.{decimal_short}
use Rattle.report.proofs.Lines.{sort_short, node_appended}
use Rattle.report.proofs.put_node.Goals as goal

pub put_sort-requires : goal.put_sort-requires
put_sort-requires c = omega (arith, decimal_short c.args.node)

pub put_decimal-requires-2 : goal.put_decimal-requires-2
put_decimal-requires-2 c = omega (arith, decimal_short c.args.node, sort_short c.args.class)

pub put_text-requires : goal.put_text-requires
put_text-requires c =
    omega (arith, decimal_short c.args.node, sort_short c.args.class, decimal_short c.args.rate)

pub returns-clause-put : goal.returns-clause-put
unfolding ascii
returns-clause-put c =
    node_appended _ _ _ _ _ _ _ _ _ _ _ _ _ (omega arith) c.put_decimal.ensures.put c.put_sort.ensures.put c.put_decimal-2.ensures.put c.put_text.ensures.put
