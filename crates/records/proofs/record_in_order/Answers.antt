use Rattle.std.proofs.Common.{sym, ◌∙◌}
use Rattle.numbers.proofs.Tests.{cond_true, cond_false}
use Rattle.definitions.specs.Tree.{tree_of, there}
use Rattle.places.proofs.Spans.{record_zeros}
use Rattle.records.specs.Record.{record_in_order}
use Rattle.records.proofs.record_in_order.Goals as goal

pub returns-then-not-there : goal.returns-then-not-there
unfolding record_in_order
returns-then-not-there c =
    c.zeros.ensures
    ∙ record_zeros _ _
    ∙ sym (cond_false (there (tree_of c.args.table.now) c.args.k) _ _ (sym c.there.ensures ∙ c.if-not-there.true))

pub returns : goal.returns
unfolding record_in_order
returns c =
    c.node_in_order.ensures
    ∙ sym (cond_true (there (tree_of c.args.table.now) c.args.k) _ _ (sym c.there.ensures ∙ c.if-not-there.false))
