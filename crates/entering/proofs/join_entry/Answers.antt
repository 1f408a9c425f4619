use Rattle.std.proofs.Common.{ap, ◌∙◌, arith}
use Rattle.planformat.specs.Format.{plan_in}
use Rattle.planformat.proofs.Editions.{share_values_small}
use Rattle.planlaws.specs.Reading.{entry_refusal, after_entry}
use Rattle.entering.proofs.join_entry.Goals as goal

pub join_node-requires : goal.join_node-requires
join_node-requires c =
    let small = c.node.ensures.small in
    (small.0, small.1, omega (arith, small.2, share_values_small c.args.view.edition), small.3)

pub returns-clause-number : goal.returns-clause-number
unfolding plan_in
returns-clause-number c = c.join_node.ensures.number ∙ ap (entry_refusal _) c.node.ensures.entry

pub returns-clause-table : goal.returns-clause-table
unfolding plan_in
returns-clause-table c = c.join_node.ensures.table ∙ ap (after_entry _) c.node.ensures.entry
