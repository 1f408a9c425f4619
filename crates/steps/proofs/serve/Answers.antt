use Rattle.std.proofs.Common.{sym, ap, ◌∙◌, arith, rules}
use Rattle.definitions.specs.Limits.{first_port, second_port}
use Rattle.definitions.specs.Places.{waiting}
use Rattle.ticklaws.proofs.Served.{ready_facts}
use Rattle.steps.specs.Steps.{Serving}
use Rattle.steps.proofs.Shows.{going_next, going_done, entry_room}
use Rattle.steps.proofs.Serving.{serving_within, served_own, serving_turn, serving_done}
use Rattle.steps.proofs.serve.Goals as goal

pub ready-requires : goal.ready-requires
ready-requires c = (serving_within _ c.loop-table.invariant.going.on, c.requires.1)

pub dispatch-requires : goal.dispatch-requires
dispatch-requires c =
    let going = c.loop-table.invariant.going in
    let found = sym c.ready.ensures ∙ c.loop-table-test.true in
    let turn = serving_turn _ _ going.on c.requires.1 found in (
      serving_within _ going.on,
      c.requires.1,
      c.requires.1,
      (ready_facts _ _ found).waits,
      entry_room _ _ _ _ _ turn first_port _ _ going.first,
      entry_room _ _ _ _ _ turn second_port _ _ going.second,
    )

pub loop-table-smaller : goal.loop-table-smaller
loop-table-smaller c =
    let own = served_own _ c.loop-table.invariant.going.on c.args.k c.requires.1 (sym c.ready.ensures ∙ c.loop-table-test.true) in
    omega (arith, own, ap (λ t. waiting t c.args.k) c.dispatch.ensures.table)

pub loop-table-preserved : goal.loop-table-preserved
loop-table-preserved c =
    let going = c.loop-table.invariant.going in
    let turn = serving_turn _ _ going.on c.requires.1 (sym c.ready.ensures ∙ c.loop-table-test.true) in
    let made = c.dispatch.ensures in
    record {
      going = going_next Serving _ _ _ _ _ _ _ _ _ _ _ going turn _ _ _ _ made.table made.first made.second made.counts;
      same = search rules;
    }

pub returns-clause-follows : goal.returns-clause-follows
returns-clause-follows c =
    going_done Serving _ _ _ _ _ _ _ _ _ c.loop-table.invariant.going (serving_done _ _ (sym c.ready.ensures ∙ c.loop-table-test.false))
