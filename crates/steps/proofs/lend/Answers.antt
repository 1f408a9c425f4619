use Rattle.std.proofs.Common.{sym, ap, ◌∙◌, arith, rules}
use Rattle.definitions.specs.Limits.{first_port, second_port}
use Rattle.definitions.specs.Tick.{all_waiting}
use Rattle.suppliers.proofs.Answer.{turn_answer, none_answer}
use Rattle.steps.specs.Steps.{Lending}
use Rattle.steps.proofs.Shows.{going_next, going_done, entry_room}
use Rattle.steps.proofs.Lending.{found, lending_within, lending_turn, lending_done}
use Rattle.steps.proofs.lend.Goals as goal

pub next_client-requires : goal.next_client-requires
next_client-requires c = lending_within _ c.loop-turn.invariant.going.on

pub dispatch-requires : goal.dispatch-requires
dispatch-requires c =
    let going = c.loop-turn.invariant.going in
    let goes = turn_answer _ _ (sym c.in-Some.is ∙ c.next_client.ensures) in
    let turn = lending_turn _ going.on _ _ goes in
    let f = found _ going.on _ _ goes in (
      lending_within _ going.on,
      omega (arith, f.low, f.node),
      omega (arith, f.low, f.node),
      f.waits,
      entry_room _ _ _ _ _ turn first_port _ _ going.first,
      entry_room _ _ _ _ _ turn second_port _ _ going.second,
    )

pub loop-turn-smaller : goal.loop-turn-smaller
loop-turn-smaller c =
    let turn = lending_turn _ c.loop-turn.invariant.going.on _ _ (turn_answer _ _ (sym c.in-Some.is ∙ c.next_client.ensures)) in
    omega (arith, turn.falls, ap all_waiting c.dispatch.ensures.table)

pub loop-turn-preserved : goal.loop-turn-preserved
loop-turn-preserved c =
    let going = c.loop-turn.invariant.going in
    let turn = lending_turn _ going.on _ _ (turn_answer _ _ (sym c.in-Some.is ∙ c.next_client.ensures)) in
    let made = c.dispatch.ensures in
    record {
      going = going_next Lending _ _ _ _ _ _ _ _ _ _ _ going turn _ _ _ _ made.table made.first made.second made.counts;
      same = search rules;
    }

pub returns-clause-follows : goal.returns-clause-follows
returns-clause-follows c =
    going_done Lending _ _ _ _ _ _ _ _ _ c.loop-turn.invariant.going (lending_done _ (none_answer _ (sym c.in_default.is ∙ c.next_client.ensures)))
