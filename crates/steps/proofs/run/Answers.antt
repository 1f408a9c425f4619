use Rattle.std.proofs.Common.{refl, rules}
use Rattle.definitions.specs.Limits.{first_port, second_port}
use Rattle.definitions.specs.Tick.{port_entries}
use Rattle.steps.proofs.Within.{order_within}
use Rattle.steps.proofs.Serving.{serving_within}
use Rattle.steps.proofs.Steps.{one, one_room, two, three, four}
use Rattle.steps.proofs.run.Goals as goal

pub grow-requires : goal.grow-requires
grow-requires c = order_within _ c.requires.0

pub serve_all-requires : goal.serve_all-requires
serve_all-requires c =
    let o = one _ _ c.requires.0 c.grow.ensures in
    (o.on, one_room _ _ o _ first_port c.requires.1, one_room _ _ o _ second_port c.requires.2)

pub cut-requires : goal.cut-requires
cut-requires c =
    let after = two _ _ _ _ _ _ _ _ _ c.requires.0 c.grow.ensures refl refl c.requires.1 c.requires.2 c.serve_all.ensures.follows in
    serving_within _ after.on

pub lend-requires : goal.lend-requires
lend-requires c =
    let after = two _ _ _ _ _ _ _ _ _ c.requires.0 c.grow.ensures refl refl c.requires.1 c.requires.2 c.serve_all.ensures.follows in
    let three = three _ _ _ _ _ _ _ _ after c.cut.ensures in
    let shows = three.shows in
    (three.on, rw shows.table shows.first.room, rw shows.table shows.second.room)

pub returns : goal.returns
unfolding port_entries
returns c =
    let after = two _ _ _ _ _ _ _ _ _ c.requires.0 c.grow.ensures refl refl c.requires.1 c.requires.2 c.serve_all.ensures.follows in
    let shows = four _ _ _ _ _ _ _ _ _ _ _ (three _ _ _ _ _ _ _ _ after c.cut.ensures) c.lend.ensures.follows in
    record {
      table = shows.table;
      first = search (rules, shows.first.list);
      second = search (rules, shows.second.list);
      counts = (shows.first.count, shows.second.count);
    }
