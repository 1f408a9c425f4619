-- The tick is made, and the lines of its entries are put.
use Rattle.std.proofs.Common.{arith}
use Rattle.text.proofs.Appending.{append_as}
use Rattle.loadformat.proofs.Ticks.{tick_room, no_room, none_second, tick_shown}
use Rattle.loadlines.proofs.put_tick.Goals as goal

pub run-counts-requires : goal.run-counts-requires
run-counts-requires c =
    let table = c.args.table.now in
    let list = c.args.list.now in
    (c.requires.1.order, tick_room table list c.requires.1 c.requires.2, no_room table list c.requires.1 c.requires.2)

pub put_dispatches-requires : goal.put_dispatches-requires
put_dispatches-requires c =
    let shown = tick_shown c.args.table.now c.args.list.now c.requires.1 c.requires.2 _ _ c.run-counts.ensures.first c.run-counts.ensures.counts.0 in
    let none = none_second c.args.table.now c.args.list.now c.requires.1 c.requires.2 _ c.run-counts.ensures.counts.1 in
    (omega (arith, shown.few), omega (arith, shown.listed))

pub returns-clause-lines : goal.returns-clause-lines
returns-clause-lines c =
    let shown = tick_shown c.args.table.now c.args.list.now c.requires.1 c.requires.2 _ _ c.run-counts.ensures.first c.run-counts.ensures.counts.0 in
    append_as _ _ _ _ _ _ (shown.lines _) c.put_dispatches.ensures.put
