-- The request, then the tick and its lines.
use Rattle.std.proofs.Common.{ap}
use Rattle.text.proofs.Appending.{append_as}
use Rattle.loadformat.specs.Text.{tick_lines}
use Rattle.loadformat.proofs.Seams.{request_loaded, next_entries, next_load}
use Rattle.loadtext.proofs.put_next.Goals as goal

pub ask-state-requires : goal.ask-state-requires
ask-state-requires c = (c.requires.1.order, c.requires.2)

pub put_tick-requires : goal.put_tick-requires
put_tick-requires c = (c.requires.0, request_loaded _ _ _ c.ask-state.ensures c.requires.1, c.requires.3)

pub returns-clause-lines : goal.returns-clause-lines
returns-clause-lines c =
    append_as _ _ _ _ _ _ (ap (tick_lines _) (next_entries _ _ _ c.ask-state.ensures)) c.put_tick.ensures.lines

pub returns-clause-load : goal.returns-clause-load
returns-clause-load c = next_load _ _ _ c.ask-state.ensures _ c.put_tick.ensures.table
