-- Tick by tick.
use Rattle.std.proofs.Common.{◌∙◌, refl, sym, ap, arith}
use Rattle.asking.specs.Asking.{clients, Load}
use Rattle.loadformat.proofs.Going.{goes_none, goes_next, goes_some}
use Rattle.loadformat.proofs.Seams.{after_clients}
use Rattle.loadtext.proofs.put_ticks.Goals as goal

pub loop-next-init : goal.loop-next-init
loop-next-init c =
    record {
      part = rw (c.clear.ensures.bytes, c.clear.ensures.len) (goes_none _ _ _ _ (omega arith) c.requires.1);
      same = record { place = c.clear.ensures.same.place; long = c.clear.ensures.same.long };
      last = omega arith;
      ticks = refl;
      list = refl;
      askers = c.requires.2;
    }

pub put_next-next-requires : goal.put_next-next-requires
put_next-next-requires c =
    let part = c.loop-next.invariant.part in
    (omega arith, part.loaded, c.loop-next.invariant.askers, omega arith, omega (arith, part.within))

pub loop-next-preserved : goal.loop-next-preserved
loop-next-preserved c =
    let part = c.loop-next.invariant.part in
    let made = c.put_next-next.ensures in
    record {
      part = goes_next _ _ _ _ _ _ _ _ part _ _ _ _ (omega arith) (omega (arith, c.requires.0)) made.lines made.load made.ticks.0;
      same = record { place = made.same.place ∙ c.loop-next.invariant.same.place; long = made.same.long ∙ c.loop-next.invariant.same.long };
      last = omega (arith, made.ticks.0);
      ticks = made.ticks.1 ∙ c.loop-next.invariant.ticks;
      list = omega arith;
      askers = c.loop-next.invariant.askers ∙ sym (after_clients _ part.loaded.order) ∙ sym (ap (λ (l : Load). clients l.table) made.load);
    }

pub returns-else-text-le-LAST_PLACE-clause-part : goal.returns-else-text-le-LAST_PLACE-clause-part
returns-else-text-le-LAST_PLACE-clause-part c = c.loop-next.invariant.part

-- Where the buffer has no room for another tick, there was one.
pub returns-else-text-le-LAST_PLACE-clause-ticks : goal.returns-else-text-le-LAST_PLACE-clause-ticks
returns-else-text-le-LAST_PLACE-clause-ticks c =
    (goes_some _ _ _ _ _ _ _ _ c.loop-next.invariant.part (omega arith), omega arith, c.loop-next.invariant.ticks)

pub returns-after-loop-next-clause-part : goal.returns-after-loop-next-clause-part
returns-after-loop-next-clause-part c = c.loop-next.invariant.part

pub returns-after-loop-next-clause-ticks : goal.returns-after-loop-next-clause-ticks
returns-after-loop-next-clause-ticks c = (omega arith, omega arith, c.loop-next.invariant.ticks)
