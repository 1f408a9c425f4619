use Rattle.std.proofs.Common.{ℕ, ap, ◌∙◌}
use Rattle.numbers.specs.Below.{all_below}
use Rattle.numbers.proofs.All.{all_first, all_grows}
use Rattle.definitions.specs.Order.{differs_at}
use Rattle.queues.specs.Marks.{mark_of}
use Rattle.queues.proofs.Marks.{marking_start, marking_next}
use Rattle.queues.proofs.arrivals_differ.Goals as goal

pub loop-i-init : goal.loop-i-init
loop-i-init c = record { differ = all_first _; marking = marking_start _ _ _ c.requires.2 }

pub loop-i-preserved : goal.loop-i-preserved
loop-i-preserved c =
    let number = c.arrival-a.ensures in
    let same = ap (λ (a : ℕ). all_below c.args.k (differs_at c.args.table.now a)) number in
    record {
      differ = all_grows _ _ _ _ c.loop-i.invariant.differ (c.differs_marked-ok.ensures ∙ same);
      marking = marking_next _ _ _ _ _ c.mark_of.ensures.1 (c.mark_of.ensures.0 ∙ ap mark_of number) c.loop-i.invariant.marking;
    }
