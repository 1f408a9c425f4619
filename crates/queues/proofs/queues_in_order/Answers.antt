use Rattle.std.proofs.Common.{refl, sym, ◌∙◌}
use Rattle.numbers.specs.Tests.{every}
use Rattle.numbers.proofs.All.{all_first, all_next}
use Rattle.numbers.proofs.Every.{joined_as, same_tests, last_test}
use Rattle.queues.specs.Waiting.{waiting_in_order}
use Rattle.queues.proofs.Marks.{none_below}
use Rattle.queues.proofs.queues_in_order.Goals as goal

pub loop-k-init : goal.loop-k-init
loop-k-init c = record { in_order = all_first _; marks = none_below _ _ refl }

pub loop-k-preserved : goal.loop-k-preserved
unfolding every waiting_in_order
loop-k-preserved c = record {
  in_order =
      joined_as (same_tests c.loop-k.invariant.in_order (same_tests c.queue_in_order-queue.ensures (last_test c.arrivals_differ-differ.ensures.differ)))
      ∙ sym (all_next _ _);
  marks = c.arrivals_differ-differ.ensures.marked;
}
