-- The claims of demand 3 tell each fake from a controller that keeps them, by what a caller sees. Each fake is just beyond its claim: with
-- one depth more, or with "at least" for "more than", the claim would hold of it.
use mathlib.Core.Path.{refl}
use native.Mathlib.Omega.{arith}
use Rattle.numbers.specs.Whole.{plus}
use Rattle.numbers.specs.Tests.{every}
use Rattle.numbers.specs.Below.{sum_below}
use Rattle.definitions.specs.Limits.{last_node}
use Rattle.definitions.specs.Tree.{there, is_class, is_client, is_fixed, is_stated, child_of, count_if, sum_under, on_way, at_or_above}
use Rattle.definitions.specs.Rates.{kind_share, kind_sum, fixed_rate, left_rate, weighted_rate, divided_rate, unstated_rate, child_rate, rate_at_level, rate_in}
use Rattle.definitions.specs.Cost.{cost}
use Rattle.definitions.specs.Tick.{grains}
use Rattle.runs.specs.Runs.{is_tick, leaves, accepts}
use Rattle.bounds.specs.Observer.{set_at, entries_in, dispatched_by, entries, entries_for, start, with_node, with_share, after_accepted, after_answer, observed, observed_all}
use Rattle.bounds.specs.Counts.{accepted_tick, rate_at, rates_over, entry_grains, grains_for_client, grains_to_node, sum_over, grains_over, dispatched_over, charged_over, waits, waits_throughout, takes_out, stays_throughout}
use Rattle.bounds.specs.Demand.{Bounds}
use Rattle.bounds.specs.Fakes.{plain_event, joins, asks, entries_of, dispatches, Fake, lists_nothing, overlooks_new, seven_to_first, seven_to_second, low_class_overdrawn, high_class_overdrawn, busy, in_classes, overdrawn, observer_of, stretch_of}

pub told_apart : (fake : Fake) → Bounds (observer_of fake) (stretch_of fake) → ⊥
unfolding plain_event joins asks entries_of dispatches busy in_classes overdrawn observer_of stretch_of observed_all observed after_answer after_accepted start with_node with_share set_at entries dispatched_by entries_in entries_for is_class is_client waits_throughout waits stays_throughout takes_out leaves every plus rates_over rate_at accepted_tick is_tick accepts rate_in rate_at_level child_rate is_stated unstated_rate divided_rate is_fixed kind_sum kind_share fixed_rate left_rate weighted_rate sum_under sum_below count_if child_of there dispatched_over charged_over sum_over grains_for_client grains_to_node at_or_above on_way entry_grains grains_over grains cost
-- The rate of one tick is 8000, and so is the depth in grains: 0 is not more than 8000 less 8000.
told_apart lists_nothing b = omega (arith, b.clients 1 refl refl)
told_apart overlooks_new b = omega (arith, b.clients last_node refl refl)
-- Seven requests are 56000 grains; the rate and five depths are 48000.
told_apart seven_to_first b = omega (arith, b.disk)
told_apart seven_to_second b = omega (arith, b.disk)
told_apart low_class_overdrawn b = omega (arith, b.classes 3 refl refl)
told_apart high_class_overdrawn b = omega (arith, b.classes 1 refl refl)
