-- The tick keeps a table in order, from any table in order, reached by calls or not, and its fuel suffices.
use Prim.Native.Nat.{ℕ, ◌<◌}
use mathlib.Core.Path.{◌≡◌}
use mathlib.Core.Bool.{true, false}
use mathlib.Core.List.{List, []}
use native.Mathlib.Omega.{arith}
use lib.IntN.{ℤ}
use Rattle.definitions.specs.Limits.{nodes}
use Rattle.definitions.specs.Order.{in_order}
use Rattle.definitions.specs.Tick.{nobody, grown, ready, supplied, next, all_waiting, step_two, step_three, ticked}
use Rattle.definitions.proofs.Facts.{InOrder, facts, from_facts}
use Rattle.definitions.proofs.Choice.{next_none}
use Rattle.ticklaws.proofs.Reached.{Reached, in_order_again}
use Rattle.ticklaws.proofs.Grown.{grown_reached}
use Rattle.ticklaws.proofs.Cut.{cut_reached, cut_under}
use Rattle.ticklaws.proofs.Served.{served_all_reached, served_all_suffices}
use Rattle.ticklaws.proofs.Lent.{Settled, lent_reached, lent_suffices}

module _ (t : List ℤ) (f : InOrder t) where
  pub two_reached : Reached t (step_two t).table
  unfolding step_two
  two_reached = served_all_reached t f (record { table = grown t; entries = [] }) (grown_reached t f)

  -- After step 2 no client is ready.
  pub two_suffices : (k : ℕ) → k < nodes → ready (step_two t).table k ≡ false
  unfolding step_two
  two_suffices = served_all_suffices t f (record { table = grown t; entries = [] }) (grown_reached t f)

  pub three_settled : Settled t (step_three t).table
  unfolding step_three
  three_settled =
      record { reached = cut_reached t (step_two t).table f two_reached; under = cut_under t (step_two t).table f two_reached }

  pub ticked_settled : Settled t (ticked t).table
  unfolding ticked
  ticked_settled = lent_reached t f (all_waiting (step_three t).table) (step_three t) three_settled

  pub ticked_in_order : InOrder (ticked t).table
  ticked_in_order = in_order_again t (ticked t).table f ticked_settled.reached ticked_settled.under

  -- After step 4 no request has a supplier.
  pub ticked_suffices : next (ticked t).table ≡ nobody
  unfolding ticked
  ticked_suffices = lent_suffices t f (all_waiting (step_three t).table) (step_three t) three_settled (omega arith)

  pub none_supplied : (k : ℕ) → k < nodes → supplied (ticked t).table k ≡ false
  none_supplied = next_none (ticked t).table ticked_suffices

pub tick_keeps : (t : List ℤ) → in_order t ≡ true → in_order (ticked t).table ≡ true
tick_keeps t h = from_facts (ticked t).table (ticked_in_order t (facts t h))
