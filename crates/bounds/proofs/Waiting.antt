-- A client that waits after a tick. After step 2 its oldest request is not ready, so its balance is below that request's
-- grains, which are at most its depth: step 3 does not cut it. After step 4 that request has no supplier, so its balance
-- is below its depth again. In between it is charged for its own requests only.
use Prim.Native.Nat.{ℕ, ◌+◌, ◌*◌, ◌≤◌, ◌<◌}
use mathlib.Core.Path.{◌≡◌}
use mathlib.Core.Bool.{true, false}
use mathlib.Core.List.{List}
use native.Mathlib.Omega.{arith}
use lib.IntN.{ℤ, pos}
use lib.Signed.{le_z}
use Rattle.numbers.specs.Whole.{plus, minus}
use Rattle.numbers.proofs.Tests.{by_test, true_false}
use Rattle.numbers.proofs.Parts.{zarith, one_is_zero}
use Rattle.definitions.specs.Limits.{nodes, grain_scale}
use Rattle.definitions.specs.Tree.{tree_of, is_client, at_or_above}
use Rattle.definitions.specs.Places.{rate, balance, waiting, depth_grains, size}
use Rattle.definitions.specs.Tick.{grains, enough, step_two, ticked}
use Rattle.definitions.proofs.Facts.{InOrder}
use Rattle.definitions.proofs.Cost.{cost_bounds, most_cost}
use Rattle.treelaws.proofs.Sorts.{client_there, client_class}
use Rattle.treelaws.proofs.Way.{way_first}
use Rattle.ticklaws.proofs.Frame.{frame_grains}
use Rattle.ticklaws.proofs.Reached.{Reached, reached_first}
use Rattle.ticklaws.proofs.Supplier.{not_supplied}
use Rattle.ticklaws.proofs.Served.{facts_ready}
use Rattle.ticklaws.proofs.Keeps.{two_reached, two_suffices, ticked_settled, none_supplied}
use Rattle.bounds.specs.Counts.{grains_for_client, sum_over}
use Rattle.bounds.proofs.Decoded.{told}
use Rattle.bounds.proofs.Ticked.{ticked_fewer, ticked_fair, ticked_same}

module _ (t u : List ℤ) (r : Reached t u) (k : ℕ) (hk : k < nodes) where
  -- A client's balance is at least 0.
  client_floor : is_client (tree_of t) k ≡ true → minus (balance u k) ≡ 0
  client_floor client =
      omega (
        arith,
        (r.floor.room k hk (client_there (tree_of t) k client)).client (client_class (tree_of t) k client),
        one_is_zero (balance u k),
      )

  -- With too little for its oldest request it stands below its depth.
  short_below : 0 < waiting u k → enough u (grains (size u k 0)) k ≡ false → plus (balance u k) < (tree_of t).depth k * grain_scale
  unfolding enough grains size plus minus
  short_below waits short = omega (arith, zarith, most_cost _ _ (r.queues.size k hk 0 waits), cost_bounds (size u k 0), one_is_zero (balance u k))

module _ (t : List ℤ) (f : InOrder t) (k : ℕ) (hk : k < nodes) (client : is_client (tree_of t) k ≡ true) (waits : 0 < waiting (ticked t).table k) where
  -- After step 2.
  two_short : enough (step_two t).table (grains (size (step_two t).table k 0)) k ≡ false
  unfolding enough
  two_short =
      let u = (step_two t).table in
      by_test (le_z (pos (grains (size u k 0))) (balance u k))
      (λ h. absurd (true_false (facts_ready u k (record { waits = omega (arith, ticked_fewer t f k); enough = h })) (two_suffices t f k hk)))
      (λ h. h)

  two_low : le_z (balance (step_two t).table k) (pos (depth_grains (step_two t).table k)) ≡ true
  unfolding plus minus
  two_low =
      let u = (step_two t).table in
      let r = two_reached t f in
      let below = short_below t u r k hk (omega (arith, ticked_fewer t f k)) two_short in
      omega (arith, zarith, below, frame_grains t u r.frame k, client_floor t u r k hk client)

  pub waiting_line : plus (balance t k) + rate t k ≤ plus (balance (ticked t).table k) + sum_over (grains_for_client k) (told (ticked t).entries)
  waiting_line =
      omega (
        arith,
        ticked_same t f k hk two_low,
        (ticked_fair t f).own k client,
        client_floor t t (reached_first t f) k hk client,
        client_floor t (ticked t).table (ticked_settled t f).reached k hk client,
      )

  pub waiting_end : plus (balance (ticked t).table k) < (tree_of t).depth k * grain_scale
  unfolding at_or_above
  waiting_end =
      let u = (ticked t).table in
      short_below t u (ticked_settled t f).reached k hk waits
      (not_supplied u k waits (none_supplied t f k hk) k (way_first (tree_of u) ((tree_of u).level k) k))
