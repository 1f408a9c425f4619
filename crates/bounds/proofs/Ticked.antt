-- The whole tick, followed by what its entries tell. Balances: step 1 adds each node's rate, steps 2 and 4 take what is
-- charged, step 3 only lowers, and leaves a balance that is at most its depth.
use Prim.Native.Nat.{ℕ, ◌+◌, ◌≤◌, ◌<◌}
use mathlib.Core.Path.{◌≡◌, sym, ap, ◌∙◌}
use mathlib.Core.Bool.{true}
use mathlib.Core.List.{List, []}
use native.Mathlib.Omega.{arith}
use lib.IntN.{ℤ, pos}
use lib.Signed.{le_z}
use Rattle.numbers.specs.Whole.{plus, minus}
use Rattle.numbers.proofs.Parts.{zarith, add_parts}
use Rattle.definitions.specs.Limits.{nodes, root}
use Rattle.definitions.specs.Tree.{Tree, tree_of, at_or_above}
use Rattle.definitions.specs.Places.{rate, balance, waiting, depth_grains}
use Rattle.definitions.specs.Tick.{State, grown, cut, supplier, all_waiting, step_two, step_three, ticked}
use Rattle.definitions.proofs.Facts.{InOrder}
use Rattle.treelaws.proofs.Way.{ways_of, way_first}
use Rattle.ticklaws.proofs.Frame.{frame_tree}
use Rattle.ticklaws.proofs.Queues.{only_shifted}
use Rattle.ticklaws.proofs.Reached.{reached_long}
use Rattle.ticklaws.proofs.Grown.{grown_swept, grown_reached}
use Rattle.ticklaws.proofs.Cut.{cut_to, cut_swept, cut_low, cut_falls}
use Rattle.ticklaws.proofs.Supplier.{supplier_way}
use Rattle.ticklaws.proofs.Served.{client_at, served_all_with}
use Rattle.ticklaws.proofs.Lent.{lent_with}
use Rattle.ticklaws.proofs.Keeps.{two_reached, three_settled}
use Rattle.bounds.specs.Observer.{entries_for}
use Rattle.bounds.specs.Counts.{entry_grains, grains_to_node, sum_over}
use Rattle.bounds.proofs.Decoded.{told, told_none, whole_none}
use Rattle.bounds.proofs.Followed.{Followed, followed_first, followed_next, Fair, fair_next}

sent_none : (k : ℕ) → entries_for k (told []) ≡ 0
unfolding entries_for
sent_none k = ap (entries_for k) told_none

charged_none : (tree : Tree) (x : ℕ) → sum_over (grains_to_node tree x) (told []) ≡ 0
unfolding sum_over
charged_none tree x = ap (sum_over (grains_to_node tree x)) told_none

all_none : sum_over entry_grains (told []) ≡ 0
unfolding sum_over
all_none = ap (sum_over entry_grains) told_none

fair_none : (tree : Tree) → Fair tree []
fair_none tree = record { whole = whole_none; own = λ k client. omega (arith, charged_none tree k); root = charged_none tree root ∙ sym all_none }

-- Step 1 as a state with no entries.
one : List ℤ → State
one t = record { table = grown t; entries = [] }

module _ (t : List ℤ) (f : InOrder t) where
  two : Followed (tree_of t) (one t) (step_two t) × Fair (tree_of t) (step_two t).entries
  unfolding step_two one at_or_above
  two =
      served_all_with t f (λ st. Followed (tree_of t) (one t) st × Fair (tree_of t) st.entries)
      (λ k st hk r e d p. (
        followed_next (tree_of t) st k k d p.1.whole (one t) p.0,
        fair_next (tree_of t) (ways_of t f) st k k (client_at t st.table r k hk e.waits) (way_first (tree_of t) ((tree_of t).level k) k) p.1,
      ))
      (one t) (grown_reached t f) (followed_first (tree_of t) (one t), fair_none (tree_of t))

  three_fair : Fair (tree_of t) (step_three t).entries
  unfolding step_three
  three_fair = two.1

  four : Followed (tree_of t) (step_three t) (ticked t) × Fair (tree_of t) (ticked t).entries
  unfolding ticked
  four =
      lent_with t f (λ st. Followed (tree_of t) (step_three t) st × Fair (tree_of t) st.entries)
      (λ st r k hk e d p. (
        followed_next (tree_of t) st k (supplier st.table k) d p.1.whole (step_three t) p.0,
        fair_next (tree_of t) (ways_of t f) st k (supplier st.table k) (client_at t st.table r.reached k hk e.waits) (rw (frame_tree t st.table r.reached.frame) at (supplier_way st.table k e)) p.1,
      ))
      (all_waiting (step_three t).table) (step_three t) (three_settled t f)
      (followed_first (tree_of t) (step_three t), three_fair)

  -- Nothing waits or is dispatched in steps 1 and 3.
  pub ticked_waits : (k : ℕ) → waiting (ticked t).table k + entries_for k (told (ticked t).entries) ≡ waiting t k
  unfolding step_three one
  ticked_waits k =
      let u = (step_two t).table in
      omega (
        arith,
        two.0.waits k,
        four.0.waits k,
        sent_none k,
        only_shifted t (grown t) (grown_swept t f.long).only k,
        only_shifted u (cut u) (cut_swept u (reached_long t u f (two_reached t f))).only k,
      )

  -- Who waits after the tick waited after step 2.
  pub ticked_fewer : (k : ℕ) → waiting (ticked t).table k ≤ waiting (step_two t).table k
  unfolding step_three
  ticked_fewer k =
      let u = (step_two t).table in
      omega (arith, four.0.fewer k, only_shifted u (cut u) (cut_swept u (reached_long t u f (two_reached t f))).only k)

  pub ticked_fair : Fair (tree_of t) (ticked t).entries
  ticked_fair = four.1

  module _ (x : ℕ) (hx : x < nodes) where
    -- Steps 1 and 2, in parts: the rate added, and what is charged taken.
    grown_served :
        plus (balance (step_two t).table x) + minus (balance t x) + sum_over (grains_to_node (tree_of t) x) (told (step_two t).entries)
        ≡ minus (balance (step_two t).table x) + plus (balance t x) + rate t x
    unfolding one plus minus
    grown_served =
        omega (
          arith,
          zarith,
          (grown_swept t f.long).new x hx,
          add_parts (balance t x) (pos (rate t x)),
          two.0.balances x,
          charged_none (tree_of t) x,
        )

    -- Step 3.
    cut_three : balance (step_three t).table x ≡ cut_to (depth_grains (step_two t).table x) (balance (step_two t).table x)
    unfolding step_three
    cut_three = (cut_swept (step_two t).table (reached_long t (step_two t).table f (two_reached t f))).new x hx

    -- Step 4.
    lent_four :
        plus (balance (ticked t).table x) + minus (balance (step_three t).table x) + sum_over (grains_to_node (tree_of t) x) (told (ticked t).entries)
        ≡ minus (balance (ticked t).table x) + plus (balance (step_three t).table x) + sum_over (grains_to_node (tree_of t) x) (told (step_two t).entries)
    unfolding step_three
    lent_four = four.0.balances x

    pub ticked_most :
        plus (balance (ticked t).table x) + minus (balance t x) + sum_over (grains_to_node (tree_of t) x) (told (ticked t).entries)
        ≤ minus (balance (ticked t).table x) + plus (balance t x) + rate t x
    ticked_most =
        omega (
          arith,
          zarith,
          grown_served,
          cut_three,
          cut_falls (depth_grains (step_two t).table x) (balance (step_two t).table x),
          lent_four,
        )

    -- A node that step 3 does not cut loses nothing but what is charged.
    pub ticked_same :
        le_z (balance (step_two t).table x) (pos (depth_grains (step_two t).table x)) ≡ true
        → plus (balance (ticked t).table x) + minus (balance t x) + sum_over (grains_to_node (tree_of t) x) (told (ticked t).entries)
        ≡ minus (balance (ticked t).table x) + plus (balance t x) + rate t x
    ticked_same low =
        omega (
          arith,
          zarith,
          grown_served,
          cut_three,
          cut_low (depth_grains (step_two t).table x) (balance (step_two t).table x) low,
          lent_four,
        )
