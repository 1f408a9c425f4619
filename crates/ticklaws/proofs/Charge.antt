-- Charging: an amount charged to node k lowers the balances of the nodes on the way from k to the root by it, and no
-- other. Where k stands that amount above its floor, every floor is kept: what a node loses, its parent's floor falls by,
-- so that the parent stands the amount above its floor in turn.
use Prim.Native.Nat.{ℕ, zero, suc, ◌+◌, ◌≤◌, ◌<◌}
use mathlib.Core.Path.{◌≡◌, refl, sym, ap, ◌∙◌}
use mathlib.Core.Bool.{true, false}
use mathlib.Core.List.{List}
use native.Mathlib.Omega.{arith}
use native.Mathlib.Decide.{ℕ_discrete}
use lib.ListN.{length}
use lib.IntN.{ℤ, pos, ◌-ℤ◌}
use lib.Signed.{le_z}
use Rattle.numbers.specs.Whole.{plus, minus}
use Rattle.numbers.proofs.Tests.{true_false}
use Rattle.numbers.proofs.Parts.{zarith, sub_parts, le_parts}
use Rattle.definitions.specs.Limits.{table_length, nodes, balance_at}
use Rattle.definitions.specs.Places.{place, balance}
use Rattle.definitions.specs.Tree.{Tree, tree_of, sum_under, on_way}
use Rattle.definitions.specs.Tick.{lower, charge}
use Rattle.definitions.proofs.Places.{place_put_same, place_put_node}
use Rattle.treelaws.proofs.Children.{ChildOf}
use Rattle.treelaws.proofs.Children.{under_falls, under_more}
use Rattle.treelaws.proofs.Floors.{Room, Floor}
use Rattle.treelaws.proofs.Way.{Ways, At, above, way_first, way_once, way_other, way_top, way_cases}
use Rattle.ticklaws.proofs.Frame.{OnlyBalances, only_put, only_trans, only_frame, frame_tree}

pub lower_only : (t : List ℤ) (a k : ℕ) → OnlyBalances t (lower t a k)
unfolding lower
lower_only t a k = only_put t k (balance t k -ℤ pos a)

pub lower_same : (t : List ℤ) (a k : ℕ) → length t ≡ table_length → k < nodes → balance (lower t a k) k ≡ balance t k -ℤ pos a
unfolding lower balance
lower_same t a k n hk = place_put_same t k balance_at (place t k balance_at -ℤ pos a) n hk (omega arith)

pub lower_other : (t : List ℤ) (a k j : ℕ) → (j ≡ k → ⊥) → balance (lower t a k) j ≡ balance t j
unfolding lower balance
lower_other t a k j ne = place_put_node t k balance_at (place t k balance_at -ℤ pos a) j balance_at (omega arith) (omega arith) ne

lower_tree : (t : List ℤ) (a k : ℕ) → tree_of (lower t a k) ≡ tree_of t
lower_tree t a k = frame_tree t (lower t a k) (only_frame (lower_only t a k))

pub charge_only : (l : ℕ) (t : List ℤ) (a k : ℕ) → OnlyBalances t (charge t a l k)
unfolding charge
charge_only zero t a k = lower_only t a k
charge_only (suc l) t a k = only_trans (lower_only t a k) (charge_only l (lower t a k) a ((tree_of t).parent k))

module _ (tree : Tree) (w : Ways tree) (a : ℕ) where
  -- A node off the way keeps its balance.
  pub charge_off : (l : ℕ) (t : List ℤ) → tree_of t ≡ tree → (k j : ℕ) → on_way tree l k j ≡ false → balance (charge t a l k) j ≡ balance t j
  unfolding charge
  charge_off zero t e k j off = lower_other t a k j (λ d. true_false (rw d (way_first tree 0 k)) off)
  charge_off (suc l) t e k j off =
      let ne : (j ≡ k → ⊥) = λ d. true_false (rw d (way_first tree (suc l) k)) off in
      rw e
      (charge_off l (lower t a k) (lower_tree t a k ∙ e) (tree.parent k) j (sym (way_other tree l k j ne) ∙ off)
      ∙ lower_other t a k j ne)

  -- A node on the way has the amount less.
  pub charge_on : (l : ℕ) (t : List ℤ) → length t ≡ table_length → tree_of t ≡ tree → (k j : ℕ) → At tree l k → on_way tree l k j ≡ true → balance (charge t a l k) j ≡ balance t j -ℤ pos a
  unfolding charge
  charge_on zero t n e k j at on = rw (way_top tree k j on) (lower_same t a k n at.low)
  charge_on (suc l) t n e k j at on =
      rw e
      (way_cases tree l k j on
      (λ d. rw d (charge_off l (lower t a k) (lower_tree t a k ∙ e) (tree.parent k) k (way_once tree w l k at) ∙ lower_same t a k n at.low))
      (λ up.
      charge_on l (lower t a k) ((lower_only t a k).long ∙ n) (lower_tree t a k ∙ e) (tree.parent k) j (above tree w l k at).up up
      ∙ ap (λ z. z -ℤ pos a) (lower_other t a k j (λ d. true_false (rw d at up) (way_once tree w l k at)))))

  -- Floors when node k alone falls by the amount, from B to B'.
  module _ (B B' : ℕ → ℤ) (k : ℕ) (same : B' k ≡ B k -ℤ pos a) (others : (j : ℕ) → (j ≡ k → ⊥) → B' j ≡ B j) where
    falls : (j : ℕ) → le_z (B' j) (B j) ≡ true
    unfolding plus minus
    falls j =
        elim (ℕ_discrete j k) [
          | yes d ↦ rw d (omega (arith, zarith, same, sub_parts (B k) (pos a)))
          | no ne ↦ omega (arith, zarith, others j ne)
        ]

    sums : (c : ℕ) → sum_under tree c (λ j. plus (B' j)) + sum_under tree c (λ j. minus (B j)) ≤ sum_under tree c (λ j. plus (B j)) + sum_under tree c (λ j. minus (B' j))
    sums c = under_falls tree c B B' (λ j hj child. falls j)

    own_room : Room tree B a k → Room tree B' 0 k
    unfolding plus minus
    own_room r =
        record {
          class = λ e. omega (arith, zarith, same, sub_parts (B k) (pos a), r.class e, sums k);
          client = λ e. omega (arith, zarith, same, sub_parts (B k) (pos a), r.client e);
        }

    other_room : (x : ℕ) → (x ≡ k → ⊥) → Room tree B 0 x → Room tree B' 0 x
    other_room x ne r =
        record {
          class = λ e. omega (arith, zarith, others x ne, r.class e, sums x);
          client = λ e. omega (arith, zarith, others x ne, r.client e);
        }

    floor_lowered : Floor tree B → Room tree B a k → Floor tree B'
    floor_lowered f r =
        record {
          room = λ x hx h. elim (ℕ_discrete x k) [ yes d ↦ rw d (own_room r) | no ne ↦ other_room x ne (f.room x hx h) ];
        }

    room_above : (l : ℕ) → At tree (suc l) k → Floor tree B → Room tree B' a (tree.parent k)
    unfolding plus minus
    room_above l at f =
        let up = above tree w l k at in
        let p : ℕ = tree.parent k in
        let child : ChildOf tree p k = record { there = at.there; below = up.below; parent = refl } in
        let ne : (p ≡ k → ⊥) = λ d. omega (arith, ap tree.level d, at.level, up.up.level) in
        let more =
        under_more tree p (λ j. plus (B' j)) (λ j. minus (B j)) (λ j. plus (B j)) (λ j. minus (B' j)) k a at.low child
        (λ j hj c. le_parts (B' j) (B j) (falls j))
        (omega (arith, zarith, same, sub_parts (B k) (pos a))) in
        record {
          class = λ e. omega (arith, zarith, others p ne, (f.room p up.up.low up.up.there).class e, more);
          client = λ e. absurd (true_false up.class e);
        }

  pub charge_floor : (l : ℕ) (t : List ℤ) → length t ≡ table_length → tree_of t ≡ tree → (k : ℕ) → At tree l k → Floor tree (balance t) → Room tree (balance t) a k → Floor tree (balance (charge t a l k))
  unfolding charge
  charge_floor zero t n e k at f r = floor_lowered (balance t) (balance (lower t a k)) k (lower_same t a k n at.low) (lower_other t a k) f r
  charge_floor (suc l) t n e k at f r =
      rw e
      (charge_floor l (lower t a k) ((lower_only t a k).long ∙ n) (lower_tree t a k ∙ e) (tree.parent k) (above tree w l k at).up
      (floor_lowered (balance t) (balance (lower t a k)) k (lower_same t a k n at.low) (lower_other t a k) f r)
      (room_above (balance t) (balance (lower t a k)) k (lower_same t a k n at.low) (lower_other t a k) l at f))
