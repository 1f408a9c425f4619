-- A sweep over the nodes, one step at each, of which each touches the record of its own node alone: it finds every node as it
-- was at first. So the limits of the table at first hold where a step reads.
use Prim.Native.Nat.{ℕ, zero, suc, ◌+◌, ◌^◌, ◌≤◌, ◌<◌}
use mathlib.Core.Path.{◌≡◌, refl, ap, ◌∙◌}
use mathlib.Core.Bool.{cond}
use mathlib.Core.List.{List}
use native.Mathlib.Omega.{arith}
use lib.IntN.{ℤ, pos, ◌+ℤ◌}
use lib.Signed.{le_z}
use Rattle.numbers.specs.Whole.{plus}
use Rattle.numbers.specs.Below.{for_below}
use Rattle.numbers.proofs.Tests.{by_test, cond_true, cond_false}
use Rattle.definitions.specs.Limits.{record_length, nodes, depth_at, rate_at, balance_at, greatest_depth}
use Rattle.definitions.specs.Places.{place, put, rate, balance, depth_grains}
use Rattle.definitions.specs.Tree.{tree_of}
use Rattle.definitions.proofs.Places.{place_put_node}
use Rattle.balances.specs.Within.{Within}
use Rattle.balances.proofs.Limits.{depth_at_law, rate_at_law}

-- A node is as it was before its own step.
found : (f : ℕ → List ℤ → List ℤ) → ((k : ℕ) (u : List ℤ) (j p : ℕ) → p < record_length → (j ≡ k → ⊥) → place (f k u) j p ≡ place u j p) → (n : ℕ) (t : List ℤ) (j p : ℕ) → p < record_length → n ≤ j → place (for_below n f t) j p ≡ place t j p
unfolding for_below
found f own zero t j p hp h = refl
found f own (suc n) t j p hp h = own n (for_below n f t) j p hp (λ e. omega arith) ∙ found f own n t j p hp (omega arith)

-- Step 1 at one node, and step 3.
abbrev pub growth : ℕ → List ℤ → List ℤ
growth k u = put u k balance_at (balance u k +ℤ pos (rate u k))

abbrev pub cutting : ℕ → List ℤ → List ℤ
cutting k u = cond (le_z (balance u k) (pos (depth_grains u k))) u (put u k balance_at (pos (depth_grains u k)))

growth_own : (k : ℕ) (u : List ℤ) (j p : ℕ) → p < record_length → (j ≡ k → ⊥) → place (growth k u) j p ≡ place u j p
growth_own k u j p hp ne = place_put_node u k balance_at (balance u k +ℤ pos (rate u k)) j p (omega arith) hp ne

cutting_own : (k : ℕ) (u : List ℤ) (j p : ℕ) → p < record_length → (j ≡ k → ⊥) → place (cutting k u) j p ≡ place u j p
cutting_own k u j p hp ne =
    let v = put u k balance_at (pos (depth_grains u k)) in
    let test = le_z (balance u k) (pos (depth_grains u k)) in
    by_test test
    (λ e. ap (λ (w : List ℤ). place w j p) (cond_true test u v e))
    (λ e. ap (λ (w : List ℤ). place w j p) (cond_false test u v e) ∙ place_put_node u k balance_at (pos (depth_grains u k)) j p (omega arith) hp ne)

module _ (t : List ℤ) (w : Within t) (k : ℕ) (low : k < nodes) (u : List ℤ) where
  pub growth_fits : u ≡ for_below k growth t → plus (balance u k) + rate u k < 2 ^ 63
  unfolding balance rate
  growth_fits e =
      omega (
        arith,
        w.credit k low,
        rate_at_law t w k low,
        ap (λ (v : List ℤ). plus (place v k balance_at)) e,
        ap (λ (v : List ℤ). plus (place v k rate_at)) e,
        ap plus (found growth growth_own k t k balance_at (omega arith) (omega arith)),
        ap plus (found growth growth_own k t k rate_at (omega arith) (omega arith)),
      )

  pub cutting_fits : u ≡ for_below k cutting t → (tree_of u).depth k ≤ greatest_depth
  unfolding tree_of
  cutting_fits e =
      omega (
        arith,
        depth_at_law t w k low,
        ap (λ (v : List ℤ). plus (place v k depth_at)) e,
        ap plus (found cutting cutting_own k t k depth_at (omega arith) (omega arith)),
      )
