-- A charge, one node at a time: lowering a balance leaves the tree as it was and raises no debt by more than the amount, so a
-- table that can be charged at all levels left can be charged at the rest after each of them.
use Prim.Native.Nat.{ℕ, zero, suc, ◌+◌, ◌*◌, ◌^◌, ◌≤◌, ◌<◌}
use mathlib.Core.Path.{◌≡◌, refl, ◌∙◌}
use mathlib.Core.List.{List}
use native.Mathlib.Omega.{arith}
use native.Mathlib.Nat.{mul-le-mul_right}
use native.Mathlib.Decide.{ℕ_discrete}
use lib.ListN.{length}
use lib.IntN.{ℤ, pos, ◌-ℤ◌}
use Rattle.numbers.specs.Whole.{minus}
use Rattle.numbers.proofs.Parts.{one_is_zero, sub_parts, plus_pos, minus_pos}
use Rattle.definitions.specs.Limits.{table_length, record_length, nodes, balance_at, last_level}
use Rattle.definitions.specs.Places.{place, balance}
use Rattle.definitions.specs.Tree.{Tree, tree_of}
use Rattle.definitions.specs.Tick.{lower, charge}
use Rattle.definitions.proofs.Places.{length_put, place_put_same, place_put_node, place_put_place}
use Rattle.treelaws.proofs.Renewed.{same_tree_law}
use Rattle.balances.specs.Within.{Within}

pub charge_last : (t : List ℤ) (amount l k : ℕ) → l ≡ 0 → charge t amount l k ≡ lower t amount k
unfolding charge
charge_last t amount zero k e = refl
charge_last t amount (suc l) k e = absurd (omega arith)

pub charge_above : (t : List ℤ) (amount l m k : ℕ) → l ≡ m + 1 → charge t amount l k ≡ charge (lower t amount k) amount m ((tree_of t).parent k)
unfolding charge
charge_above t amount zero m k e = absurd (omega arith)
charge_above t amount (suc l) m k e = let less : m ≡ l = omega arith in rw less refl

pub lower_length : (t : List ℤ) (amount k : ℕ) → length (lower t amount k) ≡ length t
unfolding lower
lower_length t amount k = length_put t k balance_at (balance t k -ℤ pos amount)

pub lower_tree : (t : List ℤ) (amount k : ℕ) → tree_of (lower t amount k) ≡ tree_of t
unfolding lower
lower_tree t amount k = same_tree_law _ t (λ j p hp. place_put_place t k balance_at (balance t k -ℤ pos amount) j p (omega arith) (omega arith) (λ e. omega arith))

-- A charge writes balances alone.
pub charge_place : (l : ℕ) (t : List ℤ) (amount k j p : ℕ) → p < record_length → (p ≡ balance_at → ⊥) → place (charge t amount l k) j p ≡ place t j p
unfolding charge lower
charge_place zero t amount k j p hp ne = place_put_place t k balance_at (balance t k -ℤ pos amount) j p (omega arith) hp ne
charge_place (suc l) t amount k j p hp ne =
    charge_place l (lower t amount k) amount ((tree_of t).parent k) j p hp ne
    ∙ place_put_place t k balance_at (balance t k -ℤ pos amount) j p (omega arith) hp ne

less_debt : (z : ℤ) (amount : ℕ) → minus (z -ℤ pos amount) ≤ minus z + amount
less_debt z amount = omega (arith, sub_parts z (pos amount), one_is_zero (z -ℤ pos amount), plus_pos amount, minus_pos amount)

lower_debt : (t : List ℤ) (amount k j : ℕ) → length t ≡ table_length → k < nodes → minus (balance (lower t amount k) j) ≤ minus (balance t j) + amount
unfolding lower balance
lower_debt t amount k j n low =
    elim (ℕ_discrete j k) [
      | yes e ↦ rw (e, place_put_same t k balance_at (place t k balance_at -ℤ pos amount) n low (omega arith)) (less_debt (place t k balance_at) amount)
      | no ne ↦ rw (place_put_node t k balance_at (place t k balance_at -ℤ pos amount) j balance_at (omega arith) (omega arith) ne) (omega arith)
    ]

-- The table u, which shows the tree, can be charged an amount at l levels and at one more, at whichever nodes.
pub record Chargeable (tree : Tree) (amount l : ℕ) (u : List ℤ) : Type 0 where
  pub long : length u ≡ table_length
  pub same : tree_of u ≡ tree
  pub debt : (j : ℕ) → j < nodes → minus (balance u j) + suc l * amount ≤ 2 ^ 63

pub chargeable_first : (t : List ℤ) → Within t → (amount l : ℕ) → amount ≤ 2 ^ 60 → l ≤ last_level → Chargeable (tree_of t) amount l t
chargeable_first t w amount l small few =
    record {
      long = w.long;
      same = refl;
      debt = λ j h. omega (arith, w.debt j h, mul-le-mul_right amount few);
    }

pub chargeable_next : (tree : Tree) (amount l m : ℕ) (u : List ℤ) → Chargeable tree amount l u → l ≡ m + 1 → (k : ℕ) → k < nodes → Chargeable tree amount m (lower u amount k)
chargeable_next tree amount l m u r more k low =
    record {
      long = lower_length u amount k ∙ r.long;
      same = lower_tree u amount k ∙ r.same;
      debt = λ j h. let e : suc l * amount ≡ suc m * amount + amount = rw more (omega arith) in omega (arith, r.debt j h, lower_debt u amount k j r.long low);
    }

pub chargeable_here : (tree : Tree) (amount l : ℕ) (u : List ℤ) → Chargeable tree amount l u → (k : ℕ) → k < nodes → minus (balance u k) + amount ≤ 2 ^ 63
chargeable_here tree amount l u r k low = omega (arith, r.debt k low)

pub chargeable_parent : (t : List ℤ) (amount l : ℕ) (u : List ℤ) → Within t → Chargeable (tree_of t) amount l u → (k : ℕ) → k < nodes → (tree_of u).parent k < nodes
chargeable_parent t amount l u w r k low = rw r.same (w.parent k low)
