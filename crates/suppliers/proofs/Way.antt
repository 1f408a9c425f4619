-- The search for a supplier, one level at a time: it ends at a node with enough balance or at the top, else it goes on at the
-- parent, one step more above the client.
use Prim.Native.Nat.{ℕ, zero, suc, ◌+◌, ◌-◌}
use mathlib.Core.Path.{◌≡◌, refl}
use mathlib.Core.Bool.{true, false}
use mathlib.Core.List.{List}
use native.Mathlib.Omega.{arith}
use lib.IntN.{ℤ}
use Rattle.numbers.proofs.Tests.{cond_true, cond_false}
use Rattle.definitions.specs.Tree.{tree_of}
use Rattle.std.specs.Prelude.{Some, None}
use Rattle.definitions.specs.Tick.{enough, supplier_from}

module _ (t : List ℤ) (amount steps : ℕ) where
  pub supplier_here : (l k : ℕ) → enough t amount k ≡ true → supplier_from t amount steps l k ≡ Some (record { node = k; steps = steps })
  unfolding supplier_from
  supplier_here zero k h = cond_true (enough t amount k) _ _ h
  supplier_here (suc l) k h = cond_true (enough t amount k) _ _ h

  pub supplier_none : (l k : ℕ) → l ≡ 0 → enough t amount k ≡ false → supplier_from t amount steps l k ≡ None
  unfolding supplier_from
  supplier_none zero k e h = cond_false (enough t amount k) _ _ h
  supplier_none (suc l) k e h = absurd (omega arith)

  pub supplier_above : (l k : ℕ) → (l ≡ 0 → ⊥) → enough t amount k ≡ false → supplier_from t amount steps l k ≡ supplier_from t amount (steps + 1) (l - 1) ((tree_of t).parent k)
  unfolding supplier_from
  supplier_above zero k e h = absurd (e refl)
  supplier_above (suc l) k e h = let less : suc l - 1 ≡ l = omega arith in rw less (cond_false (enough t amount k) _ _ h)

-- What the search for a supplier needs of these.
pub ruleset way = (supplier_here, supplier_none, supplier_above)
