-- The supplier of a request stands on the way up from its client; where there is none, no node on the way has enough balance.
use Prim.Native.Nat.{ℕ, zero, suc, ◌<◌, ◌+◌}
use mathlib.Core.Path.{◌≡◌, refl}
use mathlib.Core.Bool.{true, false}
use mathlib.Core.List.{List}
use borrow.Author.Tests.{lt-ltb}
use lib.IntN.{ℤ}
use Rattle.numbers.proofs.Tests.{by_test, true_false}
use Rattle.numbers.proofs.Every.{holds_with, none_left}
use Rattle.definitions.specs.Places.{waiting, size}
use Rattle.definitions.specs.Tree.{tree_of, on_way, at_or_above}
use Rattle.definitions.specs.Tick.{grains, enough, supplier_from, supply, is_found, supplier, steps_above, supplied}
use Rattle.definitions.specs.Choice.{HasSupplier}
use Rattle.treelaws.proofs.Way.{way_top, way_cases, way_above}

pub supplier_way : (t : List ℤ) (k : ℕ) → HasSupplier t k → at_or_above (tree_of t) k (supplier t k) ≡ true
unfolding at_or_above
supplier_way t k s = rw s.node (way_above (tree_of t) (steps_above t k) ((tree_of t).level k) k s.within)

none_on_way : (t : List ℤ) (amount n l k : ℕ) → is_found (supplier_from t amount n l k) ≡ false → (j : ℕ) → on_way (tree_of t) l k j ≡ true → enough t amount j ≡ false
unfolding supplier_from is_found
none_on_way t amount n zero k h j on =
    rw (way_top (tree_of t) k j on) (by_test (enough t amount k) (λ e. absurd (true_false refl (rw e at h))) (λ e. e))
none_on_way t amount n (suc l) k h j on =
    by_test (enough t amount k)
    (λ e. absurd (true_false refl (rw e at h)))
    (λ e.
    way_cases (tree_of t) l k j on
    (λ d. rw d e)
    (none_on_way t amount (n + 1) l ((tree_of t).parent k) (rw e at h) j))

-- A client that waits with no supplier: no node at or above it has enough balance.
pub not_supplied : (t : List ℤ) (k : ℕ) → 0 < waiting t k → supplied t k ≡ false → (j : ℕ) → at_or_above (tree_of t) k j ≡ true → enough t (grains (size t k 0)) j ≡ false
unfolding supplied supply at_or_above
not_supplied t k waits h =
    none_on_way t (grains (size t k 0)) 0 ((tree_of t).level k) k
    (by_test (is_found (supply t k))
    (λ l. absurd (true_false (holds_with _ _ (lt-ltb 0 (waiting t k) waits) (holds_with _ _ l none_left)) h))
    (λ l. l))
