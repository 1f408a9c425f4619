-- A part of the cells, filled and put back.
use Prim.Native.Nat.{ℕ, ◌+◌, ◌-◌, ◌≤◌, ◌<◌}
use mathlib.Core.Path.{◌≡◌, sym, ap, ◌∙◌}
use mathlib.Core.Bool.{Bool, cond}
use mathlib.Core.List.{List}
use native.Mathlib.Omega.{arith}
use lib.Dec.{eqb}
use lib.ListN.{length, get_or, drop}
use borrow.Rule.Slice.PartMut.{mid_of, put_mid}
use Rattle.std.proofs.Common.{rules}
use Rattle.std.proofs.lemmas.List.{places, get_or-take, get_or-drop}
use Rattle.numbers.proofs.Tests.{by_test, true_false, cond_true, cond_false}
use Rattle.numbers.specs.Below.{all_below}
use Rattle.numbers.proofs.All.{all_cong}
use Rattle.cells.specs.Cells.{between}
use Rattle.cells.proofs.Covered.{between_facts, between_of}

module _ (cells items : List ℕ) (from to : ℕ) (low : from ≤ to) (high : to ≤ length cells) (long : length items ≡ to - from) where
  inside : (y : ℕ) → from ≤ y → y < to → get_or (put_mid from (to - from) cells items) y 0 ≡ get_or items (y - from) 0
  inside y l h = search (rules, places)

  outside : (y : ℕ) → ((from ≤ y) × (y < to) → ⊥) → get_or (put_mid from (to - from) cells items) y 0 ≡ get_or cells y 0
  outside y out = search (rules, places)

pub part_filled :
    (cells items : List ℕ) (from to v : ℕ) → from ≤ to → to ≤ length cells → length items ≡ to - from
    → ((y : ℕ) → get_or items y 0 ≡ cond (between 0 (to - from) y) v (get_or (mid_of from (to - from) cells) y 0))
    → (y : ℕ) → get_or (put_mid from (to - from) cells items) y 0 ≡ cond (between from to y) v (get_or cells y 0)
part_filled cells items from to v low high long h y =
    by_test (between from to y)
    (λ e.
    let f = between_facts from to y e in
    inside cells items from to low high long y f.0 f.1
    ∙ h (y - from)
    ∙ cond_true _ v _ (between_of 0 (to - from) (y - from) (omega arith) (omega arith))
    ∙ sym (cond_true _ v _ e))
    (λ e. outside cells items from to low high long y (λ f. absurd (true_false (between_of from to y f.0 f.1) e)) ∙ sym (cond_false _ v _ e))

pub part_clear :
    (cells : List ℕ) (from to : ℕ) (b : Bool) → b ≡ all_below (to - from) (λ i. eqb (get_or (mid_of from (to - from) cells) i 0) 0)
    → b ≡ all_below (to - from) (λ i. eqb (get_or cells (from + i) 0) 0)
part_clear cells from to b h =
    h ∙ all_cong (to - from) _ _ (λ i hi. ap (λ (n : ℕ). eqb n 0) (get_or-take (to - from) (drop from cells) i 0 hi ∙ get_or-drop from cells i 0))
