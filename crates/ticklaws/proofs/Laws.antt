-- The laws of a tick, all together.
use Prim.Native.Nat.{ℕ, ◌+◌, ◌<◌}
use mathlib.Core.Path.{◌≡◌}
use mathlib.Core.Bool.{true, false}
use mathlib.Core.List.{List}
use native.Mathlib.Omega.{arith}
use lib.IntN.{ℤ}
use Rattle.numbers.specs.Whole.{plus, minus}
use Rattle.numbers.proofs.Parts.{zarith}
use Rattle.definitions.specs.Limits.{nodes}
use Rattle.definitions.specs.Places.{balance, waiting, size}
use Rattle.definitions.specs.Tree.{tree_of, at_or_above}
use Rattle.definitions.specs.Order.{in_order}
use Rattle.definitions.specs.Tick.{grains, enough, ticked}
use Rattle.definitions.proofs.Facts.{InOrder, facts}
use Rattle.ticklaws.specs.Laws.{TickLaws}
use Rattle.ticklaws.proofs.Frame.{frame_tree}
use Rattle.ticklaws.proofs.Supplier.{not_supplied}
use Rattle.ticklaws.proofs.Keeps.{tick_keeps, ticked_settled, none_supplied}
use Rattle.ticklaws.proofs.Ports.{port_entries_law, both_entries, ticked_entries}

-- A balance that is not enough is below the amount.
too_little : (t : List ℤ) (amount j : ℕ) → enough t amount j ≡ false → plus (balance t j) < minus (balance t j) + amount
unfolding enough plus minus
too_little t amount j h = omega (arith, zarith)

none_enough : (t : List ℤ) → InOrder t → (k : ℕ) → k < nodes → 0 < waiting (ticked t).table k → (j : ℕ) → at_or_above (tree_of t) k j ≡ true → enough (ticked t).table (grains (size (ticked t).table k 0)) j ≡ false
none_enough t f k hk waits j on =
    let u = (ticked t).table in
    let same = frame_tree t u (ticked_settled t f).reached.frame in
    not_supplied u k waits (none_supplied t f k hk) j (rw same on)

pub tick_laws : (t : List ℤ) → in_order t ≡ true → TickLaws t
tick_laws t h =
    let f = facts t h in
    record {
      order = tick_keeps t h;
      ends = λ k hk waits j on. omega (arith, too_little (ticked t).table _ j (none_enough t f k hk waits j on));
      entries = omega (arith, ticked_entries t f (facts (ticked t).table (tick_keeps t h)));
      ports = λ p. omega (arith, port_entries_law t f p);
      both = omega (arith, both_entries t f);
    }
