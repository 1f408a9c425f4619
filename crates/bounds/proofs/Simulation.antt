-- The table agrees with the observer: the same tree and disk rate, the table in order, and at each client as many requests
-- waiting as were asked and not yet sent. And what the laws of one call say of such a table: a record of them, from which the
-- claims over a stretch follow.
use Prim.Native.Nat.{ℕ, ◌+◌, ◌*◌, ◌≤◌, ◌<◌}
use mathlib.Core.Path.{◌≡◌, refl, ap, ◌∙◌}
use mathlib.Core.Bool.{true, false, not}
use mathlib.Core.Logic.{◌⊎◌}
use mathlib.Core.List.{List}
use native.Mathlib.Omega.{arith}
use native.Mathlib.Decide.{dec_lt}
use borrow.Author.Tests.{ltb-true}
use lib.Dec.{eqb}
use lib.ListN.{length, get_or-eq_default}
use lib.IntN.{ℤ, pos}
use Rattle.numbers.specs.Whole.{plus, minus}
use Rattle.numbers.proofs.Tests.{true_false}
use Rattle.definitions.specs.Limits.{table_length, header_length, record_length, nodes, root, grain_scale}
use Rattle.definitions.specs.Places.{place, rate, balance, waiting}
use Rattle.definitions.specs.Tree.{tree_of, there, is_class, is_client}
use Rattle.definitions.specs.Order.{in_order}
use Rattle.runs.specs.Runs.{Call, after, event_of}
use Rattle.bounds.specs.Observer.{Observer, entries, observed}
use Rattle.bounds.specs.Counts.{rate_at, entry_grains, grains_for_client, grains_to_node, sum_over, waits, takes_out}

pub record Agrees (t : List ℤ) (o : Observer) : Type 0 where
  pub order : in_order t ≡ true
  pub tree : tree_of t ≡ o.tree
  pub disk : rate t root ≡ o.disk
  pub queue : (k : ℕ) → is_client o.tree k ≡ true → o.asked k ≡ o.sent k + waiting t k

-- A client that has a request waiting was sent less than it asked.
pub waits_more : (o : Observer) (k : ℕ) → waits o k ≡ true → o.sent k < o.asked k
unfolding waits
waits_more o k h = omega (arith, ltb-true)

-- A node that is there has a number below 64.
pub there_below : (t : List ℤ) (k : ℕ) → length t ≡ table_length → there (tree_of t) k ≡ true → k < nodes
unfolding there tree_of place plus
there_below t k long e =
    elim (dec_lt k nodes) [
      | yes low ↦ low
      | no high ↦
          let beyond : length t ≤ header_length + record_length * k + 0 = omega arith in
          absurd (true_false e (ap (λ (z : ℤ). not (eqb (plus z) 0)) (get_or-eq_default t (pos 0) beyond ∙ refl)))
    ]

-- What one call does to a class that it does not take out: the balance after and what was charged are at most the balance
-- before and the rate.
pub record ClassStep (t : List ℤ) (o : Observer) (call : Call) (c : ℕ) : Type 0 where
  pub class : is_class (observed o (event_of t call)).tree c ≡ true
  pub level : (observed o (event_of t call)).tree.level c ≡ o.tree.level c
  pub depth : (observed o (event_of t call)).tree.depth c ≡ o.tree.depth c
  pub line :
      plus (balance (after t call).table c) + minus (balance t c) + sum_over (grains_to_node o.tree c) (entries (event_of t call))
      ≤ minus (balance (after t call).table c) + plus (balance t c) + rate_at o c (event_of t call)

-- What one call does to a client that has a request waiting after it: the balance before and the rate are at most the
-- balance after and what was dispatched; and its balance stays as it was with no rate, or ends below its depth.
pub record ClientStep (t : List ℤ) (o : Observer) (call : Call) (k : ℕ) : Type 0 where
  pub client : is_client o.tree k ≡ true
  pub depth : (observed o (event_of t call)).tree.depth k ≡ o.tree.depth k
  pub line : plus (balance t k) + rate_at o k (event_of t call) ≤ plus (balance (after t call).table k) + sum_over (grains_for_client k) (entries (event_of t call))
  pub end :
      ((rate_at o k (event_of t call) ≡ 0) × (plus (balance (after t call).table k) ≡ plus (balance t k)))
      ⊎ (plus (balance (after t call).table k) < o.tree.depth k * grain_scale)

-- The laws of one call: the table agrees with the observer after it, the root is not taken out and is charged for every entry, and
-- what it does to a class and to a client.
pub record Step (t : List ℤ) (o : Observer) (call : Call) : Type 0 where
  pub agrees : Agrees (after t call).table (observed o (event_of t call))
  pub stays : takes_out root (event_of t call) ≡ false
  pub all : sum_over (grains_to_node o.tree root) (entries (event_of t call)) ≡ sum_over entry_grains (entries (event_of t call))
  pub class : (c : ℕ) → is_class o.tree c ≡ true → takes_out c (event_of t call) ≡ false → ClassStep t o call c
  pub client : (k : ℕ) → is_client (observed o (event_of t call)).tree k ≡ true → waits (observed o (event_of t call)) k ≡ true → ClientStep t o call k

-- Every call has them.
abbrev pub Steps : Type 0
Steps = (t : List ℤ) (o : Observer) (call : Call) → Agrees t o → Step t o call
