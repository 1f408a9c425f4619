-- At most 512 requests wait at a port of a table in order; an accepted tick has lists with room for all of them.
use Prim.Native.Nat.{ℕ, ◌*◌, ◌-◌, ◌≤◌, ◌<◌}
use mathlib.Core.Path.{◌≡◌, ◌∙◌}
use mathlib.Core.Bool.{true, false}
use mathlib.Core.List.{List}
use native.Mathlib.Omega.{arith}
use borrow.Author.Tests.{eq-eqb, ne_eqb, ltb-false, not-false}
use lib.Dec.{eqb}
use lib.ListN.{length}
use lib.IntN.{ℤ}
use Rattle.numbers.specs.Whole.{plus, minus}
use Rattle.numbers.specs.Below.{sum_below}
use Rattle.numbers.proofs.Parts.{zarith}
use Rattle.numbers.proofs.Sums.{sum_bound}
use Rattle.numbers.proofs.Tests.{or_false_left, or_false_right}
use Rattle.definitions.specs.Limits.{nodes, waiting_at, port_at, most_waiting, entry_length, first_port, second_port}
use Rattle.definitions.specs.Places.{place, port, waiting}
use Rattle.definitions.specs.Tree.{count_if}
use Rattle.definitions.specs.Order.{in_order}
use Rattle.definitions.specs.Tick.{all_waiting, port_waiting, list_short, tick_refusal}
use Rattle.definitions.proofs.Facts.{InOrder, facts}
use Rattle.definitions.proofs.Ports.{ports_small, by_port}
use Rattle.definitions.proofs.Refusals.{none_first}
use Rattle.treelaws.proofs.Children.{counted, uncounted}
use Rattle.ticklaws.proofs.Queues.{queues_of}
use Rattle.ticklaws.proofs.Ports.{port_most, waits_both, port_both}
use Rattle.steps.proofs.Within.{waiting_few}

all_few : (t : List ℤ) → InOrder t → all_waiting t ≤ nodes * most_waiting
unfolding all_waiting waiting
all_few t f = sum_bound nodes most_waiting (waiting t) (λ k hk. waiting_few t f k hk)

pub few : (t : List ℤ) → InOrder t → (p : ℕ) → port_waiting t p ≤ nodes * most_waiting
few t f p = omega (arith, all_few t f, port_most t p)

-- What node k adds at the second port: its requests times its port.
unfoldable pub adds : List ℤ → ℕ → ℕ
adds t k = count_if (eqb (port t k) second_port) (waiting t) k

times : (t : List ℤ) → InOrder t → (k w q : ℕ) → w ≡ waiting t k → q ≡ port t k → w * q ≡ adds t k
unfolding adds
times t f k w q hw hq =
    by_port (port t) (ports_small t f) k
    (λ here other. rw (hq ∙ here) (omega (arith, uncounted (eqb (port t k) second_port) (waiting t) k (ne_eqb (port t k) second_port other))))
    (λ other here. rw (hq ∙ here) (omega (arith, hw, counted (eqb (port t k) second_port) (waiting t) k (eq-eqb (port t k) second_port here))))

adds_most : (t : List ℤ) → InOrder t → (k : ℕ) → adds t k ≤ waiting t k
unfolding adds
adds_most t f k = omega (arith, waits_both t f k)

-- The requests w of node k, which is at port q, and what they add.
pub record Added (t : List ℤ) (k w q : ℕ) : Type 0 where
  pub all : w ≡ waiting t k
  pub second : w * q ≡ adds t k
  pub few : w ≤ most_waiting
  pub less : w * q ≤ w

pub added : (t : List ℤ) → in_order t ≡ true → (k w q : ℕ) → k < nodes → w ≡ plus (place t k waiting_at) → q ≡ plus (place t k port_at) → Added t k w q
unfolding waiting port
added t h k w q hk hw hq =
    let f = facts t h in
    let product = times t f k w q hw hq in
    record { all = hw; second = product; few = omega (arith, hw, waiting_few t f k hk); less = omega (arith, product, adds_most t f k, hw) }

pub waiting_whole : (t : List ℤ) → InOrder t → (k : ℕ) → k < nodes → minus (place t k waiting_at) ≡ 0
waiting_whole t f k hk = omega (arith, zarith, (queues_of t f).few k hk)

-- The sums over all nodes are those of the two ports.
pub by_ports : (t : List ℤ) → in_order t ≡ true → (all second : ℕ) → all ≡ sum_below nodes (waiting t) → second ≡ sum_below nodes (adds t) → (all - second ≡ port_waiting t first_port) × (second ≡ port_waiting t second_port)
unfolding adds all_waiting port_waiting
by_ports t h all second e g = (omega (arith, e, g, port_both t (facts t h)), g)

pub record Passed (t list₀ list₁ : List ℤ) : Type 0 where
  pub order : in_order t ≡ true
  pub first : entry_length * port_waiting t first_port ≤ length list₀
  pub second : entry_length * port_waiting t second_port ≤ length list₁

-- A list that is not too short.
room : (t : List ℤ) (p : ℕ) (list : List ℤ) → list_short t p list ≡ false → entry_length * port_waiting t p ≤ length list
unfolding list_short
room t p list h = ltb-false (length list) (entry_length * port_waiting t p) h

pub tick_passed : (t list₀ list₁ : List ℤ) → tick_refusal t list₀ list₁ ≡ 0 → Passed t list₀ list₁
unfolding tick_refusal
tick_passed t list₀ list₁ h =
    let p = none_first 1 _ _ (omega arith) h in
    let q = none_first 13 _ _ (omega arith) p.1 in
    record {
      order = not-false _ p.0;
      first = room t first_port list₀ (or_false_left (list_short t first_port list₀) (list_short t second_port list₁) q.0);
      second = room t second_port list₁ (or_false_right (list_short t first_port list₀) (list_short t second_port list₁) q.0);
    }
