-- What an accepted tick shows to an observer: the entries that it wrote, read from both lists after it, at the rates of the tree.
-- Whatever is counted over the entries of both lists is what is counted over the one sequence.
use Prim.Native.Nat.{ℕ, ◌+◌}
use mathlib.Core.Path.{◌≡◌, refl, sym, ap, ap₂, ◌∙◌}
use mathlib.Core.Bool.{true, cond}
use mathlib.Core.List.{List, [], ◌∷◌, ◌++◌}
use native.Mathlib.Omega.{arith}
use lib.Dec.{eqb}
use lib.ListN.{length, drop}
use lib.IntN.{ℤ, pos}
use Rattle.numbers.specs.Whole.{plus}
use Rattle.numbers.proofs.Tests.{cond_true}
use Rattle.numbers.proofs.Every.{none_left, holds_with}
use Rattle.definitions.specs.Limits.{first_port, second_port}
use Rattle.definitions.specs.Places.{port}
use Rattle.definitions.specs.Rates.{rate_in}
use Rattle.definitions.specs.Refusals.{accepted}
use Rattle.definitions.specs.Tick.{ticked, listed, port_entries, port_count, tick_refusal, tick_table, tick_first, tick_second, tick_answer}
use Rattle.definitions.proofs.Facts.{InOrder}
use Rattle.definitions.proofs.Refusals.{kept_new, outcome_accepted}
use Rattle.definitions.proofs.Ports.{whole, ports_small, port_whole}
use Rattle.ticklaws.proofs.Ports.{ticked_whole}
use Rattle.runs.specs.Runs.{tick, after, is_tick, accepts, event_of}
use Rattle.runs.proofs.Refused.{accepted_none}
use Rattle.bounds.specs.Observer.{Observer, Entry, dispatched_by, entries, entries_for, after_accepted, after_answer, observed}
use Rattle.bounds.specs.Counts.{accepted_tick, rate_at, sum_over}
use Rattle.bounds.proofs.Decoded.{told, told_first, sum_append, entries_for_sum, sum_ports}

-- The tick leaves the table of its four steps, counts as their entries do, and at the rates of the observer's tree.
pub record Shown (t : List ℤ) (o : Observer) (first second : List ℤ) : Type 0 where
  pub table : (after t (tick first second)).table ≡ (ticked t).table
  pub sums : (f : Entry → ℕ) → sum_over f (entries (event_of t (tick first second))) ≡ sum_over f (told (ticked t).entries)
  pub rate : (k : ℕ) → rate_at o k (event_of t (tick first second)) ≡ rate_in o.tree o.disk k
  pub tree : (observed o (event_of t (tick first second))).tree ≡ o.tree
  pub disk : (observed o (event_of t (tick first second))).disk ≡ o.disk
  pub asked : (k : ℕ) → (observed o (event_of t (tick first second))).asked k ≡ o.asked k
  pub sent : (k : ℕ) → (observed o (event_of t (tick first second))).sent k ≡ o.sent k + entries_for k (told (ticked t).entries)

module _ (t : List ℤ) (o : Observer) (first second : List ℤ) (h : accepts (after t (tick first second)).answer ≡ true) (order : InOrder t) where
  e : tick_refusal t first second ≡ 0
  unfolding after tick_answer
  e = accepted_none (tick_refusal t first second) _ h

  answer_accepted : tick_answer t first second ≡ accepted (pos (port_count t first_port) ∷ pos (port_count t second_port) ∷ [])
  unfolding tick_answer
  answer_accepted = outcome_accepted (tick_refusal t first second) (pos (port_count t first_port) ∷ pos (port_count t second_port) ∷ []) e

  first_accepted : tick_first t first second ≡ listed (port_entries t first_port) first
  unfolding tick_first
  first_accepted = kept_new (tick_refusal t first second) (listed (port_entries t first_port) first) first e

  second_accepted : tick_second t first second ≡ listed (port_entries t second_port) second
  unfolding tick_second
  second_accepted = kept_new (tick_refusal t first second) (listed (port_entries t second_port) second) second e

  port_told : (p : ℕ) → whole (port_entries t p)
  unfolding port_entries
  port_told p = port_whole (port t) p (ticked t).entries (ticked_whole t order p)

  -- The entries of the first list, and then those of the second.
  both : List Entry
  both = told (port_entries t first_port) ++ told (port_entries t second_port)

  dispatched_both : dispatched_by (tick_answer t first second) (tick_first t first second) (tick_second t first second) ≡ both
  unfolding dispatched_by listed port_count plus both
  dispatched_both =
      rw (answer_accepted, first_accepted, second_accepted)
      (ap₂ (λ (a b : List Entry). a ++ b)
      (told_first (port_entries t first_port) (drop (length (port_entries t first_port)) first) (port_told first_port))
      (told_first (port_entries t second_port) (drop (length (port_entries t second_port)) second) (port_told second_port)))

  entries_both : entries (event_of t (tick first second)) ≡ both
  unfolding entries event_of after is_tick
  entries_both = dispatched_both

  both_sums_law : (f : Entry → ℕ) → sum_over f both ≡ sum_over f (told (ticked t).entries)
  unfolding both port_entries
  both_sums_law f =
      sum_append f (told (port_entries t first_port)) (told (port_entries t second_port))
      ∙ sum_ports f (port t) (ports_small t order) (ticked t).entries (ticked_whole t order first_port)

  both_sent : (k : ℕ) → entries_for k both ≡ entries_for k (told (ticked t).entries)
  both_sent k =
      entries_for_sum k both ∙ both_sums_law (λ e. cond (eqb e.client k) 1 0) ∙ sym (entries_for_sum k (told (ticked t).entries))

  answered : after_answer o (tick first second) (tick_answer t first second) (entries (event_of t (tick first second))) ≡ after_accepted o (tick first second) both
  unfolding after_answer
  answered = rw (answer_accepted, entries_both)

  observed_both : observed o (event_of t (tick first second)) ≡ after_accepted o (tick first second) both
  unfolding observed event_of after
  observed_both = answered

  ticks : accepted_tick (event_of t (tick first second)) ≡ true
  unfolding accepted_tick event_of is_tick
  ticks = holds_with _ _ refl (holds_with _ _ h none_left)

  pub shown : Shown t o first second
  unfolding after tick_table rate_at after_accepted
  shown =
      record {
        table = kept_new (tick_refusal t first second) (ticked t).table t e;
        sums = λ f. ap (sum_over f) entries_both ∙ both_sums_law f;
        rate = λ k. cond_true (accepted_tick (event_of t (tick first second))) _ 0 ticks;
        tree = ap (λ (p : Observer). p.tree) observed_both;
        disk = ap (λ (p : Observer). p.disk) observed_both;
        asked = λ k. ap (λ (p : Observer). p.asked k) observed_both;
        sent = λ k. omega (arith, ap (λ (p : Observer). p.sent k) observed_both, both_sent k);
      }
