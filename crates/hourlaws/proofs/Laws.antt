-- The laws of set minute, all together.
use Prim.Native.Nat.{ℕ, ◌<◌}
use mathlib.Core.Path.{◌≡◌, ap}
use mathlib.Core.Bool.{false}
use mathlib.Core.List.{List}
use native.Mathlib.Omega.{arith}
use lib.IntN.{ℤ}
use Rattle.numbers.specs.Whole.{plus, minus}
use Rattle.numbers.proofs.Tests.{by_test}
use Rattle.definitions.specs.Limits.{nodes, root, balance_at, fixed, stated, whole_share}
use Rattle.definitions.specs.Places.{balance, rate}
use Rattle.definitions.specs.Tree.{Tree, tree_of}
use Rattle.definitions.specs.Rates.{kind_sum}
use Rattle.definitions.proofs.Facts.{facts}
use Rattle.definitions.proofs.Refusals.{kept_new}
use Rattle.calllaws.specs.Laws.{NoBalanceRises}
use Rattle.hourlaws.specs.Windows.{week_minutes, tree_at}
use Rattle.hourlaws.specs.SetMinute.{planned, week_within, set_minute_refusal, minute_table, set_minute_table}
use Rattle.hourlaws.specs.Laws.{OnlyShares, Given, MinuteLaws}
use Rattle.hourlaws.proofs.Passed.{set_minute_passed, timetabled, planned_in_order}
use Rattle.hourlaws.proofs.Kept.{minute_below, within_at_law, only_shares, written_kind, written_inside, written_outside, set_minute_keeps_order, accepted_at_all}
use Rattle.hourlaws.proofs.Alike.{set_alike}
use Rattle.hourlaws.proofs.Turns.{decided}

changes : (t : List ℤ) (s : List ℕ) (ws : List ℤ) (minute : ℤ) → set_minute_refusal t s ws minute ≡ 0 → OnlyShares t (set_minute_table t s ws minute)
unfolding set_minute_table
changes t s ws minute h =
    let f = set_minute_passed t s ws minute h in
    rw (kept_new (set_minute_refusal t s ws minute) (minute_table t (planned s) ws (plus minute)) t h)
    (only_shares t (planned s) ws (plus minute) (facts t f.order) (planned_in_order s f.plan) (minute_below minute f.minutes) (timetabled t (planned s) ws f.timetable))

gives : (t : List ℤ) (s : List ℕ) (ws : List ℤ) (minute : ℤ) (k : ℕ) → set_minute_refusal t s ws minute ≡ 0 → k < nodes → Given s ws minute (set_minute_table t s ws minute) k
unfolding set_minute_table
gives t s ws minute k h hk =
    let f = set_minute_passed t s ws minute h in
    let order = facts t f.order in
    let plan = planned_in_order s f.plan in
    let below = minute_below minute f.minutes in
    let g = timetabled t (planned s) ws f.timetable in
    rw (kept_new (set_minute_refusal t s ws minute) (minute_table t (planned s) ws (plus minute)) t h)
    (record {
      kind = written_kind t (planned s) ws (plus minute) order plan below g k hk;
      inside = λ i hi c. written_inside t (planned s) ws (plus minute) order plan below g k i hk hi c;
      outside = λ none. written_outside t (planned s) ws (plus minute) order plan below g k hk none;
    })

broken : (kind limit : ℕ) (tree : Tree) (ws : List ℤ) (m c : ℕ) → m < week_minutes → c < nodes → limit < kind_sum (tree_at tree ws m) kind c → week_within kind limit tree ws ≡ false
broken kind limit tree ws m c hm hc above = by_test (week_within kind limit tree ws) (λ e. absurd (omega (arith, above, within_at_law kind limit tree ws m c e hm hc))) (λ e. e)

pub minute_laws : MinuteLaws
unfolding NoBalanceRises balance
minute_laws =
    record {
      keeps = λ t s ws minute h.
          record {
            order = set_minute_keeps_order t s ws minute (set_minute_passed t s ws minute h).order;
            balances = λ k hk.
                let same = (changes t s ws minute h).places k balance_at (omega arith) (omega arith) (omega arith) (omega arith) in
                omega (arith, ap plus same, ap minus same);
          };
      changes = changes;
      gives = gives;
      alike = λ t u s ws minute ht hu o. set_alike t u o s ws minute ht hu;
      everywhere = accepted_at_all;
      below_limits = λ t s ws minute m c h hm hc.
          let f = timetabled t (planned s) ws (set_minute_passed t s ws minute h).timetable in
          record { shares = within_at_law fixed whole_share (tree_of (planned s)) ws m c f.shares hm hc; stated = within_at_law stated (rate (planned s) root) (tree_of (planned s)) ws m root f.stated hm (omega arith) };
      decided = decided;
      broken = broken;
    }
