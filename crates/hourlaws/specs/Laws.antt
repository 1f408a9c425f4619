-- What an accepted set minute amounts to. Document 02, (h).
use Rattle.std.specs.Prelude.{ℕ, ◌≤◌, ◌<◌, ◌≡◌, true, false, List, ℤ}
use Rattle.numbers.specs.Whole.{plus, within_ℤ}
use Rattle.numbers.specs.Below.{all_below}
use Rattle.definitions.specs.Limits.{header_length, record_length, nodes, root, kind_at, share_at, rate_at, whole_share}
use Rattle.definitions.specs.Places.{header, place, rate}
use Rattle.definitions.specs.Tree.{Tree, tree_of, test_if}
use Rattle.definitions.specs.Rates.{kind_sum, fixed_sum, stated_sum}
use Rattle.definitions.specs.Order.{in_order}
use Rattle.calllaws.specs.Laws.{Kept}
use Rattle.hourlaws.specs.Windows.{week_minutes, last_minute, window_count, window_number, window_share_at, covers, tree_at, turn}
use Rattle.hourlaws.specs.SetMinute.{planned, kind_within, week_within, set_minute_refusal, set_minute_table}

-- What it accepts at one minute it accepts at all, on the table as it came and on the table after it. There the other minute gives the
-- table that it gives by itself.
pub record AtEveryMinute (t : List ℤ) (s : List ℕ) (ws : List ℤ) (minute other : ℤ) : Type 0 where
  pub here : set_minute_refusal t s ws other ≡ 0
  pub after : set_minute_refusal (set_minute_table t s ws minute) s ws other ≡ 0
  pub same : set_minute_table (set_minute_table t s ws minute) s ws other ≡ set_minute_table t s ws other

-- Tables t and u differ at most in kinds, shares and rates, and have the same disk rate.
pub record OnlyShares (t u : List ℤ) : Type 0 where
  pub header : (p : ℕ) → p < header_length → header u p ≡ header t p
  pub places : (k p : ℕ) → p < record_length → (p ≡ kind_at → ⊥) → (p ≡ share_at → ⊥) → (p ≡ rate_at → ⊥) → place u k p ≡ place t k p
  pub disk : place u root rate_at ≡ place t root rate_at

-- Node k has the plan's kind; inside a window of its own the window's share, otherwise the plan's.
pub record Given (s : List ℕ) (ws : List ℤ) (minute : ℤ) (u : List ℤ) (k : ℕ) : Type 0 where
  pub kind : place u k kind_at ≡ place (planned s) k kind_at
  pub inside : (i : ℕ) → i < window_count ws → covers ws i k (plus minute) ≡ true → place u k share_at ≡ window_number ws i window_share_at
  pub outside : ((i : ℕ) → i < window_count ws → covers ws i k (plus minute) ≡ false) → place u k share_at ≡ place (planned s) k share_at

-- Set minute on two tables: the same refusal and, where it is accepted, the same table.
pub record SetAlike (t u : List ℤ) (s : List ℕ) (ws : List ℤ) (minute : ℤ) : Type 0 where
  pub refusal : set_minute_refusal u s ws minute ≡ set_minute_refusal t s ws minute
  pub table : set_minute_refusal t s ws minute ≡ 0 → set_minute_table u s ws minute ≡ set_minute_table t s ws minute

-- At minute m the fixed shares under class c and the stated rates are within their limits.
pub record WithinAt (s : List ℕ) (ws : List ℤ) (m c : ℕ) : Type 0 where
  pub shares : fixed_sum (tree_at (tree_of (planned s)) ws m) c ≤ whole_share
  pub stated : stated_sum (tree_at (tree_of (planned s)) ws m) root ≤ rate (planned s) root

pub record MinuteLaws : Type 0 where
  -- The table after it is in order, and no balance rises.
  pub keeps : (t : List ℤ) (s : List ℕ) (ws : List ℤ) (minute : ℤ) → set_minute_refusal t s ws minute ≡ 0 → Kept t (set_minute_table t s ws minute)
  pub changes : (t : List ℤ) (s : List ℕ) (ws : List ℤ) (minute : ℤ) → set_minute_refusal t s ws minute ≡ 0 → OnlyShares t (set_minute_table t s ws minute)
  pub gives :
      (t : List ℤ) (s : List ℕ) (ws : List ℤ) (minute : ℤ) (k : ℕ) → set_minute_refusal t s ws minute ≡ 0 → k < nodes
      → Given s ws minute (set_minute_table t s ws minute) k
  -- The kinds, shares and rates that a table had make no difference.
  pub alike :
      (t u : List ℤ) (s : List ℕ) (ws : List ℤ) (minute : ℤ) → in_order t ≡ true → in_order u ≡ true → OnlyShares t u → SetAlike t u s ws minute
  pub everywhere :
      (t : List ℤ) (s : List ℕ) (ws : List ℤ) (minute other : ℤ) → set_minute_refusal t s ws minute ≡ 0 → within_ℤ 0 last_minute other ≡ true
      → AtEveryMinute t s ws minute other
  pub below_limits :
      (t : List ℤ) (s : List ℕ) (ws : List ℤ) (minute : ℤ) (m c : ℕ) → set_minute_refusal t s ws minute ≡ 0 → m < week_minutes → c < nodes
      → WithinAt s ws m c
  -- Only minute 0 and the minutes at which a window starts or ends decide the week: no other minute needs a test.
  pub decided :
      (kind limit : ℕ) (tree : Tree) (ws : List ℤ)
      → week_within kind limit tree ws ≡ all_below week_minutes (λ m. test_if (turn ws m) (λ m. kind_within kind limit (tree_at tree ws m)) m)
  -- A sum above its limit at one minute makes the week's test false.
  pub broken :
      (kind limit : ℕ) (tree : Tree) (ws : List ℤ) (m c : ℕ) → m < week_minutes → c < nodes → limit < kind_sum (tree_at tree ws m) kind c
      → week_within kind limit tree ws ≡ false
