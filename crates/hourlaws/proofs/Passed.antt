-- What an accepted set minute has passed, and that this is all it asks.
use Prim.Native.Nat.{ℕ}
use mathlib.Core.Path.{◌≡◌, ap, ◌∙◌}
use mathlib.Core.Bool.{true, not}
use mathlib.Core.List.{List, []}
use native.Mathlib.Omega.{arith}
use borrow.Author.Tests.{not-false}
use lib.IntN.{ℤ}
use Rattle.numbers.specs.Whole.{within_ℤ}
use Rattle.numbers.proofs.Every.{head_holds, rest_hold, holds_with, none_left}
use Rattle.definitions.specs.Limits.{root, fixed, stated, whole_share}
use Rattle.definitions.specs.Places.{rate}
use Rattle.definitions.specs.Tree.{tree_of}
use Rattle.definitions.specs.Order.{in_order}
use Rattle.definitions.proofs.Facts.{InOrder}
use Rattle.definitions.proofs.Refusals.{none_first, first_past, first_end}
use Rattle.planformat.specs.Format.{plan_in}
use Rattle.planlaws.specs.Reading.{joined_for, check_answer}
use Rattle.planlaws.proofs.Accepted.{none_refusing, refusing_past, plan_accepted, entries_each}
use Rattle.planlaws.proofs.Entered.{entered}
use Rattle.definitions.specs.Calls.{blank}
use Rattle.hourlaws.specs.Windows.{last_minute, timetable, shares_fit}
use Rattle.hourlaws.specs.SetMinute.{planned, same_shape, week_within, timetable_refusal, set_minute_refusal}

-- What the timetable has passed, for a plan's table p.
pub record Timetabled (t p ws : List ℤ) : Type 0 where
  pub shape : same_shape t p ≡ true
  pub table : timetable (tree_of p) ws ≡ true
  pub given : shares_fit (tree_of p) ws ≡ true
  pub shares : week_within fixed whole_share (tree_of p) ws ≡ true
  pub stated : week_within stated (rate p root) (tree_of p) ws ≡ true

module _ (t p ws : List ℤ) where
  pub timetabled : timetable_refusal t p ws ≡ 0 → Timetabled t p ws
  unfolding timetable_refusal
  timetabled h =
      let p17 = none_first 17 _ _ (omega arith) h in
      let p2 = none_first 2 _ _ (omega arith) p17.1 in
      let p7 = none_first 7 _ _ (omega arith) p2.1 in
      let p16 = none_first 16 _ _ (omega arith) p7.1 in
      let both = not-false _ p17.0 in
      record {
        shape = head_holds _ _ both;
        table = head_holds _ _ (rest_hold _ _ both);
        given = not-false _ p2.0;
        shares = not-false _ p7.0;
        stated = not-false _ p16.0;
      }

  pub of_timetabled : Timetabled t p ws → timetable_refusal t p ws ≡ 0
  unfolding timetable_refusal
  of_timetabled f =
      first_past 17 _ _ (ap not (holds_with _ _ f.shape (holds_with _ _ f.table none_left)))
      ∙ first_past 2 _ _ (ap not f.given)
      ∙ first_past 7 _ _ (ap not f.shares)
      ∙ first_past 16 _ _ (ap not f.stated)
      ∙ first_end

pub record SetMinutePassed (t : List ℤ) (s : List ℕ) (ws : List ℤ) (minute : ℤ) : Type 0 where
  pub order : in_order t ≡ true
  pub minutes : within_ℤ 0 last_minute minute ≡ true
  pub plan : check_answer s ≡ 0
  pub timetable : timetable_refusal t (planned s) ws ≡ 0

module _ (t : List ℤ) (s : List ℕ) (ws : List ℤ) (minute : ℤ) where
  pub set_minute_passed : set_minute_refusal t s ws minute ≡ 0 → SetMinutePassed t s ws minute
  unfolding set_minute_refusal
  set_minute_passed h =
      let p1 = none_first 1 _ _ (omega arith) h in
      let p2 = none_first 2 _ _ (omega arith) p1.1 in
      let p3 = none_refusing _ _ p2.1 in
      record { order = not-false _ p1.0; minutes = not-false _ p2.0; plan = p3.0; timetable = (none_refusing _ _ p3.1).0 }

  pub set_minute_accepted : SetMinutePassed t s ws minute → set_minute_refusal t s ws minute ≡ 0
  unfolding set_minute_refusal
  set_minute_accepted f =
      first_past 1 _ _ (ap not f.order)
      ∙ first_past 2 _ _ (ap not f.minutes)
      ∙ refusing_past _ _ f.plan
      ∙ refusing_past _ _ f.timetable
      ∙ first_end

-- The table that an accepted plan makes is in order.
pub planned_in_order : (s : List ℕ) → check_answer s ≡ 0 → InOrder (planned s)
unfolding check_answer planned joined_for
planned_in_order s h =
    let a = plan_accepted blank s h in
    (entered blank (plan_in s) a.opening (plan_in s).count (entries_each _ _ (plan_in s).count a.joining)).order
