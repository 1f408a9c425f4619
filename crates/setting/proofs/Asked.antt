-- What the tests over the week ask is there once the list is whole windows that are right for the plan; the refusal of set minute,
-- stage by stage.
use Prim.Native.Nat.{ℕ, ◌<◌}
use mathlib.Core.Path.{◌≡◌, refl, sym, ap, ap₂, ◌∙◌}
use mathlib.Core.Bool.{Bool, true, false, not, ◌&&◌}
use mathlib.Core.List.{List, [], ◌∷◌}
use native.Mathlib.Omega.{arith}
use borrow.Author.Tests.{not-false}
use lib.IntN.{ℤ}
use Rattle.numbers.specs.Whole.{plus, within_ℤ}
use Rattle.numbers.specs.Tests.{every}
use Rattle.numbers.specs.Below.{all_below}
use Rattle.numbers.proofs.Tests.{by_test}
use Rattle.numbers.proofs.Every.{head_holds, rest_hold}
use Rattle.numbers.proofs.Parts.{zarith, within_parts, plus_pos}
use Rattle.definitions.specs.Limits.{nodes, root, share_at, fixed, stated, whole_share}
use Rattle.definitions.specs.Places.{rate}
use Rattle.definitions.specs.Tree.{tree_of, there}
use Rattle.definitions.specs.Order.{in_order}
use Rattle.definitions.specs.Refusals.{Cause, cause, first}
use Rattle.definitions.proofs.Facts.{InOrder}
use Rattle.definitions.proofs.ShareKinds.{limit_le}
use Rattle.definitions.proofs.Refusals.{first_here, first_past, first_end, none_first}
use Rattle.planlaws.specs.Reading.{refusing, check_answer}
use Rattle.planlaws.proofs.Accepted.{refusing_here, refusing_past, refusing_last}
use Rattle.hourlaws.specs.Windows.{last_minute, window_count, window_node, window_formed, whole_windows, apart, timetable, shares_fit}
use Rattle.hourlaws.specs.SetMinute.{planned, same_shape, week_within, timetable_refusal, set_minute_refusal}
use Rattle.windows.specs.Timed.{Timed}
use Rattle.windows.proofs.Timed.{timed_of}
use Rattle.week.specs.Week.{Shared}
use Rattle.setting.specs.Fitting.{fitting}

-- Table t, a plan's table p and a list, and the tests before those over the week.
module _ (t p ws : List ℤ) where
  pub timed : fitting t p ws ≡ true → (i : ℕ) → i < window_count ws → Timed ws i
  unfolding fitting
  timed h = timed_of (tree_of p) ws (head_holds _ _ (rest_hold _ _ (rest_hold _ _ h)))

  pub shared : InOrder p → Shared p
  unfolding tree_of
  shared o =
      record {
        long = o.long;
        parent = λ k hk e ne. omega (arith, zarith, (o.limits k hk e).parent);
        kind = λ k hk e ne. omega (arith, zarith, (o.limits k hk e).kind);
        share = λ k hk.
            by_test (there (tree_of p) k)
            (λ e. omega (arith, within_parts _ _ _ (o.limits k hk e).share, limit_le ((tree_of p).kind k)))
            (λ e. omega (arith, ap plus (o.empty k hk e share_at (omega arith)), plus_pos 0));
      }

  -- Cause 17 is these tests and the one that no two windows overlap.
  seventeen : every (same_shape t p ∷ timetable (tree_of p) ws ∷ []) ≡ (fitting t p ws && apart ws)
  unfolding fitting timetable every
  seventeen = regrouped (same_shape t p) (whole_windows ws) (all_below (window_count ws) (window_formed (tree_of p) ws)) (apart ws)
    where
      regrouped : (a b c d : Bool) → (a && ((b && (c && (d && true))) && true)) ≡ ((a && (b && (c && true))) && d)
      regrouped true true true true = refl
      regrouped true true true false = refl
      regrouped true true false d = refl
      regrouped true false c d = refl
      regrouped false b c d = refl

  pub unfit : fitting t p ws ≡ false → timetable_refusal t p ws ≡ 17
  unfolding timetable_refusal
  unfit h = first_here 17 _ _ (ap not (seventeen ∙ ap (λ (b : Bool). b && apart ws) h))

  pub overlapping : fitting t p ws ≡ true → apart ws ≡ false → timetable_refusal t p ws ≡ 17
  unfolding timetable_refusal
  overlapping h o = first_here 17 _ _ (ap not (seventeen ∙ ap₂ ◌&&◌ h o))

  -- Where no two overlap, 2 for a share is the next cause.
  pub two : fitting t p ws ≡ true → apart ws ≡ true → shares_fit (tree_of p) ws ≡ false → timetable_refusal t p ws ≡ 2
  unfolding timetable_refusal
  two h a e = first_past 17 _ _ (ap not (seventeen ∙ ap₂ ◌&&◌ h a)) ∙ first_here 2 _ _ (ap not e)

  -- Then 7 and 16.
  pub record SumsLeft : Type 0 where
    pub seven : week_within fixed whole_share (tree_of p) ws ≡ false → timetable_refusal t p ws ≡ 7
    pub sixteen : week_within fixed whole_share (tree_of p) ws ≡ true → week_within stated (rate p root) (tree_of p) ws ≡ false → timetable_refusal t p ws ≡ 16
    pub none : week_within fixed whole_share (tree_of p) ws ≡ true → week_within stated (rate p root) (tree_of p) ws ≡ true → timetable_refusal t p ws ≡ 0

  pub sums_left : fitting t p ws ≡ true → apart ws ≡ true → shares_fit (tree_of p) ws ≡ true → SumsLeft
  unfolding timetable_refusal
  sums_left h a fit =
      let past = first_past 17 _ _ (ap not (seventeen ∙ ap₂ ◌&&◌ h a)) ∙ first_past 2 _ _ (ap not fit) in
      record {
        seven = λ e. past ∙ first_here 7 _ _ (ap not e);
        sixteen = λ e s. past ∙ first_past 7 _ _ (ap not e) ∙ first_here 16 _ _ (ap not s);
        none = λ e s. past ∙ first_past 7 _ _ (ap not e) ∙ first_past 16 _ _ (ap not s) ∙ first_end;
      }

-- Every window of a timetable is one of a node's number.
pub timed_nodes : (p ws : List ℤ) → timetable (tree_of p) ws ≡ true → (i : ℕ) → i < window_count ws → window_node ws i < nodes
unfolding timetable
timed_nodes p ws h i hi = (timed_of (tree_of p) ws (head_holds _ _ (rest_hold _ _ h)) i hi).node

-- The refusal of set minute, stage by stage.
first_two : (a c : ℕ) (b d : Bool) (rest : List Cause) → (first (cause a b ∷ cause c d ∷ []) ≡ 0 → ⊥) → first (cause a b ∷ cause c d ∷ rest) ≡ first (cause a b ∷ cause c d ∷ [])
first_two a c b d rest ne =
    by_test b (λ e. first_here a b _ e ∙ sym (first_here a b _ e))
    (λ e.
    first_past a b _ e
    ∙ by_test d (λ y. first_here c d _ y ∙ sym (first_here c d _ y)) (λ n. absurd (ne (first_past a b _ e ∙ first_past c d [] n ∙ first_end)))
    ∙ sym (first_past a b _ e))

module _ (t : List ℤ) (s : List ℕ) (ws : List ℤ) (minute : ℤ) where
  abbrev pub early : ℕ
  early = first (cause 1 (not (in_order t)) ∷ cause 2 (not (within_ℤ 0 last_minute minute)) ∷ [])

  pub early_refused : (early ≡ 0 → ⊥) → set_minute_refusal t s ws minute ≡ early
  unfolding set_minute_refusal
  early_refused ne = first_two 1 2 _ _ _ ne

  pub record Early : Type 0 where
    pub order : in_order t ≡ true
    pub minutes : within_ℤ 0 last_minute minute ≡ true

  pub early_passed : early ≡ 0 → Early
  early_passed h =
      let p1 = none_first 1 _ _ (omega arith) h in
      record { order = not-false _ p1.0; minutes = not-false _ (none_first 2 _ _ (omega arith) p1.1).0 }

  later : Early → set_minute_refusal t s ws minute ≡ first (refusing (check_answer s) ∷ refusing (timetable_refusal t (planned s) ws) ∷ [])
  unfolding set_minute_refusal
  later f = first_past 1 _ _ (ap not f.order) ∙ first_past 2 _ _ (ap not f.minutes)

  pub plan_refused : Early → (check_answer s ≡ 0 → ⊥) → set_minute_refusal t s ws minute ≡ check_answer s
  plan_refused f ne = later f ∙ refusing_here _ _ ne

  pub plan_passed : Early → check_answer s ≡ 0 → set_minute_refusal t s ws minute ≡ timetable_refusal t (planned s) ws
  plan_passed f h = later f ∙ refusing_past _ _ h ∙ refusing_last _
