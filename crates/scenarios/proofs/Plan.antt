-- Short forms of what set minute does: of reading a plan into a blank table, of its refusals, and of the table that it leaves.
use Prim.Native.Nat.{ℕ, zero, suc}
use mathlib.Core.Path.{◌≡◌, refl, ap, ap₂, ◌∙◌}
use mathlib.Core.Bool.{Bool}
use mathlib.Core.List.{List, [], ◌∷◌}
use borrow.Author.Tests.{eqb-true}
use lib.Dec.{eqb}
use lib.IntN.{ℤ, pos}
use Rattle.definitions.specs.Limits.{first_port}
use Rattle.definitions.specs.Places.{rate}
use Rattle.definitions.specs.Rates.{renewed}
use Rattle.definitions.specs.Refusals.{first}
use Rattle.definitions.specs.Calls.{blank, open_refusal, join_table}
use Rattle.treelaws.specs.Joins.{refusal_of, after_join}
use Rattle.calllaws.proofs.Open.{open_keeps}
use Rattle.calllaws.proofs.Join.{join_keeps_order}
use Rattle.planformat.specs.Kinds.{sort_of, share_kind_of}
use Rattle.planformat.specs.Format.{Entry, Plan, plan_in}
use Rattle.planlaws.specs.Reading.{join_of, entry_refusal, after_entry, after_entries, refusing, entries_refusal, opened_for, joined_for, plan_refusal, check_answer}
use Rattle.planlaws.proofs.Accepted.{after_none, after_suc}
use Rattle.hourlaws.specs.Windows.{tree_at}
use Rattle.hourlaws.specs.SetMinute.{reshared_as, planned, same_shape, timetable_refusal, set_minute_refusal, minute_table}
use Rattle.scenarios.proofs.Near.{tree_near, place_is, tree_is}
use Rattle.scenarios.proofs.Week.{week_is, reshared_near, reshared_is, nodes_same}
use Rattle.scenarios.proofs.Short.{Short, ShortIf, by, with, by_if, with_if, rates_are, Ordered, order_is, short_join_refusal}

-- What reading gives: a refusal, and the table with all entries joined.
pub record Read : Type 0 where
  pub refusal : ℕ
  pub table : List ℤ

-- The refusal of one entry, and the table after it.
unfoldable pub read_entry : List ℤ → Entry → Read
read_entry t e = record { refusal = entry_refusal t e; table = after_entry t e }

unfoldable pub short_entry : (t : List ℤ) (known : Bool) (e : Entry) → ShortIf (Ordered t known) (read_entry t e)
unfolding read_entry entry_refusal after_entry refusal_of after_join join_of join_table renewed
short_entry t known e =
    with_if (short_join_refusal t known (pos e.node) (pos e.parent) (pos (sort_of e.kind)) (pos (share_kind_of e.kind)) (pos e.share) (pos e.depth) (pos first_port))
    (λ n. by_if (λ h y e. simp (h.1, tree_is, rates_are) at e))

-- The refusal of the first n entries of plan p, and the table after them.
unfoldable pub next_entry : Bool → Entry → Read → Read
next_entry known e before =
    let now : Read = (short_entry before.table known e).value in
    record { refusal = first (refusing before.refusal ∷ refusing now.refusal ∷ []); table = now.table }

unfoldable pub entries_near : Bool → Plan → List ℤ → ℕ → Read
entries_near known p t zero = record { refusal = 0; table = t }
entries_near known p t (suc n) = next_entry known (p.entry n) (entries_near known p t n)

entry_ordered : (t : List ℤ) (known : Bool) (e : Entry) → Ordered t known → Ordered (after_entry t e) known
unfolding after_entry after_join
entry_ordered t known e order h =
    let j = join_of e in join_keeps_order t j.node j.parent j.sort j.kind j.share j.depth j.port (order h)

module _ (known : Bool) (p : Plan) (t : List ℤ) (order : Ordered t known) where
  entries_ordered : (n : ℕ) → Ordered (after_entries t p n) known
  entries_ordered zero h = rw (after_none t p) (order h)
  entries_ordered (suc n) h = rw (after_suc t p n) (entry_ordered (after_entries t p n) known (p.entry n) (entries_ordered n) h)

  entry_is : (n : ℕ) → read_entry (after_entries t p n) (p.entry n) ≡ (short_entry (after_entries t p n) known (p.entry n)).value
  entry_is n = (short_entry (after_entries t p n) known (p.entry n)).same (entries_ordered n)

  entries_table : (n : ℕ) → after_entries t p n ≡ (entries_near known p t n).table
  unfolding entries_near next_entry read_entry
  entries_table zero = after_none t p
  entries_table (suc n) =
      after_suc t p n
      ∙ ap (λ (r : Read). r.table) (entry_is n)
      ∙ ap (λ (u : List ℤ). (short_entry u known (p.entry n)).value.table) (entries_table n)

  entries_refusal_law : (n : ℕ) → entries_refusal t p n ≡ (entries_near known p t n).refusal
  unfolding entries_near next_entry entries_refusal read_entry
  entries_refusal_law zero = refl
  entries_refusal_law (suc n) =
      ap₂ (λ (before now : ℕ). first (refusing before ∷ refusing now ∷ [])) (entries_refusal_law n)
      (ap (λ (r : Read). r.refusal) (entry_is n) ∙ ap (λ (u : List ℤ). (short_entry u known (p.entry n)).value.refusal) (entries_table n))

  pub entries_are : (n : ℕ) → record { refusal = entries_refusal t p n; table = after_entries t p n } ≡ entries_near known p t n
  entries_are n = λ i. record { refusal = entries_refusal_law n i; table = entries_table n i }

-- Whether the plan's disk can be opened. Then the table is known to be in order from there on.
unfoldable pub opens : Plan → Bool
opens p = eqb (open_refusal blank (pos p.rate) (pos p.depth)) 0

pub opens_ordered : (p : Plan) → Ordered (opened_for blank p) (opens p)
unfolding opens opened_for
opens_ordered p h = open_keeps blank (pos p.rate) (pos p.depth) (eqb-true _ 0 h)

-- All entries of the plan in the bytes s, and the plan.
unfoldable pub read_entries : List ℕ → Read
read_entries s =
    record { refusal = entries_refusal (opened_for blank (plan_in s)) (plan_in s) (plan_in s).count; table = joined_for blank (plan_in s) }

unfoldable pub short_entries : (s : List ℕ) → Short (read_entries s)
unfolding read_entries joined_for
short_entries s =
    record {
      value = entries_near (opens (plan_in s)) (plan_in s) (opened_for blank (plan_in s)) (plan_in s).count;
      same = entries_are (opens (plan_in s)) (plan_in s) (opened_for blank (plan_in s)) (opens_ordered (plan_in s)) (plan_in s).count;
    }

unfoldable pub read_plan : List ℕ → Read
read_plan s = record { refusal = check_answer s; table = planned s }

unfoldable pub short_plan : (s : List ℕ) → Short (read_plan s)
unfolding read_plan check_answer plan_refusal planned read_entries
short_plan s =
    with (short_entries s)
    (λ u h.
    by (λ y e. simp (ap (λ (r : Read). r.refusal) h, ap (λ (r : Read). r.table) h, tree_is) at e))

-- The causes that lie in the timetable, for a plan's table p, and all of them.
unfoldable pub short_timetable_refusal : (t p ws : List ℤ) → Short (timetable_refusal t p ws)
unfolding timetable_refusal same_shape rate
short_timetable_refusal t p ws = by (λ y e. simp (nodes_same, tree_is, place_is, week_is) at e)

unfoldable pub short_set_minute_refusal : (t : List ℤ) (known : Bool) (s : List ℕ) (plan : Read) → read_plan s ≡ plan → (ws : List ℤ) (minute : ℤ) → ShortIf (Ordered t known) (set_minute_refusal t s ws minute)
unfolding set_minute_refusal read_plan
short_set_minute_refusal t known s plan read ws minute =
    by_if
    (λ h y e.
    simp (order_is t known h, ap (λ (r : Read). r.refusal) read, ap (λ (r : Read). r.table) read, (short_timetable_refusal t plan.table ws).same) at e)

-- The table that it leaves.
unfoldable pub short_reshared : (t p ws : List ℤ) (m : ℕ) → Short (reshared_as (tree_at (tree_near p) ws m) t)
short_reshared t p ws m = record { value = reshared_near t p ws m; same = reshared_is t p ws m }

unfoldable pub short_minute_table : (t p ws : List ℤ) (m : ℕ) → Short (minute_table t p ws m)
unfolding minute_table renewed
short_minute_table t p ws m = with (short_reshared t p ws m) (λ u h. by (λ y e. simp (h, tree_is, rates_are) at e))
