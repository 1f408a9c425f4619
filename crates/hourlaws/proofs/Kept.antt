-- An accepted set minute leaves a table in order, of the same shape; so it is accepted again, at every minute.
use Prim.Native.Nat.{ℕ, ◌≤◌, ◌<◌}
use mathlib.Core.Path.{◌≡◌, refl, sym, ap, ◌∙◌}
use mathlib.Core.Bool.{true, false}
use mathlib.Core.List.{List, []}
use native.Mathlib.Omega.{arith}
use borrow.Author.Tests.{leb-true}
use lib.Dec.{leb}
use lib.IntN.{ℤ, pos}
use Rattle.numbers.specs.Whole.{plus, within_ℤ}
use Rattle.numbers.proofs.Tests.{by_test, true_false}
use Rattle.definitions.proofs.ShareKinds.{limit_le}
use Rattle.treelaws.specs.Renewal.{RenewsAll}
use Rattle.treelaws.proofs.Below.{renewed_by_root}
use Rattle.calllaws.proofs.OneChild.{ways_before}
use Rattle.numbers.proofs.Every.{head_holds, rest_hold, holds_with, none_left}
use Rattle.numbers.proofs.Parts.{within_parts, plus_pos, pos_of_within, same_eq, eq_same}
use Rattle.numbers.proofs.All.{all_at, all_intro}
use Rattle.definitions.specs.Limits.{nodes, root, last_node, record_length, sort_at, parent_at, kind_at, share_at, depth_at, rate_at, fixed, stated, whole_share, greatest_rate, share_limit}
use Rattle.definitions.specs.Places.{place, rate}
use Rattle.definitions.specs.Tree.{Tree, tree_of, there, is_stated}
use Rattle.definitions.specs.Rates.{kind_sum, renewed}
use Rattle.definitions.specs.Order.{in_order}
use Rattle.definitions.proofs.Facts.{InOrder, facts, root_there, root_level}
use Rattle.definitions.specs.Refusals.{kept}
use Rattle.definitions.proofs.Refusals.{kept_new}
use Rattle.treelaws.proofs.Renewed.{renewed_header, renewed_place, renewed_rate, rate_at_root}
use Rattle.calllaws.proofs.Nodes.{ready, there_same}
use Rattle.calllaws.proofs.Ready.{ready_renewed, kept_in_order}
use Rattle.hourlaws.specs.Windows.{week_minutes, last_minute, window_count, window_number, window_node_at, window_share_at, window_node, window_share, covers, window_formed, timetable, share_fits, shares_fit, share_in, tree_at}
use Rattle.hourlaws.specs.SetMinute.{planned, same_node, same_shape, kind_within, week_within, set_minute_refusal, reshared_as, minute_table, set_minute_table}
use Rattle.hourlaws.specs.Laws.{AtEveryMinute, OnlyShares}
use Rattle.hourlaws.proofs.Values.{cover_facts, value_has, value_only}
use Rattle.hourlaws.proofs.Apart.{apart_one}
use Rattle.hourlaws.proofs.Alike.{set_alike}
use Rattle.hourlaws.proofs.Reshared.{Suits, Reshared, all_reshared, suited_ready}
use Rattle.hourlaws.proofs.Passed.{Timetabled, timetabled, of_timetabled, SetMinutePassed, set_minute_passed, set_minute_accepted, planned_in_order}

-- Tables of the same shape.
pub record Shaped (t p : List ℤ) : Type 0 where
  pub sort : (k : ℕ) → k < nodes → place t k sort_at ≡ place p k sort_at
  pub parent : (k : ℕ) → k < nodes → place t k parent_at ≡ place p k parent_at
  pub depth : (k : ℕ) → k < nodes → place t k depth_at ≡ place p k depth_at
  pub disk : place t root rate_at ≡ place p root rate_at

pub shaped : (t p : List ℤ) → same_shape t p ≡ true → Shaped t p
unfolding same_shape same_node
shaped t p h =
    record {
      sort = λ k hk. same_eq _ _ (head_holds _ _ (node k hk));
      parent = λ k hk. same_eq _ _ (head_holds _ _ (rest_hold _ _ (node k hk)));
      depth = λ k hk. same_eq _ _ (head_holds _ _ (rest_hold _ _ (rest_hold _ _ (node k hk))));
      disk = same_eq _ _ (head_holds _ _ (rest_hold _ _ h));
    }
  where
    node : (k : ℕ) → k < nodes → same_node t p k ≡ true
    node = all_at nodes (same_node t p) (head_holds _ _ h)

pub of_shaped : (t p : List ℤ) → Shaped t p → same_shape t p ≡ true
unfolding same_shape same_node
of_shaped t p f =
    holds_with _ _
    (all_intro nodes (same_node t p)
    (λ k hk. holds_with _ _ (eq_same _ _ (f.sort k hk)) (holds_with _ _ (eq_same _ _ (f.parent k hk)) (holds_with _ _ (eq_same _ _ (f.depth k hk)) none_left))))
    (holds_with _ _ (eq_same _ _ f.disk) none_left)

-- What a timetable says of its windows.
pub record Window (tree : Tree) (ws : List ℤ) (i : ℕ) : Type 0 where
  pub node : within_ℤ 1 last_node (window_number ws i window_node_at) ≡ true
  pub here : there tree (window_node ws i) ≡ true

pub window_of : (tree : Tree) (ws : List ℤ) → timetable tree ws ≡ true → (i : ℕ) → i < window_count ws → Window tree ws i
unfolding timetable window_formed
window_of tree ws h i hi =
    let w3 = rest_hold _ _ (rest_hold _ _ (rest_hold _ _ (all_at (window_count ws) (window_formed tree ws) (head_holds _ _ (rest_hold _ _ h)) i hi))) in
    record { node = head_holds _ _ w3; here = head_holds _ _ (rest_hold _ _ w3) }

-- The sums at a minute.
pub within_at_law : (kind limit : ℕ) (tree : Tree) (ws : List ℤ) (m c : ℕ) → week_within kind limit tree ws ≡ true → m < week_minutes → c < nodes → kind_sum (tree_at tree ws m) kind c ≤ limit
unfolding week_within kind_within
within_at_law kind limit tree ws m c h hm hc =
    leb-true _ limit (all_at nodes (λ c. leb (kind_sum (tree_at tree ws m) kind c) limit) (all_at week_minutes (λ m. kind_within kind limit (tree_at tree ws m)) h m hm) c hc)

-- Table t, a plan's table p, both in order, and what the timetable has passed.
module _ (t p ws : List ℤ) (m : ℕ) (order : InOrder t) (plan : InOrder p) (hm : m < week_minutes) (f : Timetabled t p ws) where
  shape : Shaped t p
  shape = shaped t p f.shape

  same_sorts : (k : ℕ) → k < nodes → (tree_of p).sort k ≡ (tree_of t).sort k
  unfolding tree_of
  same_sorts k hk = ap plus (sym (shape.sort k hk))

  same_parents : (k : ℕ) → k < nodes → (tree_of p).parent k ≡ (tree_of t).parent k
  unfolding tree_of
  same_parents k hk = ap plus (sym (shape.parent k hk))

  in_plan : (k : ℕ) → k < nodes → there (tree_of p) k ≡ there (tree_of t) k
  in_plan k hk = there_same (tree_of p) (tree_of t) k (same_sorts k hk)

  -- A share that is in no window is the plan's.
  no_window : (k m : ℕ) → ((i : ℕ) → i < window_count ws → window_node ws i ≡ k → ⊥) → share_in (tree_of p) ws m k ≡ (tree_of p).share k
  unfolding share_in
  no_window k m h =
      value_has ws (window_share ws) k m ((tree_of p).share k) (λ n. n ≡ (tree_of p).share k) (window_count ws) refl
      (λ i hi c. absurd (h i hi (cover_facts ws i k m c).node))

  -- Every share is in the limits of its kind.
  in_limits : (k m : ℕ) → k < nodes → there (tree_of p) k ≡ true → (1 ≤ share_in (tree_of p) ws m k) × (share_in (tree_of p) ws m k ≤ share_limit ((tree_of p).kind k))
  unfolding share_in shares_fit share_fits tree_of
  in_limits k m hk e =
      value_has ws (window_share ws) k m ((tree_of p).share k) (λ n. (1 ≤ n) × (n ≤ share_limit ((tree_of p).kind k))) (window_count ws)
      ((within_parts _ _ _ (plan.limits k hk e).share).1, (within_parts _ _ _ (plan.limits k hk e).share).2)
      (λ i hi c.
      let at : window_node ws i ≡ k = (cover_facts ws i k m c).node in
      let fits = within_parts _ _ _ (all_at (window_count ws) (share_fits (tree_of p) ws) f.given i hi) in
      (fits.1, rw at at fits.2))

  pub suits : Suits t (tree_at (tree_of p) ws m)
  unfolding tree_at is_stated rate tree_of
  suits =
      record {
        sort = same_sorts;
        parent = same_parents;
        no_kind = λ k hk e. ap plus (plan.empty k hk (in_plan k hk ∙ e) kind_at (omega arith)) ∙ plus_pos 0;
        no_share = λ k hk e.
            no_window k m (λ i hi same. true_false (rw same at (window_of _ ws f.table i hi).here) (in_plan k hk ∙ e))
            ∙ ap plus (plan.empty k hk (in_plan k hk ∙ e) share_at (omega arith)) ∙ plus_pos 0;
        root_kind = ap plus plan.root.kind ∙ plus_pos 0;
        root_share =
            no_window 0 m (λ i hi same. omega (arith, same, within_parts 1 last_node (window_number ws i window_node_at) (window_of (tree_of p) ws f.table i hi).node))
            ∙ ap plus plan.root.share ∙ plus_pos whole_share;
        kind = λ k hk e. (within_parts fixed stated _ (plan.limits k hk (in_plan k hk ∙ e)).kind).2;
        least = λ k hk e. (in_limits k m hk (in_plan k hk ∙ e)).0;
        most = λ k hk e. (in_limits k m hk (in_plan k hk ∙ e)).1;
        shares = λ c hc. within_at_law fixed whole_share (tree_of p) ws m c f.shares hm hc;
        under = λ k hk e is. sym (same_parents k hk) ∙ plan.stated.under k hk (in_plan k hk ∙ e) is;
        fits = omega (arith, within_at_law stated (rate p root) (tree_of p) ws m root f.stated hm (omega arith), ap plus shape.disk);
      }

  edited : Reshared (tree_at (tree_of p) ws m) t nodes (reshared_as (tree_at (tree_of p) ws m) t)
  edited = all_reshared (tree_at (tree_of p) ws m) t order.long

  -- It leaves a table in order.
  pub changed : in_order (renewed (reshared_as (tree_at (tree_of p) ws m) t)) ≡ true
  changed = ready_renewed (reshared_as (tree_at (tree_of p) ws m) t) (suited_ready (tree_at (tree_of p) ws m) t _ edited suits (ready t order))

  stays : (k q : ℕ) → q < record_length → (q ≡ kind_at → ⊥) → (q ≡ share_at → ⊥) → (q ≡ rate_at → ⊥) → place (renewed (reshared_as (tree_at (tree_of p) ws m) t)) k q ≡ place t k q
  stays k q hq n3 n4 n6 = renewed_place (reshared_as (tree_at (tree_of p) ws m) t) k q hq n6 ∙ edited.rest k q hq n3 n4

  -- The disk's rate stays.
  disk_stays : place (renewed (reshared_as (tree_at (tree_of p) ws m) t)) root rate_at ≡ place t root rate_at
  unfolding rate
  disk_stays =
      let u : List ℤ = reshared_as (tree_at (tree_of p) ws m) t in
      let now = (suited_ready (tree_at (tree_of p) ws m) t u edited suits (ready t order)).root in
      renewed_rate u edited.long 0 (omega arith) (root_there u now)
      ∙ ap pos (rate_at_root (tree_of u) (rate u root) 0 (root_level u now))
      ∙ pos_of_within 1 greatest_rate (place u root rate_at) now.rate
      ∙ edited.rest 0 rate_at (omega arith) (omega arith) (omega arith)

  -- Renewing below the root renews everything.
  pub renews_below : RenewsAll (reshared_as (tree_at (tree_of p) ws m) t) root
  unfolding rate
  renews_below =
      let u : List ℤ = reshared_as (tree_at (tree_of p) ws m) t in
      let now = (suited_ready (tree_at (tree_of p) ws m) t u edited suits (ready t order)).root in
      record {
        low = omega arith;
        there = root_there u now;
        small = (within_parts 1 greatest_rate (place u root rate_at) now.rate).2;
        all = renewed_by_root u edited.long (ways_before u changed) (root_there u now) (sym (pos_of_within 1 greatest_rate (place u root rate_at) now.rate));
      }

  -- Kinds and shares are no greater than the greatest rate.
  pub small_numbers : (k : ℕ) → k < nodes → ((tree_of p).kind k ≤ greatest_rate) × (share_in (tree_of p) ws m k ≤ greatest_rate)
  unfolding tree_at
  small_numbers k hk =
      by_test (there (tree_of t) k)
      (λ e. (omega (arith, suits.kind k hk e), omega (arith, suits.most k hk e, limit_le ((tree_of p).kind k))))
      (λ e. (omega (arith, suits.no_kind k hk e), omega (arith, suits.no_share k hk e)))

  -- Only kinds, shares and rates change.
  pub only_shares : OnlyShares t (minute_table t p ws m)
  unfolding minute_table
  only_shares = record { header = λ q hq. renewed_header _ q hq ∙ edited.heading q hq; places = stays; disk = disk_stays }

  -- A number of the plan's table is the natural number that its tree has.
  plan_kind : (k : ℕ) → k < nodes → pos ((tree_of p).kind k) ≡ place p k kind_at
  unfolding tree_of
  plan_kind k hk =
      by_test (there (tree_of p) k)
      (λ e. pos_of_within fixed stated (place p k kind_at) (plan.limits k hk e).kind)
      (λ e. rw (plan.empty k hk e kind_at (omega arith)) (ap pos (plus_pos 0)))

  plan_share : (k : ℕ) → k < nodes → pos ((tree_of p).share k) ≡ place p k share_at
  unfolding tree_of
  plan_share k hk =
      by_test (there (tree_of p) k)
      (λ e. pos_of_within 1 (share_limit ((tree_of p).kind k)) (place p k share_at) (plan.limits k hk e).share)
      (λ e. rw (plan.empty k hk e share_at (omega arith)) (ap pos (plus_pos 0)))

  -- What it writes at node k.
  written_share : (k : ℕ) → k < nodes → place (minute_table t p ws m) k share_at ≡ pos (share_in (tree_of p) ws m k)
  unfolding minute_table tree_at
  written_share k hk = renewed_place _ k share_at (omega arith) (omega arith) ∙ edited.share k hk

  pub written_kind : (k : ℕ) → k < nodes → place (minute_table t p ws m) k kind_at ≡ place p k kind_at
  unfolding minute_table tree_at
  written_kind k hk = renewed_place _ k kind_at (omega arith) (omega arith) ∙ edited.kind k hk ∙ plan_kind k hk

  pub written_inside : (k i : ℕ) → k < nodes → i < window_count ws → covers ws i k m ≡ true → place (minute_table t p ws m) k share_at ≡ window_number ws i window_share_at
  unfolding share_in shares_fit share_fits timetable
  written_inside k i hk hi c =
      written_share k hk
      ∙ ap pos (value_only ws (window_share ws) k m ((tree_of p).share k) i c (window_count ws) hi (λ j hj d. apart_one ws (head_holds _ _ (rest_hold _ _ (rest_hold _ _ f.table))) i j k m hi hj c d))
      ∙ pos_of_within 1 (share_limit ((tree_of p).kind (window_node ws i))) (window_number ws i window_share_at) (all_at (window_count ws) (share_fits (tree_of p) ws) f.given i hi)

  pub written_outside : (k : ℕ) → k < nodes → ((i : ℕ) → i < window_count ws → covers ws i k m ≡ false) → place (minute_table t p ws m) k share_at ≡ place p k share_at
  unfolding share_in
  written_outside k hk none =
      written_share k hk
      ∙ ap pos (value_has ws (window_share ws) k m ((tree_of p).share k) (λ n. n ≡ (tree_of p).share k) (window_count ws) refl (λ i hi c. absurd (true_false c (none i hi))))
      ∙ plan_share k hk

  pub still_shaped : Shaped (renewed (reshared_as (tree_at (tree_of p) ws m) t)) p
  still_shaped =
      record {
        sort = λ k hk. stays k sort_at (omega arith) (omega arith) (omega arith) (omega arith) ∙ shape.sort k hk;
        parent = λ k hk. stays k parent_at (omega arith) (omega arith) (omega arith) (omega arith) ∙ shape.parent k hk;
        depth = λ k hk. stays k depth_at (omega arith) (omega arith) (omega arith) (omega arith) ∙ shape.depth k hk;
        disk = disk_stays ∙ shape.disk;
      }

-- The minute is one of the week.
pub minute_below : (minute : ℤ) → within_ℤ 0 last_minute minute ≡ true → plus minute < week_minutes
minute_below minute h = omega (arith, within_parts 0 last_minute minute h)

made : (t : List ℤ) (s : List ℕ) (ws : List ℤ) (minute : ℤ) → SetMinutePassed t s ws minute → in_order (minute_table t (planned s) ws (plus minute)) ≡ true
unfolding minute_table
made t s ws minute f =
    changed t (planned s) ws (plus minute) (facts t f.order) (planned_in_order s f.plan) (minute_below minute f.minutes) (timetabled t (planned s) ws f.timetable)

-- Accepted or not, it keeps order.
pub set_minute_keeps_order : (t : List ℤ) (s : List ℕ) (ws : List ℤ) (minute : ℤ) → in_order t ≡ true → in_order (set_minute_table t s ws minute) ≡ true
unfolding set_minute_table minute_table
set_minute_keeps_order t s ws minute = kept_in_order (set_minute_refusal t s ws minute) (minute_table t (planned s) ws (plus minute)) t (λ h. made t s ws minute (set_minute_passed t s ws minute h))

-- What is accepted at one minute is accepted at all, on that table and on the table that it leaves.
pub accepted_at_all :
    (t : List ℤ) (s : List ℕ) (ws : List ℤ) (minute other : ℤ) → set_minute_refusal t s ws minute ≡ 0 → within_ℤ 0 last_minute other ≡ true
    → AtEveryMinute t s ws minute other
unfolding set_minute_table minute_table
accepted_at_all t s ws minute other h within = record { here = here; after = again; same = same }
  where
    f : SetMinutePassed t s ws minute
    f = set_minute_passed t s ws minute h

    g : Timetabled t (planned s) ws
    g = timetabled t (planned s) ws f.timetable

    u : List ℤ
    u = minute_table t (planned s) ws (plus minute)

    left : kept (set_minute_refusal t s ws minute) u t ≡ u
    left = kept_new (set_minute_refusal t s ws minute) u t h

    here : set_minute_refusal t s ws other ≡ 0
    here = set_minute_accepted t s ws other (record { order = f.order; minutes = within; plan = f.plan; timetable = f.timetable })

    after : set_minute_refusal u s ws other ≡ 0
    after =
        set_minute_accepted u s ws other
        (record {
          order = made t s ws minute f;
          minutes = within;
          plan = f.plan;
          timetable =
              of_timetabled u (planned s) ws
              (record {
                shape = of_shaped u (planned s) (still_shaped t (planned s) ws (plus minute) (facts t f.order) (planned_in_order s f.plan) (minute_below minute f.minutes) g);
                table = g.table;
                given = g.given;
                shares = g.shares;
                stated = g.stated;
              });
        })

    again : set_minute_refusal (kept (set_minute_refusal t s ws minute) u t) s ws other ≡ 0
    again = rw left after

    same : set_minute_table (set_minute_table t s ws minute) s ws other ≡ set_minute_table t s ws other
    same = (set_alike t (set_minute_table t s ws minute) (rw left (only_shares t (planned s) ws (plus minute) (facts t f.order) (planned_in_order s f.plan) (minute_below minute f.minutes) g)) s ws other f.order (rw left (made t s ws minute f))).table here
