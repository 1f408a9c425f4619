-- What set minute tests and writes, near: only minute 0 and the minutes at which a window starts or ends are tested, and of tables with
-- few nodes only these are looked at.
use Prim.Native.Nat.{ℕ, zero, suc, ◌≤◌, ◌<◌}
use mathlib.Core.Path.{◌≡◌, refl, sym, ap, ◌∙◌, fun_ext}
use mathlib.Core.Logic.{inl, inr}
use mathlib.Core.Bool.{Bool, true, false, ◌&&◌, ◌||◌, true≢false}
use mathlib.Core.List.{List}
use native.Mathlib.Omega.{arith}
use borrow.Author.Tests.{ltb-true, lt-ltb, eqb-true, eq-eqb, ne_eqb, le-leb}
use lib.Dec.{eqb, leb, ltb}
use lib.IntN.{ℤ, pos}
use Rattle.numbers.specs.Whole.{plus, same_ℤ}
use Rattle.numbers.specs.Tests.{every}
use Rattle.numbers.specs.Below.{sum_below, all_below, for_below}
use Rattle.numbers.proofs.Tests.{same_truth, and_true, and_left, and_right, or_cases, or_true_left, or_true_right}
use Rattle.numbers.proofs.Every.{head_fails, rest_fail, none_left, holds_with}
use Rattle.numbers.proofs.Parts.{eq_same}
use Rattle.numbers.proofs.All.{below_cases, all_at, all_intro, all_cong}
use Rattle.numbers.proofs.Sums.{sum_zero}
use Rattle.numbers.proofs.Steps.{for_keeps}
use Rattle.definitions.specs.Limits.{record_length, nodes, sort_at, parent_at, kind_at, share_at, depth_at}
use Rattle.definitions.specs.Places.{place, put}
use Rattle.definitions.specs.Tree.{child_of, there, count_if, test_if, sum_under}
use Rattle.definitions.specs.Rates.{kind_share, kind_sum}
use Rattle.definitions.specs.Calls.{reshared}
use Rattle.definitions.proofs.Places.{place_put_node, put_same}
use Rattle.definitions.proofs.Facts.{test_at, at_test}
use Rattle.hourlaws.specs.Windows.{week_minutes, window_count, window_node, window_start, window_end, window_share, share_in, tree_at, turns_by, turn}
use Rattle.hourlaws.specs.SetMinute.{same_node, kind_within, week_within, reshared_as}
use Rattle.hourlaws.proofs.Values.{cover_facts, value_has}
use Rattle.hourlaws.proofs.Turns.{decided}
use Rattle.scenarios.proofs.Near.{zero_from, tree_near, bound, bound_cases, near_nodes, near_cases, all_from, sum_from, for_from, far_place, far_sort, place_is}

-- A test at a minute, where that is one of the week; at minute 0 and at each start and end of a window.
unfoldable pub at_minute : (ℕ → Bool) → ℕ → Bool
at_minute test m = test_if (ltb m week_minutes) test m

unfoldable pub at_turns : List ℤ → (ℕ → Bool) → Bool
at_turns ws test = test 0 && all_below (window_count ws) (λ i. at_minute test (window_start ws i) && at_minute test (window_end ws i))

-- A minute at which one of n windows starts or ends.
turns_at : (ws : List ℤ) (m n i : ℕ) → i < n → (eqb (window_start ws i) m || eqb (window_end ws i) m) ≡ true → turns_by ws n m ≡ true
unfolding turns_by
turns_at ws m zero i l h = absurd (omega arith)
turns_at ws m (suc n) i l h =
    below_cases n i l
    (λ l. or_true_right (eqb (window_start ws n) m || eqb (window_end ws n) m) (turns_by ws n m) (turns_at ws m n i l h))
    (λ e. or_true_left (eqb (window_start ws n) m || eqb (window_end ws n) m) (turns_by ws n m) (rw e at h))

turns_of : (P : Type 0) (ws : List ℤ) (m n : ℕ) → turns_by ws n m ≡ true → ((i : ℕ) → i < n → window_start ws i ≡ m → P) → ((i : ℕ) → i < n → window_end ws i ≡ m → P) → P
unfolding turns_by
turns_of P ws m zero h starts ends = absurd (true≢false (sym h))
turns_of P ws m (suc n) h starts ends =
    elim (or_cases (eqb (window_start ws n) m || eqb (window_end ws n) m) (turns_by ws n m) h) [
      | inl here ↦
          elim (or_cases (eqb (window_start ws n) m) (eqb (window_end ws n) m) here) [
            | inl e ↦ starts n (omega arith) (eqb-true (window_start ws n) m e)
            | inr e ↦ ends n (omega arith) (eqb-true (window_end ws n) m e)
          ]
      | inr before ↦ turns_of P ws m n before (λ i l. starts i (omega arith)) (λ i l. ends i (omega arith))
    ]

module _ (ws : List ℤ) (test : ℕ → Bool) where
  abbrev if_turn : ℕ → Bool
  if_turn m = test_if (turn ws m) test m

  abbrev of_window : ℕ → Bool
  of_window i = at_minute test (window_start ws i) && at_minute test (window_end ws i)

  -- What a test of all turns says of one minute.
  at_turn : all_below week_minutes if_turn ≡ true → (m : ℕ) → turn ws m ≡ true → at_minute test m ≡ true
  unfolding at_minute
  at_turn h m e =
      at_test (ltb m week_minutes) test m (λ l. test_at (turn ws m) test m (all_at week_minutes if_turn h m (ltb-true m week_minutes l)) e)

  at_week : (m : ℕ) → m < week_minutes → at_minute test m ≡ true → test m ≡ true
  unfolding at_minute
  at_week m l h = test_at (ltb m week_minutes) test m h (lt-ltb m week_minutes l)

  -- Only those minutes need a test.
  pub turns_are : all_below week_minutes if_turn ≡ at_turns ws test
  unfolding at_turns turn
  turns_are =
      same_truth _ _
      (λ h.
      and_true (test 0) _ (at_week 0 (omega arith) (at_turn h 0 refl))
      (all_intro (window_count ws) of_window
      (λ i l.
      and_true _ _
      (at_turn h (window_start ws i)
      (or_true_right (eqb (window_start ws i) 0) _
      (turns_at ws (window_start ws i) (window_count ws) i l (or_true_left _ _ (eq-eqb (window_start ws i) (window_start ws i) refl)))))
      (at_turn h (window_end ws i)
      (or_true_right (eqb (window_end ws i) 0) _
      (turns_at ws (window_end ws i) (window_count ws) i l (or_true_right (eqb (window_start ws i) (window_end ws i)) _ (eq-eqb (window_end ws i) (window_end ws i) refl))))))))
      (λ h.
      let windows : (i : ℕ) → i < window_count ws → of_window i ≡ true = all_at (window_count ws) of_window (and_right (test 0) _ h) in
      all_intro week_minutes if_turn
      (λ m l.
      at_test (turn ws m) test m
      (λ e.
      elim (or_cases (eqb m 0) _ e) [
        | inl z ↦ ap test (eqb-true m 0 z) ∙ and_left (test 0) _ h
        | inr turned ↦
            turns_of (test m ≡ true) ws m (window_count ws) turned
            (λ i hi s. sym (ap test s) ∙ at_week (window_start ws i) (omega arith) (and_left (at_minute test (window_start ws i)) _ (windows i hi)))
            (λ i hi s. sym (ap test s) ∙ at_week (window_end ws i) (omega arith) (and_right (at_minute test (window_start ws i)) _ (windows i hi)))
      ])))

-- The sum of shares of one kind under class c at minute m, for a plan's table p.
unfoldable pub minute_sum : (p ws : List ℤ) (m kind c : ℕ) → ℕ
minute_sum p ws m kind c = sum_below (near_nodes p) (λ k. count_if (child_of (tree_near p) c k) (kind_share (tree_at (tree_near p) ws m) kind) k)

minute_sum_law : (p ws : List ℤ) (m kind c : ℕ) → kind_sum (tree_at (tree_near p) ws m) kind c ≡ minute_sum p ws m kind c
unfolding minute_sum kind_sum sum_under tree_at child_of there count_if every
minute_sum_law p ws m kind c =
    let g : ℕ → ℕ = λ k. count_if (child_of (tree_near p) c k) (kind_share (tree_at (tree_near p) ws m) kind) k in
    near_cases p (λ n. sum_below nodes g ≡ sum_below n g) (λ b hb h. sum_from b g (λ k far. rw (far_sort p b k h far)) nodes hb) refl

-- Whether the first b nodes of a plan's table p have parents among these; how many numbers can be a parent's.
unfoldable pub parents_below : List ℤ → ℕ → Bool
parents_below p b = all_below b (λ k. ltb ((tree_near p).parent k) b)

unfoldable pub near_classes : List ℤ → ℕ
near_classes p = bound (λ b. zero_from b p && parents_below p b)

-- A far number has no children there.
no_child : (p : List ℤ) (b c k : ℕ) → parents_below p b ≡ true → b ≤ c → k < b → child_of (tree_near p) c k ≡ false
unfolding parents_below child_of
no_child p b c k h far near =
    let below = ltb-true ((tree_near p).parent k) b (all_at b (λ k. ltb ((tree_near p).parent k) b) h k near) in
    rest_fail _ _ (rest_fail _ _ (head_fails _ _ (ne_eqb ((tree_near p).parent k) c (omega arith))))

minute_none : (p ws : List ℤ) (m kind b c : ℕ) → (zero_from b p && parents_below p b) ≡ true → b ≤ nodes → b ≤ c → minute_sum p ws m kind c ≡ 0
unfolding kind_sum sum_under tree_at child_of there count_if every
minute_none p ws m kind b c h hb far =
    let g : ℕ → ℕ = λ k. count_if (child_of (tree_near p) c k) (kind_share (tree_at (tree_near p) ws m) kind) k in
    sym (minute_sum_law p ws m kind c)
    ∙ sum_from b g (λ k away. rw (far_sort p b k (and_left _ _ h) away)) nodes hb
    ∙ sum_zero b g (λ k near. ap (λ (t : Bool). count_if t (kind_share (tree_at (tree_near p) ws m) kind) k) (no_child p b c k (and_right (zero_from b p) _ h) far near))

-- Whether the shares of one kind are within a limit at minute m, and at every minute of the week.
unfoldable pub within_near : (kind limit : ℕ) (p ws : List ℤ) (m : ℕ) → Bool
within_near kind limit p ws m = all_below (near_classes p) (λ c. leb (minute_sum p ws m kind c) limit)

within_is : (kind limit : ℕ) (p ws : List ℤ) (m : ℕ) → kind_within kind limit (tree_at (tree_near p) ws m) ≡ within_near kind limit p ws m
unfolding kind_within within_near near_classes
within_is kind limit p ws m =
    let near : ℕ → Bool = λ c. leb (minute_sum p ws m kind c) limit in
    all_cong nodes _ near (λ c l. ap (λ (n : ℕ). leb n limit) (minute_sum_law p ws m kind c))
    ∙ bound_cases (λ b. zero_from b p && parents_below p b) (λ n. all_below nodes near ≡ all_below n near)
    (λ b hb h. all_from b near (λ c far. le-leb _ limit (omega (arith, minute_none p ws m kind b c h hb far))) nodes hb)
    refl

unfoldable pub week_near : (kind limit : ℕ) (p ws : List ℤ) → Bool
week_near kind limit p ws = at_turns ws (within_near kind limit p ws)

pub week_is : (kind limit : ℕ) (p ws : List ℤ) → week_within kind limit (tree_near p) ws ≡ week_near kind limit p ws
unfolding week_near
week_is kind limit p ws = decided kind limit (tree_near p) ws ∙ turns_are ws (λ m. kind_within kind limit (tree_at (tree_near p) ws m)) ∙ ap (at_turns ws) (fun_ext (within_is kind limit p ws))

-- Whether all windows are of the first b nodes; up to which node the shares of a minute are written into table t, for a plan's table p.
unfoldable pub windows_below : List ℤ → ℕ → Bool
windows_below ws b = all_below (window_count ws) (λ i. ltb (window_node ws i) b)

unfoldable pub near_shares : (t p ws : List ℤ) → ℕ
near_shares t p ws = bound (λ b. zero_from b t && (zero_from b p && windows_below ws b))

-- Node k with the kind and share that it has at minute m.
unfoldable pub shares_at : (p ws : List ℤ) (m k : ℕ) → List ℤ → List ℤ
shares_at p ws m k u = reshared u k (pos ((tree_at (tree_near p) ws m).kind k)) (pos ((tree_at (tree_near p) ws m).share k))

unfoldable pub reshared_near : (t p ws : List ℤ) (m : ℕ) → List ℤ
reshared_near t p ws m = for_below (near_shares t p ws) (shares_at p ws m) t

-- The places from node b on are zero.
FarZero : ℕ → List ℤ → Type 0
FarZero b u = (k q : ℕ) → b ≤ k → q < record_length → place u k q ≡ pos 0

zero_put : (b : ℕ) (u : List ℤ) (k q : ℕ) → FarZero b u → b ≤ k → q < record_length → put u k q (pos 0) ≡ u
unfolding FarZero
zero_put b u k q h far l = ap (put u k q) (sym (h k q far l)) ∙ put_same u k q

module _ (p ws : List ℤ) (m b : ℕ) where
  near_keeps : (k : ℕ) (u : List ℤ) → k < b → FarZero b u → FarZero b (shares_at p ws m k u)
  unfolding FarZero shares_at reshared
  near_keeps k u near h j q far l =
      place_put_node _ k share_at _ j q (omega arith) l (omega arith) ∙ place_put_node u k kind_at _ j q (omega arith) l (omega arith) ∙ h j q far l

  far_kind : (k : ℕ) → zero_from b p ≡ true → b ≤ k → (tree_at (tree_near p) ws m).kind k ≡ 0
  unfolding tree_at tree_near plus
  far_kind k h far = rw (sym (place_is p k kind_at) ∙ far_place p b k kind_at h far)

  far_share : (k : ℕ) → zero_from b p ≡ true → windows_below ws b ≡ true → b ≤ k → (tree_at (tree_near p) ws m).share k ≡ 0
  unfolding tree_at tree_near share_in plus windows_below
  far_share k h near far =
      value_has ws (window_share ws) k m _ (λ v. v ≡ 0) (window_count ws) (ap plus (sym (place_is p k share_at) ∙ far_place p b k share_at h far))
      (λ i l c.
      absurd
      (omega (arith, (cover_facts ws i k m c).node, ltb-true (window_node ws i) b (all_at (window_count ws) (λ i. ltb (window_node ws i) b) near i l))))

  far_same : (k : ℕ) (u : List ℤ) → zero_from b p ≡ true → windows_below ws b ≡ true → FarZero b u → b ≤ k → shares_at p ws m k u ≡ u
  unfolding shares_at reshared
  far_same k u hp hw h far =
      rw (far_kind k hp far, far_share k hp hw far)
      (ap (λ (v : List ℤ). put v k share_at (pos 0)) (zero_put b u k kind_at h far (omega arith)) ∙ zero_put b u k share_at h far (omega arith))

pub reshared_is : (t p ws : List ℤ) (m : ℕ) → reshared_as (tree_at (tree_near p) ws m) t ≡ reshared_near t p ws m
unfolding reshared_as reshared_near near_shares shares_at FarZero
reshared_is t p ws m =
    let f : ℕ → List ℤ → List ℤ = shares_at p ws m in
    bound_cases (λ b. zero_from b t && (zero_from b p && windows_below ws b)) (λ n. for_below nodes f t ≡ for_below n f t)
    (λ b hb h.
    let both = and_right (zero_from b t) (zero_from b p && windows_below ws b) h in
    let zeros : FarZero b t = λ k q far l. far_place t b k q (and_left (zero_from b t) _ h) far in
    for_from b f t
    (λ k far.
    far_same p ws m b k _ (and_left (zero_from b p) (windows_below ws b) both) (and_right (zero_from b p) (windows_below ws b) both)
    (for_keeps (FarZero b) b f (λ k u l. near_keeps p ws m b k u l) t zeros)
    far)
    nodes
    hb)
    refl

-- Whether the nodes of tables t and p are the same.
unfoldable pub nodes_near : (t p : List ℤ) → Bool
nodes_near t p = all_below (bound (λ b. zero_from b t && zero_from b p)) (same_node t p)

far_node : (t p : List ℤ) (b k : ℕ) → (zero_from b t && zero_from b p) ≡ true → b ≤ k → same_node t p k ≡ true
unfolding same_node
far_node t p b k h far =
    holds_with _ _ (zeros sort_at) (holds_with _ _ (zeros parent_at) (holds_with _ _ (zeros depth_at) none_left))
  where
    zeros : (q : ℕ) → same_ℤ (place t k q) (place p k q) ≡ true
    zeros q = eq_same _ _ (far_place t b k q (and_left (zero_from b t) _ h) far ∙ sym (far_place p b k q (and_right (zero_from b t) _ h) far))

pub nodes_same : (t p : List ℤ) → all_below nodes (same_node t p) ≡ nodes_near t p
unfolding nodes_near
nodes_same t p =
    bound_cases (λ b. zero_from b t && zero_from b p) (λ n. all_below nodes (same_node t p) ≡ all_below n (same_node t p))
    (λ b hb h. all_from b (same_node t p) (λ k far. far_node t p b k h far) nodes hb)
    refl
