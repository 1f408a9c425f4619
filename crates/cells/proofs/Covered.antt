-- Which cells a window covers, and what it writes there.
use Prim.Native.Nat.{ℕ, ◌+◌, ◌*◌, ◌-◌, ◌≤◌, ◌<◌, min}
use mathlib.Core.Path.{◌≡◌, refl, sym, ap, ◌∙◌}
use mathlib.Core.Bool.{Bool, true, false, cond}
use mathlib.Core.List.{List}
use native.Mathlib.Omega.{arith}
use borrow.Author.Tests.{leb-true, le-leb, ltb-true, lt-ltb, ne_eqb}
use lib.Dec.{eqb}
use lib.ListN.{length, get_or, set}
use lib.Seq.{get_or-set_same, get_or-set_other}
use lib.IntN.{ℤ}
use native.Mathlib.Decide.{ℕ_discrete}
use Rattle.numbers.proofs.Tests.{by_test, true_false, same_truth, cond_true, cond_false}
use Rattle.numbers.proofs.Every.{head_holds, rest_hold, none_left, holds_with}
use Rattle.hourlaws.specs.Windows.{window_node, window_start, window_end, covers}
use Rattle.hourlaws.proofs.Values.{cover_facts, covers_of}
use Rattle.numbers.specs.Below.{all_below}
use Rattle.numbers.proofs.All.{all_at, all_intro, all_cong}
use Rattle.definitions.specs.Tree.{test_if}
use Rattle.definitions.proofs.Facts.{test_at, at_test, test_same}
use Rattle.cells.specs.Cells.{part_minutes, cell_count, cell_at, between, cell_value, value_in, Ranged, reaches, clear_at, clear_in, FilledBy, MarkedBy}

module _ (from to x : ℕ) where
  pub between_facts : between from to x ≡ true → (from ≤ x) × (x < to)
  unfolding between
  between_facts h = (leb-true from x (head_holds _ _ h), ltb-true x to (head_holds _ _ (rest_hold _ _ h)))

  pub between_of : from ≤ x → x < to → between from to x ≡ true
  unfolding between
  between_of l h = holds_with _ _ (le-leb from x l) (holds_with _ _ (lt-ltb x to h) none_left)

  pub not_between : ((from ≤ x) × (x < to) → ⊥) → between from to x ≡ false
  not_between h = by_test (between from to x) (λ e. absurd (h (between_facts e))) (λ e. e)

-- One more cell is filled.
pub fill_more : (cells start : List ℕ) (from x v y : ℕ) → from ≤ x → x < length cells → get_or cells y 0 ≡ cond (between from x y) v (get_or start y 0) → get_or (set cells x v) y 0 ≡ cond (between from (x + 1) y) v (get_or start y 0)
fill_more cells start from x v y hx room h =
    elim (ℕ_discrete y x) [
      | yes e ↦
          (ap (λ (z : ℕ). get_or (set cells x v) z 0) e
          ∙ get_or-set_same cells x v 0 room
          ∙ sym (cond_true _ v (get_or start y 0) (between_of from (x + 1) y (omega arith) (omega arith))))
      | no ne ↦
          (get_or-set_other cells x y v 0 ne
          ∙ h
          ∙ ap (λ (b : Bool). cond b v (get_or start y 0))
          (same_truth _ _
          (λ t. let f = between_facts from x y t in between_of from (x + 1) y (omega arith) (omega arith))
          (λ t. let f = between_facts from (x + 1) y t in between_of from x y (omega arith) (omega arith))))
    ]

-- The cells of the minutes that a window covers.
pub covered_cells : (ws : List ℤ) (i first k j : ℕ) → j < part_minutes → between (cell_at (window_node ws i) (min (window_start ws i - first) part_minutes)) (cell_at (window_node ws i) (min (window_end ws i - first) part_minutes)) (cell_at k j) ≡ covers ws i k (first + j)
covered_cells ws i first k j hj =
    same_truth _ _
    (λ t. let f = between_facts _ _ (cell_at k j) t in covers_of ws i k (first + j) (record { node = omega arith; start = omega arith; end = omega arith }))
    (λ t. let f = cover_facts ws i k (first + j) t in between_of _ _ (cell_at k j) (omega arith) (omega arith))

pub cell_covered : (ws : List ℤ) (i first from to k j : ℕ) → Ranged ws i first from to → j < part_minutes → between from to (cell_at k j) ≡ covers ws i k (first + j)
cell_covered ws i first from to k j r hj = rw (r.starts, r.ends) (covered_cells ws i first k j hj)

-- The cells of a window are clear just where those of the minutes that it covers are.
pub clear_covered :
    (ws : List ℤ) (i first from to : ℕ) (cells : List ℕ) → Ranged ws i first from to → window_start ws i < window_end ws i
    → all_below (to - from) (λ x. eqb (get_or cells (from + x) 0) 0) ≡ clear_at ws first i (λ j. eqb (get_or cells (cell_at (window_node ws i) j) 0) 0)
unfolding clear_at
clear_covered ws i first from to cells r rises =
    same_truth _ _
    (λ h.
    all_intro part_minutes (λ j. test_if (covers ws i k (first + j)) (λ j. empty (cell_at k j)) j)
    (λ j hj. at_test _ _ j
    (λ c.
    let f = between_facts from to (cell_at k j) (cell_covered ws i first from to k j r hj ∙ c) in
    let there : from + (cell_at k j - from) ≡ cell_at k j = omega arith in
    ap empty (sym there) ∙ all_at (to - from) (λ x. empty (from + x)) h (cell_at k j - from) (omega arith))))
    (λ h.
    all_intro (to - from) (λ x. empty (from + x))
    (λ x hx.
    let e0 = r.starts in
    let e1 = r.ends in
    let low : k * part_minutes ≤ from = omega arith in
    let j : ℕ = from + x - k * part_minutes in
    let hj : j < part_minutes = omega arith in
    let there : cell_at k j ≡ from + x = omega arith in
    let c : covers ws i k (first + j) ≡ true = sym (cell_covered ws i first from to k j r hj) ∙ between_of from to (cell_at k j) (omega arith) (omega arith) in
    ap empty (sym there) ∙ test_at _ (λ j. empty (cell_at k j)) j (all_at part_minutes (λ j. test_if (covers ws i k (first + j)) (λ j. empty (cell_at k j)) j) h j hj) c))
  where
    k : ℕ
    k = window_node ws i

    empty : ℕ → Bool
    empty y = eqb (get_or cells y 0) 0

-- Clear by the cells is clear by the windows before, where their cells are filled.
pub clear_filled :
    (ws : List ℤ) (first i : ℕ) (cells : List ℕ) → ((k j : ℕ) → j < part_minutes → get_or cells (cell_at k j) 0 ≡ value_in ws i k (first + j))
    → clear_at ws first i (λ j. eqb (get_or cells (cell_at (window_node ws i) j) 0) 0) ≡ clear_in ws first i
unfolding clear_in clear_at
clear_filled ws first i cells h =
    all_cong part_minutes _ _ (λ j hj. test_same _ _ _ _ j j refl (ap (λ (n : ℕ). eqb n 0) (h (window_node ws i) j hj)))

-- A window that does not reach a part covers none of its minutes, and neither starts nor ends at one.
pub record Beyond (ws : List ℤ) (i first : ℕ) : Type 0 where
  pub covers : (k j : ℕ) → j < part_minutes → covers ws i k (first + j) ≡ false
  pub starts : (j : ℕ) → j < part_minutes → eqb (window_start ws i) (first + j) ≡ false
  pub ends : (j : ℕ) → j < part_minutes → eqb (window_end ws i) (first + j) ≡ false

not_reaching : (ws : List ℤ) (i first : ℕ) → window_start ws i < window_end ws i → reaches ws i first ≡ false → (j : ℕ) → j < part_minutes → (window_start ws i ≤ first + j) × (first + j ≤ window_end ws i) → ⊥
unfolding reaches
not_reaching ws i first rises h j hj inside =
    true_false
    (holds_with _ _ (le-leb first (window_end ws i) (omega arith)) (holds_with _ _ (lt-ltb (window_start ws i) (first + part_minutes) (omega arith)) none_left))
    h

pub beyond : (ws : List ℤ) (i first : ℕ) → window_start ws i < window_end ws i → reaches ws i first ≡ false → Beyond ws i first
beyond ws i first rises h =
    let outside = not_reaching ws i first rises h in
    record {
      covers = λ k j hj. by_test (covers ws i k (first + j)) (λ c. let f = cover_facts ws i k (first + j) c in absurd (outside j hj (f.start, omega arith))) (λ e. e);
      starts = λ j hj. ne_eqb (window_start ws i) (first + j) (λ e. outside j hj (omega arith, omega arith));
      ends = λ j hj. ne_eqb (window_end ws i) (first + j) (λ e. outside j hj (omega arith, omega arith));
    }

module _ (ws : List ℤ) (i first : ℕ) (far : Beyond ws i first) where
  pub beyond_filled : (cells : List ℕ) → length cells ≡ cell_count → FilledBy ws first i cells cells true
  unfolding clear_at
  beyond_filled cells long =
      record {
        long = long;
        at = λ k j hj. sym (cond_false _ (cell_value ws i) (get_or cells (cell_at k j) 0) (far.covers k j hj));
        clear = sym (all_intro part_minutes _ (λ j hj. at_test _ _ j (λ e. absurd (true_false e (far.covers (window_node ws i) j hj)))));
      }

  pub beyond_marked : (turns : List Bool) → length turns ≡ part_minutes → MarkedBy ws first i turns turns
  beyond_marked turns long = record { long = long; at = λ j hj. rw (far.starts j hj, far.ends j hj) }
