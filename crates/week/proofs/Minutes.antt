-- From the cells of the parts to the week.
use Prim.Native.Nat.{ℕ, zero, suc, ◌+◌, ◌*◌, ◌-◌, ◌/◌, ◌%◌, ◌≤◌, ◌<◌}
use mathlib.Core.Path.{◌≡◌, refl, sym, ◌∙◌}
use mathlib.Core.Bool.{Bool, true, false, cond}
use mathlib.Core.List.{List}
use native.Mathlib.Omega.{arith}
use borrow.Author.Tests.{eqb-true, eq-eqb, ne_eqb}
use lib.Dec.{eqb}
use lib.ListN.{get_or}
use lib.IntN.{ℤ}
use Rattle.numbers.specs.Below.{all_below}
use Rattle.numbers.proofs.Tests.{by_test, same_truth, true_false, cond_true, cond_false}
use Rattle.numbers.proofs.Parts.{within_parts}
use Rattle.numbers.proofs.All.{below_cases, all_at, all_intro, all_cong}
use Rattle.definitions.specs.Limits.{greatest_rate, share_limit}
use Rattle.definitions.proofs.ShareKinds.{limit_le}
use Rattle.definitions.specs.Tree.{Tree, tree_of, test_if}
use Rattle.definitions.proofs.Facts.{test_at, at_test, test_same}
use Rattle.hourlaws.specs.Windows.{week_minutes, window_count, window_number, window_share_at, window_node, window_share, covers, value_by, apart, share_fits, shares_fit, share_in, tree_at, turn}
use Rattle.hourlaws.specs.SetMinute.{kind_within, week_within}
use Rattle.hourlaws.proofs.Values.{Covers, cover_facts, covers_of, value_none, value_suc, value_has}
use Rattle.hourlaws.proofs.SameShares.{within_same}
use Rattle.hourlaws.proofs.Turns.{decided}
use Rattle.hourlaws.proofs.Apart.{apart_at, apart_of}
use Rattle.windows.specs.Timed.{Timed}
use Rattle.cells.specs.Cells.{part_minutes, week_parts, cell_at, cell_value, value_in, clear_at, clear_in}
use Rattle.week.specs.Week.{cell_share, cell_tree, Small, within_marked, within_at}

-- No window below n covers a minute whose cell is 0, and the cell of a minute that none covers is 0.
module _ (ws : List ℤ) (k m : ℕ) where
  filled_some : (n : ℕ) → value_in ws n k m ≡ 0 → (i : ℕ) → i < n → covers ws i k m ≡ true → ⊥
  unfolding value_in cell_value
  filled_some zero h i l c = omega arith
  filled_some (suc n) h i l c =
      let last = value_suc ws (cell_value ws) k m 0 n in
      by_test (covers ws n k m)
      (λ e. omega (arith, h, last, cond_true _ (cell_value ws n) (value_by ws (cell_value ws) n k m 0) e))
      (λ e.
      below_cases n i l
      (λ b. filled_some n (sym (cond_false _ (cell_value ws n) (value_by ws (cell_value ws) n k m 0) e) ∙ sym last ∙ h) i b c)
      (λ same. true_false (rw same at c) e))

  filled_none : (n : ℕ) → ((i : ℕ) → i < n → covers ws i k m ≡ true → ⊥) → value_in ws n k m ≡ 0
  unfolding value_in
  filled_none n h = value_has ws (cell_value ws) k m 0 (λ v. v ≡ 0) n refl (λ i hi c. absurd (h i hi c))

  -- A cell is at most the greatest rate and one more.
  pub filled_small : (n : ℕ) → value_in ws n k m ≤ greatest_rate + 1
  unfolding value_in cell_value
  filled_small n = value_has ws (cell_value ws) k m 0 (λ v. v ≤ greatest_rate + 1) n (omega arith) (λ i hi c. omega arith)

  -- Where the shares of the windows are in their limits, the share that a cell shows is the one at the minute.
  pub filled_share : (old n : ℕ) → ((i : ℕ) → i < n → window_share ws i ≤ greatest_rate) → cond (eqb (value_in ws n k m) 0) old (value_in ws n k m - 1) ≡ value_by ws (window_share ws) n k m old
  unfolding value_in cell_value
  filled_share old zero h = rw (value_none ws (cell_value ws) k m 0, value_none ws (window_share ws) k m old)
  filled_share old (suc n) h =
      by_test (covers ws n k m)
      (λ e.
      rw (value_suc ws (cell_value ws) k m 0 n, value_suc ws (window_share ws) k m old n, cond_true _ (cell_value ws n) (value_by ws (cell_value ws) n k m 0) e, cond_true _ (window_share ws n) (value_by ws (window_share ws) n k m old) e)
      (cond_false _ old _ (ne_eqb (cell_value ws n) 0 (λ z. omega arith)) ∙ omega (arith, h n (omega arith))))
      (λ e.
      rw (value_suc ws (cell_value ws) k m 0 n, value_suc ws (window_share ws) k m old n, cond_false _ (cell_value ws n) (value_by ws (cell_value ws) n k m 0) e, cond_false _ (window_share ws n) (value_by ws (window_share ws) n k m old) e)
      (filled_share old n (λ i hi. h i (omega arith))))

-- No two windows overlap just where each is clear in each part.
module _ (ws : List ℤ) (timed : (i : ℕ) → i < window_count ws → Timed ws i) where
  clear_minute : ((b : ℕ) → b < week_parts → (i : ℕ) → i < window_count ws → clear_in ws (b * part_minutes) i ≡ true) → (i : ℕ) → i < window_count ws → (m : ℕ) → Covers ws i (window_node ws i) m → (j : ℕ) → j < i → covers ws j (window_node ws i) m ≡ true → ⊥
  unfolding clear_in clear_at
  clear_minute h i hi m a j hj c =
      let b = cover_facts ws j (window_node ws i) m c in
      let end = (timed i hi).ends in
      filled_some ws (window_node ws i) (m / part_minutes * part_minutes + m % part_minutes) i
      (eqb-true _ 0
      (test_at _ (λ l. eqb (value_in ws i (window_node ws i) (m / part_minutes * part_minutes + l)) 0) (m % part_minutes)
      (all_at part_minutes (λ l. test_if (covers ws i (window_node ws i) (m / part_minutes * part_minutes + l)) (λ l. eqb (value_in ws i (window_node ws i) (m / part_minutes * part_minutes + l)) 0) l)
      (h (m / part_minutes) (omega arith) i hi) (m % part_minutes) (omega arith))
      (covers_of ws i (window_node ws i) (m / part_minutes * part_minutes + m % part_minutes) (record { node = refl; start = omega arith; end = omega arith }))))
      j hj
      (covers_of ws j (window_node ws i) (m / part_minutes * part_minutes + m % part_minutes) (record { node = b.node; start = omega arith; end = omega arith }))

  minute_clear : apart ws ≡ true → (first i : ℕ) → i < window_count ws → clear_in ws first i ≡ true
  unfolding clear_in clear_at
  minute_clear h first i hi =
      all_intro part_minutes _
      (λ l hl. at_test (covers ws i (window_node ws i) (first + l)) (λ l. eqb (value_in ws i (window_node ws i) (first + l)) 0) l
      (λ c. eq-eqb _ 0 (filled_none ws (window_node ws i) (first + l) i (apart_at ws h i hi (window_node ws i) (first + l) (cover_facts ws i (window_node ws i) (first + l) c)))))

  pub parts_apart : all_below week_parts (λ b. all_below (window_count ws) (clear_in ws (b * part_minutes))) ≡ apart ws
  parts_apart =
      same_truth _ _
      (λ h. apart_of ws (λ i hi. (timed i hi).rises) (clear_minute (λ b hb i hi. all_at (window_count ws) (clear_in ws (b * part_minutes)) (all_at week_parts (λ b. all_below (window_count ws) (clear_in ws (b * part_minutes))) h b hb) i hi)))
      (λ h. all_intro week_parts (λ b. all_below (window_count ws) (clear_in ws (b * part_minutes))) (λ b hb. all_intro (window_count ws) (clear_in ws (b * part_minutes)) (minute_clear h (b * part_minutes))))

-- Cells that the windows have filled, and turns that are marked.
module _ (t ws : List ℤ) (first : ℕ) (cells : List ℕ) (h : (k j : ℕ) → j < part_minutes → get_or cells (cell_at k j) 0 ≡ value_in ws (window_count ws) k (first + j)) where
  pub cells_small : Small cells
  cells_small k j hk hj = rw (h k j hj) (filled_small ws k (first + j) (window_count ws))

  shares : shares_fit (tree_of t) ws ≡ true → (k j : ℕ) → j < part_minutes → cell_share (tree_of t) cells j k ≡ share_in (tree_of t) ws (first + j) k
  unfolding cell_share share_in shares_fit share_fits
  shares fit k j hj =
      rw (h k j hj)
      (filled_share ws k (first + j) ((tree_of t).share k) (window_count ws)
      (λ i hi.
      let f = within_parts 1 (share_limit ((tree_of t).kind (window_node ws i))) (window_number ws i window_share_at) (all_at (window_count ws) (share_fits (tree_of t) ws) fit i hi) in
      omega (arith, limit_le ((tree_of t).kind (window_node ws i)))))

  pub cells_within :
      (turns : List Bool) → ((j : ℕ) → j < part_minutes → get_or turns j false ≡ turn ws (first + j)) → (kind limit : ℕ) → shares_fit (tree_of t) ws ≡ true
      → all_below part_minutes (within_marked kind limit (tree_of t) cells turns) ≡ all_below part_minutes (λ j. within_at kind limit (tree_of t) ws (first + j))
  unfolding within_marked within_at cell_tree tree_at
  cells_within turns marked kind limit fit =
      all_cong part_minutes (within_marked kind limit (tree_of t) cells turns) (λ j. within_at kind limit (tree_of t) ws (first + j))
      (λ j hj.
      test_same (get_or turns j false) (turn ws (first + j)) (λ j. kind_within kind limit (cell_tree (tree_of t) cells j)) (λ m. kind_within kind limit (tree_at (tree_of t) ws m)) j (first + j) (marked j hj)
      (within_same (cell_tree (tree_of t) cells j) (tree_at (tree_of t) ws (first + j)) (λ k hk. record { sort = refl; parent = refl; kind = refl; share = shares fit k j hj }) kind limit))

-- The minutes that are turns decide the week.
pub week_decided : (kind limit : ℕ) (tree : Tree) (ws : List ℤ) → all_below week_minutes (within_at kind limit tree ws) ≡ week_within kind limit tree ws
unfolding within_at
week_decided kind limit tree ws = sym (decided kind limit tree ws)
