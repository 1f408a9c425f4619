-- Shares change only where a window starts or ends. So what holds of the tree at minute 0, at each start and at each end holds at
-- every minute of the week: from one minute to the next it holds again, or the next one was tested.
use Prim.Native.Nat.{ℕ, zero, suc, ◌<◌}
use mathlib.Core.Path.{◌≡◌, refl, sym, ap, ◌∙◌}
use mathlib.Core.Bool.{Bool, true, false, cond, ◌||◌}
use mathlib.Core.List.{List}
use native.Mathlib.Omega.{arith}
use borrow.Author.Tests.{eq-eqb}
use lib.Dec.{eqb}
use lib.IntN.{ℤ}
use Rattle.numbers.specs.Below.{all_below}
use Rattle.numbers.proofs.Tests.{by_test, same_truth, true_false, or_false_left, or_false_right}
use Rattle.numbers.proofs.All.{below_cases, all_at, all_intro}
use Rattle.definitions.specs.Tree.{Tree, test_if}
use Rattle.definitions.proofs.Facts.{test_at, at_test}
use Rattle.hourlaws.specs.Windows.{week_minutes, window_count, window_start, window_end, window_share, covers, value_by, share_in, tree_at, turns_by, turn}
use Rattle.hourlaws.specs.SetMinute.{kind_within, week_within}
use Rattle.hourlaws.proofs.Values.{cover_facts, covers_of, value_none, value_suc}
use Rattle.hourlaws.proofs.SameShares.{within_same}

covers_stays : (ws : List ℤ) (i k m : ℕ) → (window_start ws i ≡ suc m → ⊥) → (window_end ws i ≡ suc m → ⊥) → covers ws i k (suc m) ≡ covers ws i k m
covers_stays ws i k m starts ends =
    same_truth _ _
    (λ h. let f = cover_facts ws i k (suc m) h in covers_of ws i k m (record { node = f.node; start = omega (arith, starts); end = omega arith }))
    (λ h. let f = cover_facts ws i k m h in covers_of ws i k (suc m) (record { node = f.node; start = omega arith; end = omega (arith, ends) }))

value_same : (ws : List ℤ) (value : ℕ → ℕ) (k a b old n : ℕ) → ((i : ℕ) → i < n → covers ws i k a ≡ covers ws i k b) → value_by ws value n k a old ≡ value_by ws value n k b old
value_same ws value k a b old zero h = value_none ws value k a old ∙ sym (value_none ws value k b old)
value_same ws value k a b old (suc n) h =
    value_suc ws value k a old n
    ∙ ap (λ (c : Bool). cond c (value n) (value_by ws value n k a old)) (h n (omega arith))
    ∙ ap (λ (x : ℕ). cond (covers ws n k b) (value n) x) (value_same ws value k a b old n (λ i l. h i (omega arith)))
    ∙ sym (value_suc ws value k b old n)

-- At a minute that is no turn no window starts or ends.
pub record NoTurn (ws : List ℤ) (i m : ℕ) : Type 0 where
  pub starts : window_start ws i ≡ m → ⊥
  pub ends : window_end ws i ≡ m → ⊥

no_turns : (ws : List ℤ) (m n : ℕ) → turns_by ws n m ≡ false → (i : ℕ) → i < n → NoTurn ws i m
unfolding turns_by
no_turns ws m zero h i l = absurd (omega arith)
no_turns ws m (suc n) h i l =
    let both = or_false_left (eqb (window_start ws n) m || eqb (window_end ws n) m) _ h in
    below_cases n i l (no_turns ws m n (or_false_right (eqb (window_start ws n) m || eqb (window_end ws n) m) _ h) i)
    (λ last.
    record {
      starts = λ e. true_false (eq-eqb _ m (rw last at e)) (or_false_left (eqb (window_start ws n) m) _ both);
      ends = λ e. true_false (eq-eqb _ m (rw last at e)) (or_false_right (eqb (window_start ws n) m) _ both);
    })

module _ (kind limit : ℕ) (tree : Tree) (ws : List ℤ) where
  abbrev within : ℕ → Bool
  within m = kind_within kind limit (tree_at tree ws m)

  stays : (m : ℕ) → turn ws (suc m) ≡ false → within (suc m) ≡ within m
  unfolding tree_at share_in turn
  stays m h =
      within_same (tree_at tree ws (suc m)) (tree_at tree ws m)
      (λ k hk.
      record {
        sort = refl;
        parent = refl;
        kind = refl;
        share =
            value_same ws (window_share ws) k (suc m) m (tree.share k) (window_count ws)
            (λ i hi. let none = no_turns ws (suc m) (window_count ws) (or_false_right (eqb (suc m) 0) _ h) i hi in covers_stays ws i k m none.starts none.ends);
      })
      kind limit

  at_every : ((m : ℕ) → m < week_minutes → turn ws m ≡ true → within m ≡ true) → (m : ℕ) → m < week_minutes → within m ≡ true
  unfolding turn
  at_every h zero hm = h zero hm refl
  at_every h (suc m) hm = by_test (turn ws (suc m)) (h (suc m) hm) (λ e. stays m e ∙ at_every h m (omega arith))

  pub decided : week_within kind limit tree ws ≡ all_below week_minutes (λ m. test_if (turn ws m) within m)
  unfolding week_within
  decided =
      same_truth _ _
      (λ h. all_intro week_minutes (λ m. test_if (turn ws m) within m) (λ m hm. at_test (turn ws m) within m (λ e. all_at week_minutes within h m hm)))
      (λ h.
      all_intro week_minutes within
      (at_every (λ m hm e. test_at (turn ws m) within m (all_at week_minutes (λ m. test_if (turn ws m) within m) h m hm) e)))
