-- What one window gives, and what a list of shares has once a share is written.
use Prim.Native.Nat.{ℕ, ◌+◌, ◌<◌}
use mathlib.Core.Path.{◌≡◌, refl, sym, ◌∙◌}
use mathlib.Core.Bool.{true, false, cond}
use mathlib.Core.List.{List}
use native.Mathlib.Omega.{arith}
use native.Mathlib.Decide.{ℕ_discrete}
use lib.ListN.{length, get_or, set}
use lib.Seq.{get_or-set_same, get_or-set_other}
use lib.IntN.{ℤ}
use Rattle.numbers.specs.Whole.{plus}
use Rattle.numbers.proofs.Tests.{by_test, true_false, cond_true, cond_false}
use Rattle.numbers.proofs.All.{below_cases}
use Rattle.hourlaws.specs.Windows.{window_node_at, window_start_at, window_end_at, window_share_at, window_number, window_node, window_share, covers}
use Rattle.windows.specs.declared.Window.{Window}
use Rattle.windows.specs.Alone.{alone}
use Rattle.hourlaws.proofs.Values.{cover_facts, covers_of}

-- A window that does not cover a minute for its node covers it for none.
covers_none : (ws : List ℤ) (i k m : ℕ) → covers ws i (window_node ws i) m ≡ false → covers ws i k m ≡ false
covers_none ws i k m h =
    by_test (covers ws i k m)
    (λ e. let f = cover_facts ws i k m e in absurd (true_false (covers_of ws i (window_node ws i) m (record { node = refl; start = f.start; end = f.end })) h))
    (λ e. e)

module _ (ws : List ℤ) (i m : ℕ) (shares : List ℕ) where
  pub share_stays : (k : ℕ) → covers ws i (window_node ws i) m ≡ false → get_or shares k 0 ≡ cond (covers ws i k m) (window_share ws i) (get_or shares k 0)
  share_stays k h = sym (cond_false _ _ _ (covers_none ws i k m h))

  pub share_given : (k : ℕ) → window_node ws i < length shares → covers ws i (window_node ws i) m ≡ true → get_or (set shares (window_node ws i) (window_share ws i)) k 0 ≡ cond (covers ws i k m) (window_share ws i) (get_or shares k 0)
  share_given k room h =
      elim (ℕ_discrete k (window_node ws i)) [
        | yes e ↦ (rw e (get_or-set_same shares (window_node ws i) (window_share ws i) 0 room ∙ sym (cond_true _ _ _ h)))
        | no ne ↦
            (get_or-set_other shares (window_node ws i) k (window_share ws i) 0 ne
            ∙ sym (cond_false _ _ _ (by_test (covers ws i k m) (λ e. absurd (ne (sym (cover_facts ws i k m e).node))) (λ e. e))))
      ]

-- The share that window i gives is the one that it gives alone.
pub share_alone :
    (ws : List ℤ) (i : ℕ) (w : Window) → w.node ≡ window_number ws i window_node_at → w.start ≡ window_number ws i window_start_at → w.end ≡ window_number ws i window_end_at → w.share ≡ window_number ws i window_share_at
    → (k m old : ℕ) → cond (covers (alone w) 0 k m) (plus w.share) old ≡ cond (covers ws i k m) (window_share ws i) old
unfolding covers window_number
share_alone ws i w node start end share k m old = cc

-- Shares below k are written, and one more.
pub written_more : (shares : List ℕ) (f : ℕ → ℕ) (n v : ℕ) → n < length shares → v ≡ f n → ((k : ℕ) → k < n → get_or shares k 0 ≡ f k) → (k : ℕ) → k < n + 1 → get_or (set shares n v) k 0 ≡ f k
written_more shares f n v room e h k hk =
    below_cases n k (omega arith) (λ l. get_or-set_other shares n k v 0 (λ same. omega arith) ∙ h k l) (λ same. rw same (get_or-set_same shares n v 0 room ∙ e))
