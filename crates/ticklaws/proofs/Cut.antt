-- Step 3: every balance above its depth is cut to it. Afterwards no balance exceeds its depth, and floors are kept: a
-- class that is not cut keeps its balance while its children's fall, and one that is cut stands at its depth, which its
-- children's depths do not exceed.
use Prim.Native.Nat.{ℕ, ◌*◌, ◌≤◌, ◌<◌}
use mathlib.Core.Path.{◌≡◌, ap, ◌∙◌}
use mathlib.Core.Bool.{true, false, cond}
use mathlib.Core.List.{List}
use native.Mathlib.Omega.{arith}
use lib.ListN.{length}
use lib.IntN.{ℤ, pos}
use lib.Signed.{le_z}
use Rattle.numbers.specs.Whole.{plus, minus}
use Rattle.numbers.proofs.Tests.{by_test, cond_true, cond_false}
use Rattle.numbers.proofs.Parts.{zarith, one_is_zero}
use Rattle.definitions.specs.Limits.{table_length, nodes, balance_at, grain_scale}
use Rattle.definitions.specs.Places.{put, balance, depth_grains}
use Rattle.definitions.specs.Tree.{Tree, tree_of}
use Rattle.definitions.specs.Tick.{cut}
use Rattle.definitions.proofs.Facts.{InOrder}
use Rattle.treelaws.proofs.Children.{under_falls}
use Rattle.treelaws.proofs.Floors.{children_under, Levels, levels, grounds, Room, Floor, Under}
use Rattle.ticklaws.proofs.Frame.{only_frame, frame_depth, frame_grains}
use Rattle.ticklaws.proofs.Reached.{Reached, reached_long, reached_balances}
use Rattle.ticklaws.proofs.Sweep.{set_put, set_same, Swept, sweep}

-- A balance cut to a depth in grains.
unfoldable pub cut_to : ℕ → ℤ → ℤ
cut_to d b = cond (le_z b (pos d)) b (pos d)

pub cut_swept : (t : List ℤ) → length t ≡ table_length → Swept t (λ k. cut_to (depth_grains t k) (balance t k)) nodes (cut t)
unfolding cut cut_to
cut_swept t n =
    sweep t (λ k. cut_to (depth_grains t k) (balance t k))
    (λ k u. cond (le_z (balance u k) (pos (depth_grains u k))) u (put u k balance_at (pos (depth_grains u k))))
    (λ k u hk only e.
    let deep = frame_depth t u (only_frame only) k in
    rw (e, deep)
    (by_test (le_z (balance t k) (pos (depth_grains t k)))
    (λ low. rw low (set_same u k (balance t k) e))
    (λ high. rw high (set_put u k (pos (depth_grains t k)) (only.long ∙ n) hk))))

-- The cut balance, in parts: it is no higher than before, and at most the depth; where it is less than the depth, it is
-- the old one.
pub cut_low : (d : ℕ) (b : ℤ) → le_z b (pos d) ≡ true → cut_to d b ≡ b
unfolding cut_to
cut_low d b h = cond_true (le_z b (pos d)) b (pos d) h

cut_high : (d : ℕ) (b : ℤ) → le_z b (pos d) ≡ false → cut_to d b ≡ pos d
unfolding cut_to
cut_high d b h = cond_false (le_z b (pos d)) b (pos d) h

pub cut_falls : (d : ℕ) (b : ℤ) → le_z (cut_to d b) b ≡ true
cut_falls d b = by_test (le_z b (pos d)) (λ h. omega (arith, zarith, cut_low d b h)) (λ h. omega (arith, zarith, cut_high d b h))

pub cut_most : (d : ℕ) (b : ℤ) → plus (cut_to d b) ≤ d
unfolding plus minus
cut_most d b =
    by_test (le_z b (pos d))
    (λ h. omega (arith, zarith, ap plus (cut_low d b h), one_is_zero b))
    (λ h. omega (arith, ap plus (cut_high d b h)))

-- All balances cut, from B to B'.
module _ (tree : Tree) (L : Levels tree) (B B' : ℕ → ℤ) (new : (k : ℕ) → k < nodes → B' k ≡ cut_to (tree.depth k * grain_scale) (B k)) where
  pub under_cut : Under tree B'
  under_cut = record { most = λ k hk h. rw (new k hk) (cut_most (tree.depth k * grain_scale) (B k)) }

  kept_room : (k : ℕ) → k < nodes → Room tree B 0 k → B' k ≡ B k → Room tree B' 0 k
  kept_room k hk r e =
      record {
        class = λ c. omega (arith, zarith, r.class c, under_falls tree k B B' (λ j hj child. rw (new j hj) (cut_falls (tree.depth j * grain_scale) (B j))));
        client = λ c. omega (arith, zarith, r.client c);
      }

  full_room : (k : ℕ) → k < nodes → B' k ≡ pos (tree.depth k * grain_scale) → Room tree B' 0 k
  unfolding plus minus
  full_room k hk e =
      record {
        class = λ c. omega (arith, zarith, children_under tree B' L under_cut k hk c);
        client = λ c. omega (arith, zarith);
      }

  pub floor_cut : Floor tree B → Floor tree B'
  floor_cut f =
      record {
        room = λ k hk h.
            by_test (le_z (B k) (pos (tree.depth k * grain_scale)))
            (λ low. kept_room k hk (f.room k hk h) (new k hk ∙ cut_low (tree.depth k * grain_scale) (B k) low))
            (λ high. full_room k hk (new k hk ∙ cut_high (tree.depth k * grain_scale) (B k) high));
      }

cut_zero : (d : ℕ) (b : ℤ) → b ≡ pos 0 → cut_to d b ≡ pos 0
unfolding plus minus
cut_zero d b e = cut_low d b (omega (arith, zarith)) ∙ e

module _ (t u : List ℤ) (f : InOrder t) (r : Reached t u) where
  swept : Swept u (λ k. cut_to (depth_grains u k) (balance u k)) nodes (cut u)
  swept = cut_swept u (reached_long t u f r)

  new : (k : ℕ) → k < nodes → balance (cut u) k ≡ cut_to ((tree_of t).depth k * grain_scale) (balance u k)
  new k hk = swept.new k hk ∙ ap (λ d. cut_to d (balance u k)) (frame_grains t u r.frame k)

  pub cut_under : Under (tree_of t) (balance (cut u))
  cut_under = under_cut (tree_of t) (levels t (grounds t f)) (balance u) (balance (cut u)) new

  pub cut_reached : Reached t (cut u)
  cut_reached =
      reached_balances t u (cut u) r swept.only
      (floor_cut (tree_of t) (levels t (grounds t f)) (balance u) (balance (cut u)) new r.floor)
      (record { zero = λ k hk h. new k hk ∙ cut_zero ((tree_of t).depth k * grain_scale) (balance u k) (r.vacant.zero k hk h) })
