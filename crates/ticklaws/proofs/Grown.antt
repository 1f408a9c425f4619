-- Step 1: every node's balance grows by its rate. Floors are kept, since the rates of a class's children sum to at most
-- the class's rate.
use Prim.Native.Nat.{ℕ, ◌+◌, ◌≤◌, ◌<◌}
use mathlib.Core.Path.{◌≡◌, refl, ap, ◌∙◌}
use mathlib.Core.Bool.{true, false}
use mathlib.Core.List.{List}
use native.Mathlib.Omega.{arith}
use lib.ListN.{length}
use lib.IntN.{ℤ, pos, ◌+ℤ◌}
use Rattle.numbers.specs.Whole.{plus, minus}
use Rattle.numbers.proofs.Parts.{zarith, add_parts, plus_pos}
use Rattle.definitions.specs.Limits.{table_length, nodes, rate_at, balance_at}
use Rattle.definitions.specs.Places.{put, rate, balance}
use Rattle.definitions.specs.Tree.{Tree, tree_of, there, is_class, sum_under}
use Rattle.definitions.specs.Tick.{grown}
use Rattle.definitions.proofs.Facts.{InOrder}
use Rattle.treelaws.proofs.Rounding.{fair_rates}
use Rattle.treelaws.proofs.Children.{under_le, under_add}
use Rattle.treelaws.proofs.Floors.{Floor}
use Rattle.ticklaws.proofs.Frame.{only_frame, frame_rate}
use Rattle.ticklaws.proofs.Reached.{Reached, reached_first, reached_balances}
use Rattle.ticklaws.proofs.Sweep.{set_put, Swept, sweep}

pub grown_swept : (t : List ℤ) → length t ≡ table_length → Swept t (λ k. balance t k +ℤ pos (rate t k)) nodes (grown t)
unfolding grown
grown_swept t n =
    sweep t (λ k. balance t k +ℤ pos (rate t k)) (λ k u. put u k balance_at (balance u k +ℤ pos (rate u k)))
    (λ k u hk only e. rw (e, frame_rate t u (only_frame only) k) (set_put u k (balance t k +ℤ pos (rate t k)) (only.long ∙ n) hk))

-- Balances grow from B to B' by the amounts r, of which a class's children have at most the class's.
module _ (tree : Tree) (r : ℕ → ℕ) (fair : (c : ℕ) → c < nodes → is_class tree c ≡ true → sum_under tree c r ≤ r c) (B B' : ℕ → ℤ) (new : (k : ℕ) → k < nodes → B' k ≡ B k +ℤ pos (r k)) where
  grows : (k : ℕ) → k < nodes → plus (B' k) + minus (B k) ≡ minus (B' k) + (plus (B k) + r k)
  unfolding plus minus
  grows k hk = omega (arith, zarith, new k hk, add_parts (B k) (pos (r k)))

  pub floor_grown : Floor tree B → Floor tree B'
  floor_grown f =
      record {
        room = λ k hk h.
            record {
              class = λ c.
                  omega (
                    arith,
                    (f.room k hk h).class c,
                    fair k hk c,
                    grows k hk,
                    under_le tree k (λ j. plus (B' j) + minus (B j)) (λ j. minus (B' j) + (plus (B j) + r j)) (λ j hj child. omega (arith, grows j hj)),
                    under_add tree k (λ j. plus (B' j)) (λ j. minus (B j)),
                    under_add tree k (λ j. minus (B' j)) (λ j. plus (B j) + r j),
                    under_add tree k (λ j. plus (B j)) r,
                  );
              client = λ c. omega (arith, (f.room k hk h).client c, grows k hk);
            };
      }

no_rate : (t : List ℤ) → InOrder t → (k : ℕ) → k < nodes → there (tree_of t) k ≡ false → rate t k ≡ 0
unfolding rate
no_rate t f k hk h = ap plus (f.empty k hk h rate_at (omega arith)) ∙ plus_pos 0

module _ (t : List ℤ) (f : InOrder t) where
  swept : Swept t (λ k. balance t k +ℤ pos (rate t k)) nodes (grown t)
  swept = grown_swept t f.long

  pub grown_reached : Reached t (grown t)
  grown_reached =
      let first = reached_first t f in
      reached_balances t t (grown t) first swept.only
      (floor_grown (tree_of t) (rate t) (fair_rates t f) (balance t) (balance (grown t)) swept.new first.floor)
      (record { zero = λ k hk h. swept.new k hk ∙ rw (no_rate t f k hk h, first.vacant.zero k hk h) refl })
