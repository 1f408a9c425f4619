-- One pass over the nodes that writes each node's balance: afterwards node k shows the new balance w k, and nothing but
-- balances has changed.
use Prim.Native.Nat.{ℕ, ◌≤◌, ◌<◌}
use mathlib.Core.Path.{◌≡◌, refl, ◌∙◌}
use mathlib.Core.List.{List}
use native.Mathlib.Omega.{arith}
use lib.ListN.{length}
use lib.IntN.{ℤ}
use Rattle.numbers.specs.Below.{for_below}
use Rattle.numbers.proofs.All.{below_cases}
use Rattle.numbers.proofs.Steps.{for_reaches}
use Rattle.definitions.specs.Limits.{table_length, nodes, balance_at}
use Rattle.definitions.specs.Places.{put, balance}
use Rattle.definitions.proofs.Places.{place_put_same, place_put_node}
use Rattle.ticklaws.proofs.Frame.{OnlyBalances, only_refl, only_put, only_trans}

-- Node k's balance is now z, and nothing else has changed.
pub record Set (u v : List ℤ) (k : ℕ) (z : ℤ) : Type 0 where
  pub only : OnlyBalances u v
  pub new : balance v k ≡ z
  pub others : (j : ℕ) → (j ≡ k → ⊥) → balance v j ≡ balance u j

pub set_put : (u : List ℤ) (k : ℕ) (z : ℤ) → length u ≡ table_length → k < nodes → Set u (put u k balance_at z) k z
unfolding balance
set_put u k z n hk =
    record {
      only = only_put u k z;
      new = place_put_same u k balance_at z n hk (omega arith);
      others = λ j ne. place_put_node u k balance_at z j balance_at (omega arith) (omega arith) ne;
    }

pub set_same : (u : List ℤ) (k : ℕ) (z : ℤ) → balance u k ≡ z → Set u u k z
set_same u k z e = record { only = only_refl u; new = e; others = λ j ne. refl }

pub record Swept (t : List ℤ) (w : ℕ → ℤ) (n : ℕ) (u : List ℤ) : Type 0 where
  pub only : OnlyBalances t u
  pub new : (k : ℕ) → k < n → balance u k ≡ w k
  pub rest : (k : ℕ) → n ≤ k → balance u k ≡ balance t k

pub sweep : (t : List ℤ) (w : ℕ → ℤ) (f : ℕ → List ℤ → List ℤ) → ((k : ℕ) (u : List ℤ) → k < nodes → OnlyBalances t u → balance u k ≡ balance t k → Set u (f k u) k (w k)) → Swept t w nodes (for_below nodes f t)
sweep t w f each =
    for_reaches (Swept t w) nodes f
    (λ k u hk s.
    let o = each k u hk s.only (s.rest k (omega arith)) in
    record {
      only = only_trans s.only o.only;
      new = λ j hj. below_cases k j hj (λ l. o.others j (λ e. omega arith) ∙ s.new j l) (λ e. rw e o.new);
      rest = λ j hj. o.others j (λ e. omega arith) ∙ s.rest j (omega arith);
    })
    t
    (record { only = only_refl t; new = λ k h. absurd (omega arith); rest = λ k h. refl })
