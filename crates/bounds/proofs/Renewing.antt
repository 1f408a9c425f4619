-- A call that renews the rates: renewing leaves the tree, the disk's rate, the requests and the balances, so an observer
-- that agrees in these agrees afterwards, and a node that was the same is still the same.
use Prim.Native.Nat.{ℕ, ◌+◌}
use mathlib.Core.Path.{◌≡◌, sym, ap, ◌∙◌}
use mathlib.Core.Bool.{true}
use mathlib.Core.List.{List}
use native.Mathlib.Omega.{arith}
use lib.IntN.{ℤ}
use Rattle.numbers.specs.Whole.{plus}
use Rattle.definitions.specs.Limits.{balance_at, waiting_at}
use Rattle.definitions.specs.Places.{rate as rate_of, balance, waiting}
use Rattle.definitions.specs.Tree.{tree_of, is_client}
use Rattle.definitions.specs.Rates.{renewed}
use Rattle.definitions.specs.Order.{in_order}
use Rattle.definitions.specs.Refusals.{kept}
use Rattle.definitions.proofs.Facts.{facts}
use Rattle.definitions.proofs.Refusals.{kept_new}
use Rattle.treelaws.proofs.Renewed.{renewed_length, renewed_place, renewed_tree, renewed_disk}
use Rattle.calllaws.proofs.Ready.{root_there, root_level}
use Rattle.bounds.specs.Observer.{Observer}
use Rattle.bounds.proofs.Simulation.{Agrees}
use Rattle.bounds.proofs.Changes.{Same}

-- The contents that an accepted call leaves are in order.
pub kept_order : (refusal : ℕ) (new old : List ℤ) → refusal ≡ 0 → in_order (kept refusal new old) ≡ true → in_order new ≡ true
kept_order refusal new old h e = rw (kept_new refusal new old h) at e

-- The rates of the contents u are renewed.
module _ (u : List ℤ) (order : in_order (renewed u) ≡ true) where
  renewed_waiting : (k : ℕ) → waiting (renewed u) k ≡ waiting u k
  unfolding waiting
  renewed_waiting k = ap plus (renewed_place u k waiting_at (omega arith) (omega arith))

  pub renewed_agrees :
      (p : Observer) → tree_of u ≡ p.tree → rate_of u 0 ≡ p.disk
      → ((k : ℕ) → is_client p.tree k ≡ true → p.asked k ≡ p.sent k + waiting u k) → Agrees (renewed u) p
  renewed_agrees p tree disk queue =
      let f = facts (renewed u) order in
      record {
        order = order;
        tree = renewed_tree u ∙ tree;
        disk =
            renewed_disk u (sym (renewed_length u) ∙ f.long)
            (rw renewed_tree at (root_there (renewed u) f.root))
            (rw renewed_tree at (root_level (renewed u) f.root))
            ∙ disk;
        queue = λ k e. queue k e ∙ ap (λ (w : ℕ). p.sent k + w) (sym (renewed_waiting k));
      }

  pub renewed_same : (t : List ℤ) (o p : Observer) (j : ℕ) → Same t u o p j → Same t (renewed u) o p j
  unfolding balance
  renewed_same t o p j same = record { sort = same.sort; level = same.level; depth = same.depth; balance = renewed_place u j balance_at (omega arith) (omega arith) ∙ same.balance }
