-- What a call changes that is no accepted tick: the table still agrees with the observer, and every class that stays and every
-- client that waits afterwards keeps its sort, level, depth and balance.
use Prim.Native.Nat.{ℕ, ◌+◌, ◌<◌}
use mathlib.Core.Path.{◌≡◌, refl, sym, ap, ◌∙◌}
use mathlib.Core.Bool.{Bool, true, false}
use mathlib.Core.List.{List}
use native.Mathlib.Omega.{arith}
use native.Mathlib.Decide.{ℕ_discrete}
use lib.IntN.{ℤ}
use Rattle.numbers.specs.Whole.{plus}
use Rattle.definitions.specs.Limits.{root, record_length, balance_at, waiting_at}
use Rattle.definitions.specs.Places.{place, balance, waiting}
use Rattle.definitions.specs.Tree.{is_class, is_client}
use Rattle.calllaws.proofs.Nodes.{client_same}
use Rattle.bounds.specs.Observer.{Observer}
use Rattle.bounds.specs.Counts.{waits}
use Rattle.bounds.proofs.Simulation.{Agrees}

-- Node j has the same sort, level, depth and balance before and after.
pub record Same (t u : List ℤ) (o p : Observer) (j : ℕ) : Type 0 where
  pub sort : p.tree.sort j ≡ o.tree.sort j
  pub level : p.tree.level j ≡ o.tree.level j
  pub depth : p.tree.depth j ≡ o.tree.depth j
  pub balance : balance u j ≡ balance t j

-- The table t becomes u and the observer o becomes p; `out c` says whether class c is taken out, which the root never is.
pub record Change (t u : List ℤ) (o p : Observer) (out : ℕ → Bool) : Type 0 where
  pub agrees : Agrees u p
  pub root : out root ≡ false
  pub class : (c : ℕ) → is_class o.tree c ≡ true → out c ≡ false → Same t u o p c
  pub client : (k : ℕ) → is_client p.tree k ≡ true → waits p k ≡ true → Same t u o p k

-- Where every node stays the same, and where nothing changes.
pub all_same : (t u : List ℤ) (o p : Observer) (out : ℕ → Bool) → out root ≡ false → Agrees u p → ((j : ℕ) → Same t u o p j) → Change t u o p out
all_same t u o p out stays a same = record { agrees = a; root = stays; class = λ c e h. same c; client = λ k e h. same k }

pub unchanged : (t : List ℤ) (o : Observer) → Agrees t o → Change t t o o (λ c. false)
unchanged t o a = all_same t t o o (λ c. false) refl a (λ j. record { sort = refl; level = refl; depth = refl; balance = refl })

-- The table u is t and the observer p is o, but for node k.
pub record Others (t u : List ℤ) (o p : Observer) (k : ℕ) : Type 0 where
  pub places : (j q : ℕ) → (j ≡ k → ⊥) → q < record_length → place u j q ≡ place t j q
  pub sort : (j : ℕ) → (j ≡ k → ⊥) → p.tree.sort j ≡ o.tree.sort j
  pub level : (j : ℕ) → (j ≡ k → ⊥) → p.tree.level j ≡ o.tree.level j
  pub depth : (j : ℕ) → (j ≡ k → ⊥) → p.tree.depth j ≡ o.tree.depth j
  pub asked : (j : ℕ) → (j ≡ k → ⊥) → p.asked j ≡ o.asked j
  pub sent : (j : ℕ) → (j ≡ k → ⊥) → p.sent j ≡ o.sent j

module _ (t u : List ℤ) (o p : Observer) (k : ℕ) (others : Others t u o p k) where
  pub other_same : (j : ℕ) → (j ≡ k → ⊥) → Same t u o p j
  unfolding balance
  other_same j ne = record { sort = others.sort j ne; level = others.level j ne; depth = others.depth j ne; balance = others.places j balance_at ne (omega arith) }

  pub queues : Agrees t o → (is_client p.tree k ≡ true → p.asked k ≡ p.sent k + waiting u k) → (j : ℕ) → is_client p.tree j ≡ true → p.asked j ≡ p.sent j + waiting u j
  unfolding waiting
  queues a here j e =
      elim (ℕ_discrete j k) [
        | yes same ↦ rw same (here (rw same at e))
        | no ne ↦
            omega (
              arith,
              others.asked j ne,
              others.sent j ne,
              ap plus (others.places j waiting_at ne (omega arith)),
              a.queue j (sym (client_same p.tree o.tree j (others.sort j ne)) ∙ e),
            )
      ]
