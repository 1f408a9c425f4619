-- What is summed over the children of a class: shares of a kind, depths, rates, and both parts of the balances.
use Rattle.std.specs.Prelude.{ℕ, ◌+◌, ◌*◌, ◌≤◌, ◌<◌, ◌^◌, ◌≡◌, true, List, length, get_or, ℤ}
use Rattle.numbers.specs.Whole.{plus, minus}
use Rattle.numbers.specs.Below.{sum_below}
use Rattle.definitions.specs.Limits.{nodes, root, kinds, greatest_rate}
use Rattle.definitions.specs.Places.{rate, balance}
use Rattle.definitions.specs.Tree.{Tree, tree_of, there, child_of, count_if}
use Rattle.definitions.specs.Rates.{kind_share}
use Rattle.sums.specs.declared.Summand.{Summand}
use Rattle.sums.specs.declared.Summand.TheVariants.{Shares, Depths, Rates, Credits, Debts}

-- The summand of node k.
unfoldable pub term : Summand → List ℤ → ℕ → ℕ
term (Shares kind) t k = kind_share (tree_of t) kind k
term Depths t k = (tree_of t).depth k
term Rates t k = rate t k
term Credits t k = plus (balance t k)
term Debts t k = minus (balance t k)

-- Every node that is there, but for the root, has a parent below 64 and a summand of at most 2^57, so that 64 of them
-- fit 64 bits.
pub record Summable (which : Summand) (t : List ℤ) : Type 0 where
  pub parent : (k : ℕ) → k < nodes → there (tree_of t) k ≡ true → (k ≡ root → ⊥) → (tree_of t).parent k < nodes
  pub small : (k : ℕ) → k < nodes → there (tree_of t) k ≡ true → (k ≡ root → ⊥) → term which t k ≤ 2 ^ 57

-- The sum under class c of the nodes below n.
unfoldable pub under_below : ℕ → Tree → ℕ → (ℕ → ℕ) → ℕ
under_below n tree c f = sum_below n (λ k. count_if (child_of tree c k) f k)

-- A list has these sums for each class.
pub record SumsBelow (which : Summand) (t : List ℤ) (n : ℕ) (sums : List ℕ) : Type 0 where
  pub long : length sums ≡ nodes
  pub at : (c : ℕ) → c < nodes → get_or sums c 0 ≡ under_below n (tree_of t) c (term which t)

-- Every node that is there, but for the root, has a parent below 64, one of the three kinds, and a share of at most the
-- greatest rate.
pub record Shareable (tree : Tree) : Type 0 where
  pub parent : (k : ℕ) → k < nodes → there tree k ≡ true → (k ≡ root → ⊥) → tree.parent k < nodes
  pub kind : (k : ℕ) → k < nodes → there tree k ≡ true → (k ≡ root → ⊥) → tree.kind k < kinds
  pub small : (k : ℕ) → k < nodes → there tree k ≡ true → (k ≡ root → ⊥) → tree.share k ≤ greatest_rate

-- How many sums of shares there are, and where the sum of one kind under class c stands among them.
abbrev pub share_sums : ℕ
share_sums = kinds * nodes

abbrev pub sum_at : ℕ → ℕ → ℕ
sum_at c kind = kind * nodes + c

-- A list has the sums of the shares of each kind under each class, of the nodes below n.
pub record ShareSums (tree : Tree) (n : ℕ) (sums : List ℕ) : Type 0 where
  pub long : length sums ≡ share_sums
  pub at : (c kind : ℕ) → c < nodes → kind < kinds → get_or sums (sum_at c kind) 0 ≡ under_below n tree c (kind_share tree kind)
