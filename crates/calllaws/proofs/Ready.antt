-- Renewing the rates of a ready table gives a table in order: the rates are those of the rates section, and nothing else
-- that a table in order asks for reads a rate but the root's.
use Prim.Native.Nat.{ℕ, suc, ◌+◌, ◌<◌}
use mathlib.Core.Path.{◌≡◌, ap, ◌∙◌}
use mathlib.Core.Bool.{true}
use mathlib.Core.List.{List}
use native.Mathlib.Omega.{arith}
use native.Mathlib.Decide.{ℕ_discrete}
use lib.ListN.{length}
use lib.IntN.{ℤ, pos}
use Rattle.numbers.specs.Whole.{plus, minus}
use Rattle.numbers.proofs.Parts.{zarith, pos_of_within}
use Rattle.numbers.proofs.Sums.{sum_ℤ_cong}
use Rattle.definitions.specs.Limits.{table_length, header_length, nodes, rate_at, balance_at, waiting_at, arrival_at, root, greatest_rate}
use Rattle.definitions.specs.Places.{queue_place, place, header, count, rate, balance, waiting, arrival}
use Rattle.definitions.specs.Tree.{tree_of}
use Rattle.definitions.specs.Rates.{renewed}
use Rattle.definitions.specs.Order.{child_balance, child_balances, in_order}
use Rattle.definitions.specs.Refusals.{kept}
use Rattle.definitions.proofs.Facts.{Root, Class, Stated, stated_kept, from_facts}
use Rattle.definitions.proofs.Refusals.{kept_new, kept_old}
use Rattle.treelaws.proofs.Renewed.{renewed_length, renewed_header, renewed_place, renewed_unused, renewed_tree, renewed_rate, renewed_disk, renewed_rates, rate_at_root}
pub use Rattle.definitions.proofs.Facts.{root_there, root_level}
use Rattle.calllaws.proofs.Nodes.{Ready, ready_in_order, SameRecord, Sums, node_kept, differ_kept, most_waiting_law, root_kept}

-- Tables with the same tree and the same balances have the same sums of balances.
pub same_balances : (t u : List ℤ) (c : ℕ) → tree_of u ≡ tree_of t → ((k : ℕ) → k < nodes → place u k balance_at ≡ place t k balance_at) → child_balances u c ≡ child_balances t c
unfolding child_balances child_balance balance
same_balances t u c trees h = sum_ℤ_cong nodes _ _ (λ k hk. rw (trees, h k hk))

-- So their sums are within limits alike.
pub same_sums : (t u : List ℤ) (c : ℕ) → tree_of u ≡ tree_of t → ((k : ℕ) → k < nodes → place u k balance_at ≡ place t k balance_at) → Class t c → Sums t u c
same_sums t u c trees h f =
    record {
      shares = rw trees f.shares;
      depths = rw trees f.depths;
      balances = let e = same_balances t u c trees h in omega (arith, zarith, ap plus e, ap minus e);
    }

-- A table that differs from a ready one at most in the rates of nodes that are there is ready if its root is, and its stated
-- rates.
pub ready_but_rates : (t u : List ℤ) → Ready t → length u ≡ table_length → ((p : ℕ) → p < header_length → header u p ≡ header t p) → ((j : ℕ) → SameRecord t u j) → tree_of u ≡ tree_of t → Root u → Stated u → Ready u
unfolding count waiting arrival
ready_but_rates t u f long headers same trees root stated =
    record {
      long = long;
      counted = rw (headers 0 (omega arith)) f.counted;
      heading = λ p hp. headers (suc p) (omega arith) ∙ f.heading p hp;
      root = root;
      node = λ j hj.
          node_kept t u j (omega (arith, ap plus (headers 0 (omega arith)))) (same j)
          (λ e ne child. rw trees child)
          (λ e. same_sums t u j trees (λ k hk. (same k).places balance_at (omega arith) (omega arith)) ((f.node j hj).class e))
          (f.node j hj);
      differ =
          differ_kept t u
          (λ k hk. ap plus ((same k).places waiting_at (omega arith) (omega arith)))
          (λ k hk i hi. ap plus ((same k).places (queue_place i + arrival_at) (omega (arith, most_waiting_law t k (f.node k hk))) (omega arith)))
          f;
      stated = stated;
    }

-- The root keeps the disk's rate.
renewed_root : (t : List ℤ) → length t ≡ table_length → Root t → Root (renewed t)
unfolding rate
renewed_root t long f = root_kept t (renewed t) (λ p hp. renewed_place t 0 p (omega arith) (omega arith)) (rw disk f.rate) f
  where
    disk : place (renewed t) root rate_at ≡ place t root rate_at
    disk =
        renewed_rate t long 0 (omega arith) (root_there t f)
        ∙ ap pos (rate_at_root (tree_of t) (rate t root) 0 (root_level t f))
        ∙ pos_of_within 1 greatest_rate (place t root rate_at) f.rate

pub ready_renewed : (t : List ℤ) → Ready t → in_order (renewed t) ≡ true
ready_renewed t f =
    from_facts (renewed t)
    (ready_in_order (renewed t)
    (ready_but_rates t (renewed t) f (renewed_length t ∙ f.long) (renewed_header t)
    (λ j. record { places = renewed_place t j; unused = renewed_unused t j })
    (renewed_tree t)
    (renewed_root t f.long f.root)
    (stated_kept t (renewed t) (renewed_tree t) (renewed_disk t f.long (root_there t f.root) (root_level t f.root)) f.stated))
    (renewed_rates t f.long (root_there t f.root) (root_level t f.root)))

-- A call whose accepted contents are in order keeps order, accepted or not.
pub kept_in_order : (refusal : ℕ) (new old : List ℤ) → (refusal ≡ 0 → in_order new ≡ true) → in_order old ≡ true → in_order (kept refusal new old) ≡ true
kept_in_order refusal new old h o =
    elim (ℕ_discrete refusal 0) [ yes e ↦ ap in_order (kept_new refusal new old e) ∙ h e | no ne ↦ ap in_order (kept_old refusal new old ne) ∙ o ]
