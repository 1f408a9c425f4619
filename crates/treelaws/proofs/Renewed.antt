-- What renewing does to the places of a table: the nodes that are there get the rates of the rates section, every other
-- place stays. The idea: after n steps of writing, the chosen nodes below n have their rates, and nothing else has changed.
use Prim.Native.Nat.{ℕ, suc, ◌≤◌, ◌<◌}
use mathlib.Core.Path.{◌≡◌, refl, sym, ap, ◌∙◌, fun_ext}
use mathlib.Core.Bool.{Bool, true, false, cond}
use mathlib.Core.List.{List}
use native.Mathlib.Omega.{arith}
use native.Mathlib.Decide.{dec_lt, ℕ_discrete}
use lib.ListN.{length, get_or-eq_default}
use lib.IntN.{ℤ, pos}
use Rattle.numbers.specs.Whole.{plus}
use Rattle.numbers.specs.Below.{for_below}
use Rattle.numbers.proofs.Tests.{by_test, true_false, cond_true, cond_false}
use Rattle.numbers.proofs.Parts.{plus_pos}
use Rattle.numbers.proofs.All.{below_cases}
use Rattle.numbers.proofs.Steps.{for_reaches}
use Rattle.definitions.specs.Limits.{table_length, header_length, record_length, nodes, sort_at, parent_at, level_at, kind_at, share_at, depth_at, rate_at, root}
use Rattle.definitions.specs.Places.{place, put, header, rate}
use Rattle.definitions.specs.Tree.{Tree, tree_of, there}
use Rattle.definitions.specs.Rates.{rate_at_level, rate_in, write_rates, renewed}
use Rattle.definitions.proofs.Places.{length_put, header_put, place_put_same, place_put_node, place_put_place, same_places}

-- The table u is t with the rate r k written for each node k below n that is chosen.
pub record Written (chosen : ℕ → Bool) (r : ℕ → ℕ) (t : List ℤ) (n : ℕ) (u : List ℤ) : Type 0 where
  pub long : length u ≡ length t
  pub heading : (p : ℕ) → p < header_length → header u p ≡ header t p
  pub others : (k p : ℕ) → p < record_length → (p ≡ rate_at → ⊥) → place u k p ≡ place t k p
  pub rates : length t ≡ table_length → (k : ℕ) → k < nodes → k < n → chosen k ≡ true → place u k rate_at ≡ pos (r k)
  pub passed : (k : ℕ) → chosen k ≡ false → place u k rate_at ≡ place t k rate_at

-- One step, at a node that is chosen and at one that is not.
module _ (chosen : ℕ → Bool) (r : ℕ → ℕ) (t : List ℤ) (n : ℕ) (u : List ℤ) where
  written_here : chosen n ≡ true → Written chosen r t n u → Written chosen r t (suc n) (put u n rate_at (pos (r n)))
  written_here e w =
      record {
        long = length_put u n rate_at (pos (r n)) ∙ w.long;
        heading = λ p hp. header_put u n rate_at (pos (r n)) p hp ∙ w.heading p hp;
        others = λ k p hp ne. place_put_place u n rate_at (pos (r n)) k p (omega arith) hp ne ∙ w.others k p hp ne;
        rates = λ nt k hk h here.
            below_cases n k h
            (λ l. place_put_node u n rate_at (pos (r n)) k rate_at (omega arith) (omega arith) (λ same. omega arith) ∙ w.rates nt k hk l here)
            (λ same. rw same (place_put_same u n rate_at (pos (r n)) (w.long ∙ nt) (omega arith) (omega arith)));
        passed = λ k other.
            place_put_node u n rate_at (pos (r n)) k rate_at (omega arith) (omega arith) (λ same. true_false e (rw same at other))
            ∙ w.passed k other;
      }

  written_past : chosen n ≡ false → Written chosen r t n u → Written chosen r t (suc n) u
  written_past e w =
      record {
        long = w.long;
        heading = w.heading;
        others = w.others;
        rates = λ nt k hk h here. below_cases n k h (λ l. w.rates nt k hk l here) (λ same. absurd (true_false (rw same at here) e));
        passed = w.passed;
      }

pub written : (chosen : ℕ → Bool) (r : ℕ → ℕ) (t : List ℤ) → Written chosen r t nodes (for_below nodes (λ k u. cond (chosen k) (put u k rate_at (pos (r k))) u) t)
written chosen r t =
    for_reaches (Written chosen r t) nodes (λ k u. cond (chosen k) (put u k rate_at (pos (r k))) u)
    (λ k u hk w.
    by_test (chosen k)
    (λ e. rw (cond_true (chosen k) (put u k rate_at (pos (r k))) u e) (written_here chosen r t k u e w))
    (λ e. rw (cond_false (chosen k) (put u k rate_at (pos (r k))) u e) (written_past chosen r t k u e w)))
    t
    (record {
      long = refl;
      heading = λ p hp. refl;
      others = λ k p hp ne. refl;
      rates = λ nt k hk h here. absurd (omega arith);
      passed = λ k other. refl;
    })

-- Renewing is one such writing.
renewing : (t : List ℤ) → Written (there (tree_of t)) (rate_in (tree_of t) (rate t root)) t nodes (renewed t)
unfolding renewed write_rates
renewing t = written (there (tree_of t)) (rate_in (tree_of t) (rate t root)) t

pub renewed_length : (t : List ℤ) → length (renewed t) ≡ length t
renewed_length t = (renewing t).long

pub renewed_header : (t : List ℤ) (p : ℕ) → p < header_length → header (renewed t) p ≡ header t p
renewed_header t = (renewing t).heading

pub renewed_place : (t : List ℤ) (k p : ℕ) → p < record_length → (p ≡ rate_at → ⊥) → place (renewed t) k p ≡ place t k p
renewed_place t = (renewing t).others

pub renewed_rate : (t : List ℤ) → length t ≡ table_length → (k : ℕ) → k < nodes → there (tree_of t) k ≡ true → place (renewed t) k rate_at ≡ pos (rate_in (tree_of t) (rate t root) k)
renewed_rate t nt k hk e = (renewing t).rates nt k hk hk e

pub renewed_unused : (t : List ℤ) (k : ℕ) → there (tree_of t) k ≡ false → place (renewed t) k rate_at ≡ place t k rate_at
renewed_unused t = (renewing t).passed

-- Tables that agree in places 0 to 5 show the same tree.
pub same_tree_law : (t u : List ℤ) → ((k p : ℕ) → p < rate_at → place t k p ≡ place u k p) → tree_of t ≡ tree_of u
unfolding tree_of
same_tree_law t u h =
    let column : (p : ℕ) → p < rate_at → ◌≡◌ {A = ℕ → ℕ} (λ k. plus (place t k p)) (λ k. plus (place u k p)) = λ p hp. fun_ext (λ k. ap plus (h k p hp)) in
    λ i. record { sort = column sort_at (omega arith) i; parent = column parent_at (omega arith) i; level = column level_at (omega arith) i; kind = column kind_at (omega arith) i; share = column share_at (omega arith) i; depth = column depth_at (omega arith) i }

-- Nothing stands beyond the table's end, so the nodes below 64 settle it.
pub beyond : (t : List ℤ) (k p : ℕ) → length t ≡ table_length → nodes ≤ k → place t k p ≡ pos 0
unfolding place
beyond t k p nt h = get_or-eq_default t (pos 0) (omega arith)

pub same_tree_below : (t u : List ℤ) → length t ≡ table_length → length u ≡ table_length → ((k p : ℕ) → k < nodes → p < rate_at → place t k p ≡ place u k p) → tree_of t ≡ tree_of u
same_tree_below t u nt nu h = same_tree_law t u (λ k p hp. elim (dec_lt k nodes) [ yes l ↦ h k p l hp | no l ↦ beyond t k p nt (omega arith) ∙ sym (beyond u k p nu (omega arith)) ])

pub renewed_tree : (t : List ℤ) → tree_of (renewed t) ≡ tree_of t
renewed_tree t = same_tree_law (renewed t) t (λ k p hp. renewed_place t k p (omega arith) (λ e. omega arith))

-- A node at level 0 has the disk's rate.
pub rate_at_root : (tree : Tree) (disk k : ℕ) → tree.level k ≡ 0 → rate_in tree disk k ≡ disk
unfolding rate_in rate_at_level
rate_at_root tree disk k e = rw e

pub renewed_disk : (t : List ℤ) → length t ≡ table_length → there (tree_of t) 0 ≡ true → (tree_of t).level 0 ≡ 0 → rate (renewed t) root ≡ rate t root
unfolding rate
renewed_disk t nt here top =
    ap plus (renewed_rate t nt 0 (omega arith) here ∙ ap pos (rate_at_root (tree_of t) (rate t root) 0 top)) ∙ plus_pos (rate t root)

-- Renewing makes a table's rates those of the rates section.
pub renewed_rates : (t : List ℤ) → length t ≡ table_length → there (tree_of t) 0 ≡ true → (tree_of t).level 0 ≡ 0 → (k : ℕ) → k < nodes → there (tree_of (renewed t)) k ≡ true → place (renewed t) k rate_at ≡ pos (rate_in (tree_of (renewed t)) (rate (renewed t) root) k)
renewed_rates t nt root top k hk e =
    rw (renewed_tree t, renewed_disk t nt root top) (renewed_rate t nt k hk (rw renewed_tree at e))

-- Renewed rates go by the tree and the disk's rate alone.
pub rates_by_tree : (t u : List ℤ) → length t ≡ table_length → length u ≡ table_length → tree_of t ≡ tree_of u → rate t root ≡ rate u root → (k : ℕ) → k < nodes → there (tree_of t) k ≡ true → place (renewed t) k rate_at ≡ place (renewed u) k rate_at
rates_by_tree t u nt nu trees disk k hk e =
    renewed_rate t nt k hk e ∙ rw (trees, disk) (sym (renewed_rate u nu k hk (rw trees at e)))

-- So two tables are renewed alike where they differ at most in the rates of nodes that are there, the disk's excepted.
pub same_renewed : (t u : List ℤ) → length t ≡ table_length → length u ≡ table_length → ((p : ℕ) → p < header_length → header t p ≡ header u p) → ((k p : ℕ) → k < nodes → p < record_length → (p ≡ rate_at → ⊥) → place t k p ≡ place u k p) → rate t root ≡ rate u root → ((k : ℕ) → k < nodes → there (tree_of t) k ≡ false → place t k rate_at ≡ place u k rate_at) → renewed t ≡ renewed u
same_renewed t u nt nu headers places disk unused =
    same_places (renewed t) (renewed u) (renewed_length t ∙ nt) (renewed_length u ∙ nu)
    (λ p hp. renewed_header t p hp ∙ headers p hp ∙ sym (renewed_header u p hp))
    (λ k p hk hp. elim (ℕ_discrete p rate_at) [ yes e ↦ rw e (rates k hk) | no ne ↦ renewed_place t k p hp ne ∙ places k p hk hp ne ∙ sym (renewed_place u k p hp ne) ])
  where
    trees : tree_of t ≡ tree_of u
    trees = same_tree_below t u nt nu (λ k p hk hp. places k p hk (omega arith) (λ e. omega arith))

    rates : (k : ℕ) → k < nodes → place (renewed t) k rate_at ≡ place (renewed u) k rate_at
    rates k hk =
        by_test (there (tree_of t) k)
        (rates_by_tree t u nt nu trees disk k hk)
        (λ e. renewed_unused t k e ∙ unused k hk e ∙ sym (renewed_unused u k (rw trees at e)))
