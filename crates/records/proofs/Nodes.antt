-- What the stage of the records tells of a node, and of an unused record.
use Prim.Native.Nat.{ℕ, ◌*◌, ◌≤◌, ◌<◌}
use mathlib.Core.Path.{◌≡◌, sym, ◌∙◌}
use mathlib.Core.Bool.{true, false}
use mathlib.Core.Logic.{⊎_elim}
use mathlib.Core.List.{List}
use borrow.Author.Tests.{leb-true, le-leb, eqb-true, eq-eqb}
use lib.Dec.{eqb}
use lib.IntN.{ℤ}
use Rattle.numbers.specs.Whole.{plus, minus, within_ℤ}
use Rattle.numbers.specs.Below.{all_below}
use Rattle.numbers.proofs.Tests.{by_test, true_false, cond_true, cond_false, or_cases, or_true_left, or_true_right}
use Rattle.numbers.proofs.Every.{head_holds, rest_hold, holds_with, none_left}
use Rattle.numbers.proofs.All.{all_at, all_intro}
use Rattle.definitions.specs.Limits.{record_length, nodes, rate_at, last_class_level, last_level, greatest_rate}
use Rattle.definitions.specs.Places.{place, balance, waiting, depth_grains}
use Rattle.definitions.specs.Tree.{tree_of, there, is_class}
use Rattle.definitions.specs.Order.{is_zero, limits_kept, spare_in_order, parent_in_order}
use Rattle.definitions.proofs.Facts.{test_at, at_test}
use Rattle.records.specs.Record.{class_placed, balance_within, node_in_order, record_in_order, records_in_order}

pub record Node (t : List ℤ) (k : ℕ) : Type 0 where
  pub limits : limits_kept t k ≡ true
  pub spare : spare_in_order t k ≡ true
  pub parent : parent_in_order (tree_of t) k ≡ true
  pub level : is_class (tree_of t) k ≡ true → (tree_of t).level k ≤ last_class_level
  pub idle : is_class (tree_of t) k ≡ true → waiting t k ≡ 0
  pub most : plus (balance t k) ≤ depth_grains t k
  pub least : minus (balance t k) ≤ last_level * depth_grains t k
  pub client : is_class (tree_of t) k ≡ false → minus (balance t k) ≡ 0
  pub rate : within_ℤ 0 greatest_rate (place t k rate_at) ≡ true

node_of : (t : List ℤ) (k : ℕ) → node_in_order t k ≡ true → Node t k
unfolding node_in_order class_placed balance_within
node_of t k h =
    let h1 = rest_hold _ _ h in
    let h2 = rest_hold _ _ h1 in
    let h3 = rest_hold _ _ h2 in
    let placed = test_at (is_class (tree_of t) k) (class_placed t) k (head_holds _ _ h3) in
    let h4 = rest_hold _ _ h3 in
    let b = head_holds _ _ h4 in
    let b1 = rest_hold _ _ b in
    record {
      limits = head_holds _ _ h;
      spare = head_holds _ _ h1;
      parent = head_holds _ _ h2;
      level = λ e. leb-true ((tree_of t).level k) last_class_level (head_holds _ _ (placed e));
      idle = λ e. eqb-true (waiting t k) 0 (head_holds _ _ (rest_hold _ _ (placed e)));
      most = leb-true (plus (balance t k)) (depth_grains t k) (head_holds _ _ b);
      least = leb-true (minus (balance t k)) (last_level * depth_grains t k) (head_holds _ _ b1);
      client = λ e.
          ⊎_elim (λ d. absurd (true_false d e)) (λ d. eqb-true (minus (balance t k)) 0 d)
          (or_cases (is_class (tree_of t) k) (eqb (minus (balance t k)) 0) (head_holds _ _ (rest_hold _ _ b1)));
      rate = head_holds _ _ (rest_hold _ _ h4);
    }

of_node : (t : List ℤ) (k : ℕ) → Node t k → node_in_order t k ≡ true
unfolding node_in_order class_placed balance_within
of_node t k f =
    holds_with _ _ f.limits
    (holds_with _ _ f.spare
    (holds_with _ _ f.parent
    (holds_with _ _ (at_test (is_class (tree_of t) k) (class_placed t) k (λ e. holds_with _ _ (le-leb _ _ (f.level e)) (holds_with _ _ (eq-eqb _ _ (f.idle e)) none_left)))
    (holds_with _ _
    (holds_with _ _ (le-leb _ _ f.most)
    (holds_with _ _ (le-leb _ _ f.least)
    (holds_with _ _
    (by_test (is_class (tree_of t) k) (or_true_left (is_class (tree_of t) k) (eqb (minus (balance t k)) 0))
    (λ e. or_true_right (is_class (tree_of t) k) (eqb (minus (balance t k)) 0) (eq-eqb _ _ (f.client e))))
    none_left)))
    (holds_with _ _ f.rate none_left)))))

pub node_at : (t : List ℤ) → records_in_order t ≡ true → (k : ℕ) → k < nodes → there (tree_of t) k ≡ true → Node t k
unfolding records_in_order record_in_order
node_at t h k hk e = node_of t k (sym (cond_true _ _ _ e) ∙ all_at nodes (record_in_order t) h k hk)

pub zero_at : (t : List ℤ) → records_in_order t ≡ true → (k : ℕ) → k < nodes → there (tree_of t) k ≡ false → all_below record_length (λ p. is_zero (place t k p)) ≡ true
unfolding records_in_order record_in_order
zero_at t h k hk e = sym (cond_false _ _ _ e) ∙ all_at nodes (record_in_order t) h k hk

pub records_by : (t : List ℤ) → ((k : ℕ) → k < nodes → there (tree_of t) k ≡ true → Node t k) → ((k : ℕ) → k < nodes → there (tree_of t) k ≡ false → all_below record_length (λ p. is_zero (place t k p)) ≡ true) → records_in_order t ≡ true
unfolding records_in_order record_in_order
records_by t each zeros =
    all_intro nodes (record_in_order t)
    (λ k hk.
    by_test (there (tree_of t) k) (λ e. cond_true _ _ _ e ∙ of_node t k (each k hk e)) (λ e. cond_false _ _ _ e ∙ zeros k hk e))
