-- A panel's sum over the whole tree: the rates of all clients and the lost grains of all classes make up the disk's rate. At
-- each class its children's rates and its lost grains make up its rate. Summed over all classes, each node but the root
-- stands once among the children, and what remains are the clients on one side and the root on the other.
use Prim.Native.Nat.{ℕ, ◌+◌, ◌<◌}
use mathlib.Core.Path.{◌≡◌, refl, sym, ap, ◌∙◌}
use mathlib.Core.Bool.{true, false}
use mathlib.Core.List.{List}
use native.Mathlib.Omega.{arith}
use lib.IntN.{ℤ, pos}
use Rattle.numbers.specs.Whole.{plus, minus}
use Rattle.numbers.specs.Below.{sum_below, sum_ℤ_below}
use Rattle.numbers.proofs.Tests.{by_test, true_false}
use Rattle.numbers.proofs.Parts.{one_is_zero, plus_pos, minus_pos, add_parts, zarith}
use Rattle.numbers.proofs.Sums.{sum_cong, sum_add, sum_swap, sum_zero, sum_changed, sum_ℤ_parts}
use Rattle.definitions.specs.Limits.{nodes, root}
use Rattle.definitions.specs.Places.{rate}
use Rattle.definitions.specs.Tree.{tree_of, there, is_class, is_client, child_of, count_if, sum_under}
use Rattle.definitions.specs.Order.{in_order}
use Rattle.definitions.specs.Calls.{lost_grains}
use Rattle.definitions.proofs.Facts.{InOrder, facts, root_there}
use Rattle.definitions.proofs.Look.{client_loses}
use Rattle.treelaws.specs.Lost.{WholeDisk}
use Rattle.treelaws.proofs.Sorts.{unused_client, class_client, client_class, client_there, by_sort}
use Rattle.treelaws.proofs.Children.{child_facts, child_of_law, class_there, counted, uncounted, under_zero}
use Rattle.treelaws.proofs.Rounding.{in_order_bounded, rate_natural}
use Rattle.treelaws.proofs.Lost.{lost_parts, lost_natural}

module _ (t : List ℤ) (f : InOrder t) where
  -- Node k's rate, where it is a child of c; else 0.
  from_child : ℕ → ℕ → ℕ
  from_child c k = count_if (child_of (tree_of t) c k) (rate t) k

  from_other : (c k : ℕ) → (child_of (tree_of t) c k ≡ true → ⊥) → from_child c k ≡ 0
  unfolding from_child
  from_other c k other = by_test (child_of (tree_of t) c k) (λ e. absurd (other e)) (λ e. uncounted (child_of (tree_of t) c k) (rate t) k e)

  -- A node that is there, and not the root, is a child of its parent alone.
  once : (k : ℕ) → k < nodes → (k ≡ root → ⊥) → sum_below nodes (λ c. from_child c k) ≡ count_if (there (tree_of t) k) (rate t) k
  unfolding from_child
  once k hk ne = by_test (there (tree_of t) k) here gone
    where
      here : there (tree_of t) k ≡ true → sum_below nodes (λ c. from_child c k) ≡ count_if (there (tree_of t) k) (rate t) k
      here e =
          let c : ℕ = (tree_of t).parent k in
          let child = child_of_law (tree_of t) c k (record { there = e; below = ne; parent = refl }) in
          omega (
            arith,
            sum_changed nodes c (λ c. from_child c k) (λ c. 0) ((in_order_bounded t f).parent k hk e) (λ d hd other. from_other d k (λ is. other (sym (child_facts (tree_of t) d k is).parent))),
            sum_zero nodes (λ c. 0) (λ c hc. refl),
            counted (child_of (tree_of t) c k) (rate t) k child,
            counted (there (tree_of t) k) (rate t) k e,
          )

      gone : there (tree_of t) k ≡ false → sum_below nodes (λ c. from_child c k) ≡ count_if (there (tree_of t) k) (rate t) k
      gone e =
          sum_zero nodes (λ c. from_child c k) (λ c hc. from_other c k (λ child. true_false (child_facts (tree_of t) c k child).there e))
          ∙ sym (uncounted (there (tree_of t) k) (rate t) k e)

  -- So the sums of the children's rates, over all classes, are the rates of all nodes but the root, which is nobody's child.
  children_once : sum_below nodes (λ c. sum_under (tree_of t) c (rate t)) + rate t root ≡ sum_below nodes (λ k. count_if (there (tree_of t) k) (rate t) k)
  unfolding sum_under from_child
  children_once =
      omega (
        arith,
        sum_swap nodes nodes from_child,
        sum_changed nodes root (λ k. sum_below nodes (λ c. from_child c k)) (λ k. count_if (there (tree_of t) k) (rate t) k) (omega arith) once,
        sum_zero nodes (λ c. from_child c root) (λ c hc. from_other c root (λ child. (child_facts (tree_of t) c root child).below refl)),
        counted (there (tree_of t) root) (rate t) root (root_there t f.root),
      )

  -- Each node by its sort: a class's children and its lost grains, and a client's rate, are its rate.
  of_sort : (k : ℕ) → k < nodes → sum_under (tree_of t) k (rate t) + plus (lost_grains t k) + count_if (is_client (tree_of t) k) (rate t) k ≡ count_if (there (tree_of t) k) (rate t) k
  of_sort k hk =
      by_sort t f k hk
      (λ e. omega (arith, no_class (λ class. true_false (class_there (tree_of t) k class) e), uncounted (is_client (tree_of t) k) (rate t) k (unused_client (tree_of t) k e), uncounted (there (tree_of t) k) (rate t) k e))
      (λ e. omega (arith, lost_parts t f k hk e, uncounted (is_client (tree_of t) k) (rate t) k (class_client (tree_of t) k e), counted (there (tree_of t) k) (rate t) k (class_there (tree_of t) k e)))
      (λ e. omega (arith, no_class (λ class. true_false class (client_class (tree_of t) k e)), counted (is_client (tree_of t) k) (rate t) k e, counted (there (tree_of t) k) (rate t) k (client_there (tree_of t) k e)))
    where
      no_class : (is_class (tree_of t) k ≡ true → ⊥) → sum_under (tree_of t) k (rate t) + plus (lost_grains t k) ≡ 0
      no_class other =
          omega (
            arith,
            under_zero (tree_of t) k (rate t) (λ j hj child. absurd (other (rw child.parent at (f.child j hj child.there child.below).class))),
            ap plus (client_loses t k (by_test (is_class (tree_of t) k) (λ e. absurd (other e)) (λ e. e))) ∙ plus_pos 0,
          )

  -- All nodes together, in natural numbers; then as `WholeDisk` has it.
  all_nodes : rate t root ≡ sum_below nodes (λ k. count_if (is_client (tree_of t) k) (rate t) k) + sum_below nodes (λ k. plus (lost_grains t k))
  all_nodes =
      omega (
        arith,
        children_once,
        sum_cong nodes _ _ of_sort,
        sum_add nodes (λ k. sum_under (tree_of t) k (rate t) + plus (lost_grains t k)) (λ k. count_if (is_client (tree_of t) k) (rate t) k),
        sum_add nodes (λ k. sum_under (tree_of t) k (rate t)) (λ k. plus (lost_grains t k)),
      )

  none_negative : (k : ℕ) → k < nodes → minus (lost_grains t k) ≡ 0
  none_negative k hk = omega (arith, zarith, lost_natural t f k hk, one_is_zero (lost_grains t k), plus_pos 0, minus_pos 0)

  pub whole_disk : WholeDisk t
  unfolding WholeDisk rate
  whole_disk =
      let clients : ℕ = sum_below nodes (λ k. count_if (is_client (tree_of t) k) (rate t) k) in
      omega (
        arith,
        zarith,
        all_nodes,
        rate_natural t f root (omega arith) (root_there t f.root),
        sum_ℤ_parts nodes (lost_grains t),
        sum_zero nodes (λ k. minus (lost_grains t k)) none_negative,
        add_parts (pos clients) (sum_ℤ_below nodes (lost_grains t)),
        plus_pos clients,
        minus_pos clients,
      )

-- So a panel that shows every client's rate and every class's lost grains adds up.
pub panel_adds_up : (t : List ℤ) → in_order t ≡ true → WholeDisk t
panel_adds_up t h = whole_disk t (facts t h)
