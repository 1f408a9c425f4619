-- An accepted leave: afterwards the node is neither class nor client.
use Prim.Native.Nat.{ℕ}
use mathlib.Core.Path.{◌≡◌, refl, sym, ap, ◌∙◌}
use mathlib.Core.Bool.{true}
use mathlib.Core.List.{List, []}
use native.Mathlib.Omega.{arith}
use borrow.Author.Tests.{eqb-true, eqb-false, ne_eqb}
use lib.IntN.{ℤ}
use Rattle.numbers.specs.Whole.{plus}
use Rattle.definitions.specs.Limits.{rate_at, client, root}
use Rattle.definitions.specs.Places.{rate as rate_of}
use Rattle.definitions.specs.Tree.{Tree, tree_of, is_client}
use Rattle.definitions.specs.Rates.{renewed}
use Rattle.definitions.specs.Order.{in_order}
use Rattle.definitions.specs.Calls.{cleared, leave_refusal, leave_table}
use Rattle.definitions.proofs.Facts.{InOrder, facts}
use Rattle.definitions.proofs.Edits.{cleared_edit, cleared_node, cleared_others}
use Rattle.definitions.proofs.Passed.{LeavePassed, leave_passed}
use Rattle.calllaws.proofs.Leave.{leave_keeps}
use Rattle.runs.specs.Runs.{leave, leaves}
use Rattle.bounds.specs.Observer.{Observer, with_node, after_accepted}
use Rattle.bounds.proofs.Simulation.{Agrees}
use Rattle.bounds.proofs.Trees.{set_here, set_other, with_node_law}
use Rattle.bounds.proofs.Changes.{Same, Change, Others, other_same, queues}
use Rattle.bounds.proofs.Renewing.{kept_order, renewed_agrees, renewed_same}

pub leave_change :
    (t : List ℤ) (o : Observer) (node : ℤ) → Agrees t o → leave_refusal t node ≡ 0
    → Change t (renewed (cleared t (plus node))) o (after_accepted o (leave node) []) (λ c. leaves c (leave node))
unfolding leave_table after_accepted with_node rate_of is_client leaves
leave_change t o node a h =
    record {
      agrees =
          renewed_agrees u order p tree (ap plus (others.places root rate_at (λ e. passed.below (sym e)) (omega arith)) ∙ a.disk)
          (queues t u o p k others a (λ e. absurd (no_client k e refl)));
      root = ne_eqb k root passed.below;
      class = λ c e stays. same c (λ at. eqb-false k c stays (sym at));
      client = λ j e busy. same j (no_client j e);
    }
  where
    k : ℕ
    k = plus node

    u : List ℤ
    u = cleared t k

    p : Observer
    p = after_accepted o (leave node) []

    f : InOrder t
    f = facts t a.order

    passed : LeavePassed t k
    passed = leave_passed t node h

    order : in_order (renewed u) ≡ true
    order = kept_order _ (renewed u) t h (leave_keeps t node h)

    tree : tree_of u ≡ p.tree
    tree =
        with_node_law (tree_of u) (tree_of t) k (cleared_others t k f.long passed.node) _ _ _ _ _ _ (cleared_node t k f.long passed.node)
        ∙ ap (λ (tree : Tree). with_node tree k 0 0 0 0 0 0) a.tree

    others : Others t u o p k
    others =
        record {
          places = (cleared_edit t k f.long passed.node).others;
          sort = set_other k 0 o.tree.sort;
          level = set_other k 0 o.tree.level;
          depth = set_other k 0 o.tree.depth;
          asked = λ j ne. refl;
          sent = λ j ne. refl;
        }

    same : (j : ℕ) → (j ≡ k → ⊥) → Same t (renewed u) o p j
    same j ne = renewed_same u order t o p j (other_same t u o p k others j ne)

    no_client : (j : ℕ) → is_client p.tree j ≡ true → j ≡ k → ⊥
    no_client j e at = omega (arith, eqb-true (p.tree.sort j) client e, set_here k 0 o.tree.sort j at)
