-- An accepted join: the node was unused, so it was no class, and nothing waits at it.
use Prim.Native.Nat.{ℕ, suc, ◌≤◌, ◌<◌}
use mathlib.Core.Path.{◌≡◌, refl, ap, ◌∙◌}
use mathlib.Core.Bool.{true}
use mathlib.Core.List.{List, []}
use native.Mathlib.Omega.{arith}
use lib.IntN.{ℤ}
use Rattle.numbers.specs.Whole.{plus}
use Rattle.numbers.proofs.Tests.{true_false}
use Rattle.numbers.proofs.Parts.{plus_pos}
use Rattle.definitions.specs.Limits.{record_length, rate_at, waiting_at, port_at, root}
use Rattle.definitions.specs.Places.{place, rate as rate_of, waiting}
use Rattle.definitions.specs.Tree.{Tree, tree_of}
use Rattle.definitions.specs.Rates.{renewed}
use Rattle.definitions.specs.Order.{in_order}
use Rattle.definitions.specs.Calls.{joined, join_refusal, join_table}
use Rattle.definitions.proofs.Facts.{InOrder, facts}
use Rattle.treelaws.proofs.Children.{class_there}
use Rattle.definitions.proofs.Edits.{joined_edit, joined_node, joined_others, joined_rest}
use Rattle.definitions.proofs.Passed.{JoinPassed, join_passed}
use Rattle.calllaws.proofs.Join.{join_keeps}
use Rattle.runs.specs.Runs.{join, leaves}
use Rattle.bounds.specs.Observer.{Observer, set_at, with_node, after_accepted}
use Rattle.bounds.proofs.Simulation.{Agrees, waits_more}
use Rattle.bounds.proofs.Trees.{set_here, set_other, with_node_law}
use Rattle.bounds.proofs.Changes.{Same, Change, Others, other_same, queues}
use Rattle.bounds.proofs.Renewing.{kept_order, renewed_agrees, renewed_same}

pub join_change :
    (t : List ℤ) (o : Observer) (node parent sort kind share depth port : ℤ) → Agrees t o → join_refusal t node parent sort kind share depth port ≡ 0
    → Change t (renewed (joined t (plus node) (plus parent) sort kind share depth port)) o (after_accepted o (join node parent sort kind share depth port) []) (λ c. leaves c (join node parent sort kind share depth port))
unfolding join_table after_accepted with_node rate_of waiting leaves
join_change t o node parent sort kind share depth port a h =
    record {
      agrees =
          renewed_agrees u order p tree (ap plus (rest root rate_at (omega arith) (omega arith) (λ e. omega arith)) ∙ a.disk)
          (queues t u o p k others a (λ e. omega (arith, idle, nothing o.asked, nothing o.sent)));
      root = refl;
      class = λ c e stays. same c (λ at. true_false (class_there o.tree c e) (rw at (rw a.tree at passed.unused)));
      client = λ j e busy. same j (λ at. omega (arith, waits_more p j busy, ap p.asked at, nothing o.asked));
    }
  where
    k : ℕ
    k = plus node

    u : List ℤ
    u = joined t k (plus parent) sort kind share depth port

    p : Observer
    p = after_accepted o (join node parent sort kind share depth port) []

    f : InOrder t
    f = facts t a.order

    passed : JoinPassed t k (plus parent) sort kind share depth port
    passed = join_passed t node parent sort kind share depth port h

    order : in_order (renewed u) ≡ true
    order = kept_order _ (renewed u) t h (join_keeps t node parent sort kind share depth port h)

    rest : (j p : ℕ) → p < record_length → rate_at ≤ p → (p ≡ port_at → ⊥) → place u j p ≡ place t j p
    rest = joined_rest t k (plus parent) sort kind share depth port f.long passed.node

    tree : tree_of u ≡ p.tree
    tree =
        with_node_law (tree_of u) (tree_of t) k (joined_others t k (plus parent) sort kind share depth port f.long passed.node) _ _ _ _ _ _
        (joined_node t k (plus parent) sort kind share depth port f.long passed.node)
        ∙ ap (λ (tree : Tree). with_node tree k (plus sort) (plus parent) (suc (tree.level (plus parent))) (plus kind) (plus share) (plus depth)) a.tree

    others : Others t u o p k
    others =
        record {
          places = (joined_edit t k (plus parent) sort kind share depth port f.long passed.node).others;
          sort = set_other k (plus sort) o.tree.sort;
          level = set_other k _ o.tree.level;
          depth = set_other k (plus depth) o.tree.depth;
          asked = set_other k 0 o.asked;
          sent = set_other k 0 o.sent;
        }

    same : (j : ℕ) → (j ≡ k → ⊥) → Same t (renewed u) o p j
    same j ne = renewed_same u order t o p j (other_same t u o p k others j ne)

    idle : waiting u k ≡ 0
    idle = ap plus (rest k waiting_at (omega arith) (omega arith) (λ e. omega arith) ∙ f.empty k passed.node passed.unused waiting_at (omega arith)) ∙ plus_pos 0

    nothing : (g : ℕ → ℕ) → set_at k 0 g k ≡ 0
    nothing g = set_here k 0 g k refl
