-- A node of a table in order can join any part of that table's tree that has its parent and not yet the node itself. No
-- cause is there: the node keeps its limits, and what the part's children sum up to is at most what the whole's do.
use Prim.Native.Nat.{ℕ, zero, suc, ◌≤◌, ◌<◌}
use mathlib.Core.Path.{◌≡◌, refl, sym, ap, ◌∙◌}
use mathlib.Core.Bool.{true, false, not}
use mathlib.Core.List.{List, [], ◌∷◌}
use native.Mathlib.Omega.{arith}
use native.Mathlib.Decide.{ℕ_discrete}
use borrow.Author.Tests.{eqb-true, ne_eqb, le-ltb}
use lib.Dec.{eqb}
use lib.IntN.{ℤ, pos}
use Rattle.numbers.specs.Whole.{plus, within_ℤ}
use Rattle.numbers.specs.Tests.{every}
use Rattle.numbers.proofs.Tests.{by_test, true_false}
use Rattle.numbers.proofs.Every.{none_left, holds_with, head_fails, rest_fail}
use Rattle.numbers.proofs.Parts.{plus_pos, minus_pos, pos_of_within, zarith}
use Rattle.definitions.specs.Limits.{record_length, nodes, last_node, sort_at, parent_at, level_at, kind_at, share_at, depth_at, rate_at, class, client, fixed, stated, root, last_class_level, last_level, whole_share, first_port, port_limit}
use Rattle.definitions.specs.Places.{place, rate}
use Rattle.definitions.specs.Tree.{Tree, tree_of, there, is_class, is_client, is_stated, sum_under}
use Rattle.definitions.specs.Rates.{fixed_sum}
use Rattle.definitions.specs.Calls.{join_limits, sum_causes, join_refusal, shares_above, depths_above, stated_wrong}
use Rattle.definitions.proofs.Facts.{InOrder, from_facts, Limits, Child, Stated, of_stated_law}
use Rattle.definitions.proofs.Refusals.{first_none, first_end}
use Rattle.treelaws.specs.Joins.{Join, refusal_of, joined_by}
use Rattle.treelaws.proofs.Joined.{of_tree, given_by, joined_shown, joined_apart, same_there}
use Rattle.definitions.proofs.Edits.{SameNode, same_node_law}
use Rattle.calllaws.proofs.Nodes.{there_same, class_same}
use Rattle.planlaws.proofs.Part.{PartOf, part_kinds, part_depths}

-- The join that gives node k what table t shows of it, on the first port.
unfoldable pub join_at : List ℤ → ℕ → Join
join_at t k = record { node = pos k; parent = place t k parent_at; sort = place t k sort_at; kind = place t k kind_at; share = place t k share_at; depth = place t k depth_at; port = pos first_port }

same_twice : (a b c : Tree) (k : ℕ) → SameNode a b k → SameNode b c k → SameNode a c k
same_twice a b c k m n =
    record {
      sort = m.sort ∙ n.sort;
      parent = m.parent ∙ n.parent;
      level = m.level ∙ n.level;
      kind = m.kind ∙ n.kind;
      share = m.share ∙ n.share;
      depth = m.depth ∙ n.depth;
    }

no_client : (tree : Tree) (k : ℕ) → is_class tree k ≡ true → is_client tree k ≡ false
unfolding is_class is_client
no_client tree k e = ne_eqb (tree.sort k) client (λ two. omega (arith, eqb-true (tree.sort k) class e))

pub limited_parent : (t : List ℤ) (k : ℕ) → Limits t k → (tree_of t).parent k < nodes
unfolding tree_of
limited_parent t k l = omega (arith, zarith, l.parent)

-- The node k of t, and the table v that shows a part of t and the same disk.
pub record Next (t v : List ℤ) (k : ℕ) : Type 0 where
  pub whole : InOrder t
  pub order : InOrder v
  pub part : PartOf (tree_of v) (tree_of t)
  pub disk : rate v root ≡ rate t root
  pub small : k < nodes
  pub below : k ≡ root → ⊥
  pub here : there (tree_of t) k ≡ true
  pub free : there (tree_of v) k ≡ false
  pub above : there (tree_of v) ((tree_of t).parent k) ≡ true

module _ (t v : List ℤ) (k : ℕ) (x : Next t v k) where
  limits : Limits t k
  limits = x.whole.limits k x.small x.here

  child : Child (tree_of t) k
  child = x.whole.child k x.small x.here x.below

  parent_small : (tree_of t).parent k < nodes
  parent_small = limited_parent t k limits

  -- The parent is the same class in both.
  parent_same : SameNode (tree_of v) (tree_of t) ((tree_of t).parent k)
  parent_same = x.part.same ((tree_of t).parent k) parent_small x.above

  parent_class : is_class (tree_of v) ((tree_of t).parent k) ≡ true
  parent_class = class_same (tree_of v) (tree_of t) ((tree_of t).parent k) parent_same.sort ∙ child.class

  -- With the join written, the node shows what it shows in t.
  given_same : (q : ℕ) → q < rate_at → given_by (join_at t k) (suc ((tree_of v).level ((tree_of t).parent k))) q ≡ place t k q
  unfolding given_by join_at tree_of
  given_same zero hq = refl
  given_same (suc zero) hq = pos_of_within 0 last_node (place t k parent_at) limits.parent
  given_same (suc (suc zero)) hq = ap pos (ap suc parent_same.level ∙ sym child.level) ∙ pos_of_within 0 last_level (place t k level_at) limits.level
  given_same (suc (suc (suc zero))) hq = refl
  given_same (suc (suc (suc (suc zero)))) hq = refl
  given_same (suc (suc (suc (suc (suc zero))))) hq = refl
  given_same (suc (suc (suc (suc (suc (suc q)))))) hq = absurd (omega arith)

  written : (q : ℕ) → q < rate_at → place (joined_by v (join_at t k)) k q ≡ place t k q
  unfolding join_at tree_of plus
  written q hq = joined_shown v (join_at t k) x.order.long x.small q (of_tree hq) ∙ given_same q hq

  kept : (j q : ℕ) → q < record_length → (j ≡ k → ⊥) → place (joined_by v (join_at t k)) j q ≡ place v j q
  unfolding join_at plus
  kept j q hq ne = joined_apart v (join_at t k) x.order.long x.small j q hq (λ same. absurd (ne same))

  joined_same : (j : ℕ) → j < nodes → there (tree_of (joined_by v (join_at t k))) j ≡ true → SameNode (tree_of (joined_by v (join_at t k))) (tree_of t) j
  joined_same j hj e =
      elim (ℕ_discrete j k) [
        | yes same ↦ rw same (same_node_law t (joined_by v (join_at t k)) k written)
        | no ne ↦
            same_twice _ (tree_of v) _ j (same_node_law v (joined_by v (join_at t k)) j (λ q hq. kept j q (omega arith) ne))
            (x.part.same j hj (sym (same_there (joined_by v (join_at t k)) v j (kept j sort_at (omega arith) ne)) ∙ e))
      ]

  joined_part : PartOf (tree_of (joined_by v (join_at t k))) (tree_of t)
  joined_part = record { same = joined_same }

  -- A class does not stand below the last level of classes.
  not_last : every (eqb ((tree_of t).sort k) class ∷ eqb ((tree_of v).level ((tree_of t).parent k)) last_class_level ∷ []) ≡ false
  unfolding is_class
  not_last =
      by_test (eqb ((tree_of t).sort k) class)
      (λ e. let most = (x.whole.class k x.small e).level in rest_fail _ _ (head_fails _ _ (ne_eqb ((tree_of v).level ((tree_of t).parent k)) last_class_level (λ three. omega (arith, parent_same.level, child.level)))))
      (λ e. head_fails _ _ e)

  shares_kept : fixed_sum (tree_of (joined_by v (join_at t k))) ((tree_of t).parent k) ≤ whole_share
  shares_kept = omega (arith, part_kinds _ (tree_of t) joined_part fixed ((tree_of t).parent k), (x.whole.class ((tree_of t).parent k) parent_small child.class).shares)

  joined_stated : Stated (joined_by v (join_at t k))
  unfolding is_stated rate
  joined_stated =
      record {
        under = λ j hj e s.
            let n = joined_same j hj e in
            n.parent ∙ x.whole.stated.under j hj (sym (there_same _ _ j n.sort) ∙ e) (rw n.kind at s);
        fits =
            omega (
              arith,
              x.whole.stated.fits,
              part_kinds _ (tree_of t) joined_part stated root,
              x.disk,
              ap plus (kept root rate_at (omega arith) (λ e. x.below (sym e))),
            );
      }

  parent_apart : (tree_of t).parent k ≡ k → ⊥
  parent_apart e = true_false x.above (rw e x.free)

  parent_depth : (tree_of (joined_by v (join_at t k))).depth ((tree_of t).parent k) ≡ (tree_of t).depth ((tree_of t).parent k)
  parent_depth =
      (same_node_law v (joined_by v (join_at t k)) ((tree_of t).parent k) (λ q hq. kept ((tree_of t).parent k) q (omega arith) parent_apart)).depth
      ∙ parent_same.depth

  depths_kept : sum_under (tree_of (joined_by v (join_at t k))) ((tree_of t).parent k) (tree_of (joined_by v (join_at t k))).depth ≤ (tree_of (joined_by v (join_at t k))).depth ((tree_of t).parent k)
  depths_kept = omega (arith, parent_depth, part_depths _ (tree_of t) joined_part ((tree_of t).parent k), (x.whole.class ((tree_of t).parent k) parent_small child.class).depths)

  node_limits : within_ℤ 1 last_node (pos k) ≡ true
  node_limits = omega (arith, zarith, x.small, x.below, plus_pos k, minus_pos k)

  port_limits : within_ℤ 0 (port_limit ((tree_of t).sort k)) (pos first_port) ≡ true
  port_limits = omega (arith, zarith, plus_pos first_port, minus_pos first_port)

  pub joinable : refusal_of v (join_at t k) ≡ 0
  unfolding refusal_of join_refusal join_limits sum_causes join_at shares_above depths_above stated_wrong joined_by tree_of plus
  joinable =
      first_none 1 _ _ (ap not (from_facts v x.order))
      (first_none 2 _ _ (ap not (holds_with _ _ node_limits (holds_with _ _ limits.parent (holds_with _ _ limits.sort (holds_with _ _ limits.kind (holds_with _ _ limits.share (holds_with _ _ limits.depth (holds_with _ _ port_limits none_left))))))))
      (first_none 3 _ _ (ap not x.above)
      (first_none 4 _ _ x.free
      (first_none 5 _ _ (no_client (tree_of v) ((tree_of t).parent k) parent_class)
      (first_none 6 _ _ not_last (first_none 7 _ _ (le-ltb _ _ shares_kept) (first_none 8 _ _ (le-ltb _ _ depths_kept) (first_none 16 _ _ (ap not (of_stated_law _ joined_stated)) first_end))))))))
