-- The fixed shares and depths under the parent, and the stated rates, as join would leave them, from the sums as they are:
-- causes 7, 8 and 16.
use Prim.Native.Nat.{ℕ, suc, ◌+◌, ◌-◌, ◌≤◌, ◌<◌}
use mathlib.Core.Path.{◌≡◌, ap, ◌∙◌}
use mathlib.Core.Bool.{true, false, not, cond}
use mathlib.Core.List.{List}
use native.Mathlib.Omega.{arith}
use borrow.Author.Tests.{ne_eqb}
use lib.Dec.{eqb, ltb}
use lib.IntN.{ℤ, pos}
use Rattle.numbers.specs.Whole.{plus}
use Rattle.numbers.proofs.Tests.{by_test, true_false}
use Rattle.numbers.proofs.Parts.{zarith, plus_pos}
use Rattle.definitions.specs.Limits.{nodes, root, fixed, stated, whole_share, greatest_depth, kind_at}
use Rattle.definitions.specs.Tree.{Tree, tree_of, there, child_of, sum_under}
use Rattle.definitions.specs.Rates.{kind_share, fixed_sum}
use Rattle.definitions.specs.Calls.{shares_above, depths_above, stated_wrong}
use Rattle.definitions.proofs.Facts.{InOrder, Class, facts, class_or_client}
use Rattle.definitions.proofs.Edits.{Edited, NodeIs, joined_place, joined_edit, joined_node, joined_others}
use Rattle.definitions.proofs.ShareKinds.{other_share}
use Rattle.treelaws.specs.Joins.{joined_by}
use Rattle.treelaws.specs.Stated.{stated_wrong_with}
use Rattle.treelaws.proofs.Children.{child_facts, child_of_law, counted, uncounted}
use Rattle.calllaws.proofs.OneNode.{kinds_changed, depths_changed}
use Rattle.calllaws.proofs.StatedAfter.{stated_after}
use Rattle.sums.proofs.Rated.{share_of_law}
use Rattle.admission.specs.declared.NewNode.{NewNode}
use Rattle.admission.specs.NewNodes.{join_of, Placeable}

there_by_sort : (tree : Tree) (k : ℕ) → 1 ≤ tree.sort k → there tree k ≡ true
unfolding there
there_by_sort tree k h = ap not (ne_eqb (tree.sort k) 0 (omega arith))

no_child : (tree : Tree) (c k : ℕ) → there tree k ≡ false → child_of tree c k ≡ false
no_child tree c k h = by_test (child_of tree c k) (λ e. absurd (true_false (child_facts tree c k e).there h)) (λ e. e)

-- The parent's own depth stays, and its sums have the new node's share and depth more.
module _ (t : List ℤ) (n : NewNode) (p : Placeable t n) where
  ordered : InOrder t
  ordered = facts t p.judged.order

  low : n.node < nodes
  low = let l = p.judged.limits.node in omega arith

  -- The parent is a class.
  pub parent_class : Class t n.parent
  parent_class =
      let l = p.judged.limits.parent in
      ordered.class n.parent (omega arith) (class_or_client t n.parent ordered (omega arith) p.there p.no_client)

  pub small_sum : sum_under (tree_of t) n.parent (tree_of t).depth ≤ greatest_depth
  unfolding tree_of
  small_sum =
      let l = p.judged.limits.parent in
      let own = (ordered.limits n.parent (omega arith) p.there).depth in
      omega (arith, zarith, parent_class.depths)

  edited : Edited t (joined_by t (join_of n)) n.node (joined_place t n.node n.parent (pos n.sort) (pos n.kind) (pos n.share) (pos n.depth) (pos n.port))
  unfolding joined_by join_of plus
  edited = joined_edit t n.node n.parent _ _ _ _ _ ordered.long low

  node : NodeIs (tree_of (joined_by t (join_of n))) n.node n.sort n.parent (suc ((tree_of t).level n.parent)) n.kind n.share n.depth
  unfolding joined_by join_of plus
  node = joined_node t n.node n.parent _ _ _ _ _ ordered.long low

  new_there : there (tree_of (joined_by t (join_of n))) n.node ≡ true
  new_there = there_by_sort _ n.node (rw node.sort p.judged.limits.sort_least)

  below_root : n.node ≡ root → ⊥
  below_root = let l = p.judged.limits in omega arith

  new_child : child_of (tree_of (joined_by t (join_of n))) n.parent n.node ≡ true
  new_child = child_of_law _ _ n.node (record { there = new_there; below = below_root; parent = node.parent })

  shares : fixed_sum (tree_of (joined_by t (join_of n))) n.parent ≡ fixed_sum (tree_of t) n.parent + cond (eqb n.kind fixed) n.share 0 - 0
  shares =
      omega (
        arith,
        kinds_changed t _ n.node _ low edited fixed n.parent,
        uncounted (child_of (tree_of t) n.parent n.node) (kind_share (tree_of t) fixed) n.node (no_child (tree_of t) n.parent n.node p.unused),
        counted (child_of (tree_of (joined_by t (join_of n))) n.parent n.node) (kind_share (tree_of (joined_by t (join_of n))) fixed) n.node new_child,
        share_of_law (tree_of (joined_by t (join_of n))) fixed n.node n.kind n.share node.kind node.share,
      )

  depths : sum_under (tree_of (joined_by t (join_of n))) n.parent (tree_of (joined_by t (join_of n))).depth ≡ sum_under (tree_of t) n.parent (tree_of t).depth + n.depth
  depths =
      omega (
        arith,
        depths_changed t _ n.node _ low edited n.parent,
        uncounted (child_of (tree_of t) n.parent n.node) (tree_of t).depth n.node (no_child (tree_of t) n.parent n.node p.unused),
        counted (child_of (tree_of (joined_by t (join_of n))) n.parent n.node) (tree_of (joined_by t (join_of n))).depth n.node new_child,
        node.depth,
      )

  pub shares_with : shares_above (joined_by t (join_of n)) n.parent ≡ ltb whole_share (fixed_sum (tree_of t) n.parent + cond (eqb n.kind fixed) n.share 0 - 0)
  unfolding shares_above
  shares_with = ap (ltb whole_share) shares

  pub depths_with : depths_above (joined_by t (join_of n)) n.parent ≡ ltb ((tree_of t).depth n.parent) (sum_under (tree_of t) n.parent (tree_of t).depth + n.depth)
  unfolding depths_above joined_by join_of plus
  depths_with =
      let apart : n.parent ≡ n.node → ⊥ = λ e. true_false p.there (rw e p.unused) in
      rw (depths, (joined_others t n.node n.parent _ _ _ _ _ ordered.long low n.parent apart).depth)

  -- The node was unused, so it added nothing to the stated rates.
  nothing_before : kind_share (tree_of t) stated n.node ≡ 0
  unfolding tree_of
  nothing_before = other_share (tree_of t) stated n.node (λ e. omega (arith, ap plus (ordered.empty n.node low p.unused kind_at (omega arith)), plus_pos 0))

  pub stated_with : stated_wrong (joined_by t (join_of n)) ≡ stated_wrong_with t n.parent 0 n.kind n.share
  stated_with =
      stated_after t _ n.node n.parent n.kind n.share _ ordered low edited below_root new_there node.parent node.kind node.share
      ∙ ap (λ (old : ℕ). stated_wrong_with t n.parent old n.kind n.share) nothing_before
