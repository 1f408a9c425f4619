-- The fixed shares under a node's class and the stated rates as change share would leave them, from the sums as they are:
-- causes 7 and 16.
use Prim.Native.Nat.{ℕ, ◌+◌, ◌-◌, ◌≤◌, ◌<◌}
use mathlib.Core.Path.{◌≡◌, refl, ap, ◌∙◌}
use mathlib.Core.Bool.{true, not, cond}
use mathlib.Core.List.{List}
use native.Mathlib.Omega.{arith}
use lib.Dec.{eqb, ltb}
use lib.IntN.{ℤ, pos}
use Rattle.numbers.specs.Whole.{plus}
use Rattle.numbers.proofs.Sums.{term_le_sum}
use Rattle.definitions.specs.Limits.{nodes, root, unused, fixed, stated, whole_share}
use Rattle.definitions.specs.Tree.{tree_of, there, child_of, count_if, sum_under}
use Rattle.definitions.specs.Rates.{kind_share, kind_sum, fixed_sum, stated_sum}
use Rattle.definitions.specs.Calls.{reshared, shares_above, stated_wrong}
use Rattle.definitions.proofs.Facts.{InOrder}
use Rattle.definitions.proofs.Edits.{NodeIs, reshared_edit, reshared_node}
use Rattle.treelaws.specs.Stated.{stated_wrong_with}
use Rattle.treelaws.proofs.Children.{child_of_law, child_le_sum, counted}
use Rattle.calllaws.proofs.OneNode.{kinds_changed}
use Rattle.calllaws.proofs.StatedAfter.{stated_before, stated_after}
use Rattle.sums.proofs.Rated.{share_of_law}

module _ (t : List ℤ) (k : ℕ) (f : InOrder t) (low : k < nodes) (here : there (tree_of t) k ≡ true) (below : k ≡ root → ⊥) where
  own_child : child_of (tree_of t) ((tree_of t).parent k) k ≡ true
  own_child = child_of_law _ _ k (record { there = here; below = below; parent = refl })

  -- The node's share is a part of the sum of its kind under its class; a stated one, under the root.
  pub own_fixed : kind_share (tree_of t) fixed k ≤ fixed_sum (tree_of t) ((tree_of t).parent k)
  unfolding kind_sum
  own_fixed = child_le_sum (tree_of t) ((tree_of t).parent k) (kind_share (tree_of t) fixed) k low own_child

  pub own_stated : kind_share (tree_of t) stated k ≤ stated_sum (tree_of t) root
  unfolding kind_sum sum_under
  own_stated = omega (arith, stated_before t k f low below, term_le_sum nodes k (λ j. count_if (child_of (tree_of t) root j) (kind_share (tree_of t) stated) j) low)

  -- The sums have the new share in the place of the old.
  module _ (kind share : ℕ) where
    node : NodeIs (tree_of (reshared t k (pos kind) (pos share))) k ((tree_of t).sort k) ((tree_of t).parent k) ((tree_of t).level k) kind share ((tree_of t).depth k)
    unfolding plus
    node = reshared_node t k (pos kind) (pos share) f.long low

    still_there : there (tree_of (reshared t k (pos kind) (pos share))) k ≡ true
    unfolding there
    still_there = ap (λ (s : ℕ). not (eqb s unused)) node.sort ∙ here

    still_child : child_of (tree_of (reshared t k (pos kind) (pos share))) ((tree_of t).parent k) k ≡ true
    still_child = child_of_law _ _ k (record { there = still_there; below = below; parent = node.parent })

    pub shares_with : shares_above (reshared t k (pos kind) (pos share)) ((tree_of t).parent k) ≡ ltb whole_share (fixed_sum (tree_of t) ((tree_of t).parent k) + cond (eqb kind fixed) share 0 - kind_share (tree_of t) fixed k)
    unfolding shares_above
    shares_with =
        let new = tree_of (reshared t k (pos kind) (pos share)) in
        let sum : fixed_sum new ((tree_of t).parent k) ≡ fixed_sum (tree_of t) ((tree_of t).parent k) + cond (eqb kind fixed) share 0 - kind_share (tree_of t) fixed k =
        omega (
          arith,
          kinds_changed t _ k _ low (reshared_edit t k (pos kind) (pos share) f.long low) fixed ((tree_of t).parent k),
          counted (child_of (tree_of t) ((tree_of t).parent k) k) (kind_share (tree_of t) fixed) k own_child,
          counted (child_of new ((tree_of t).parent k) k) (kind_share new fixed) k still_child,
          share_of_law new fixed k kind share node.kind node.share,
        )
        in
        ap (ltb whole_share) sum

    pub stated_with : stated_wrong (reshared t k (pos kind) (pos share)) ≡ stated_wrong_with t ((tree_of t).parent k) (kind_share (tree_of t) stated k) kind share
    stated_with =
        stated_after t _ k ((tree_of t).parent k) kind share _ f low (reshared_edit t k (pos kind) (pos share) f.long low) below still_there node.parent node.kind node.share
