-- A part of a tree: each of its nodes stands in the whole as it does in the part. What is summed over the children of a
-- class is at most what it is in the whole.
use Prim.Native.Nat.{ℕ, ◌≤◌, ◌<◌}
use mathlib.Core.Path.{◌≡◌, sym, ◌∙◌}
use mathlib.Core.Bool.{true}
use native.Mathlib.Omega.{arith}
use Rattle.numbers.proofs.Tests.{by_test}
use Rattle.numbers.proofs.Sums.{sum_mono}
use Rattle.definitions.specs.Limits.{nodes}
use Rattle.definitions.specs.Tree.{Tree, there, child_of, count_if, sum_under}
use Rattle.definitions.specs.Rates.{kind_share, kind_sum}
use Rattle.definitions.proofs.ShareKinds.{same_share}
use Rattle.treelaws.proofs.Children.{ChildOf, child_facts, child_of_law}
use Rattle.definitions.proofs.Edits.{SameNode}
use Rattle.calllaws.proofs.Nodes.{there_same}

pub record PartOf (part whole : Tree) : Type 0 where
  pub same : (k : ℕ) → k < nodes → there part k ≡ true → SameNode part whole k

module _ (part whole : Tree) (h : PartOf part whole) where
  part_child : (c k : ℕ) → k < nodes → ChildOf part c k → ChildOf whole c k
  part_child c k hk child =
      let n = h.same k hk child.there in
      record { there = sym (there_same part whole k n.sort) ∙ child.there; below = child.below; parent = sym n.parent ∙ child.parent }

  part_term : (c : ℕ) (f g : ℕ → ℕ) (k : ℕ) → k < nodes → (there part k ≡ true → f k ≡ g k) → count_if (child_of part c k) f k ≤ count_if (child_of whole c k) g k
  unfolding count_if
  part_term c f g k hk same =
      by_test (child_of part c k)
      (λ e. let child = child_facts part c k e in rw (e, child_of_law whole c k (part_child c k hk child)) (omega (arith, same child.there)))
      (λ e. rw e (omega arith))

  part_sum : (c : ℕ) (f g : ℕ → ℕ) → ((k : ℕ) → k < nodes → there part k ≡ true → f k ≡ g k) → sum_under part c f ≤ sum_under whole c g
  unfolding sum_under
  part_sum c f g same = sum_mono nodes (λ k. count_if (child_of part c k) f k) (λ k. count_if (child_of whole c k) g k) (λ k hk. part_term c f g k hk (same k hk))

  -- The shares of one kind.
  pub part_kinds : (kind c : ℕ) → kind_sum part kind c ≤ kind_sum whole kind c
  unfolding kind_sum
  part_kinds kind c =
      part_sum c (kind_share part kind) (kind_share whole kind) (λ k hk e. let n = h.same k hk e in same_share part whole kind k k n.kind n.share)

  pub part_depths : (c : ℕ) → sum_under part c part.depth ≤ sum_under whole c whole.depth
  part_depths c = part_sum c part.depth whole.depth (λ k hk e. (h.same k hk e).depth)
