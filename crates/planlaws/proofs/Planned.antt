-- The plan of a table in order: its numbers fit the bytes of an edition that has kinds for all of its nodes, its entries ask for
-- what the table shows, and the parent of each node is the root or stands before it.
use Prim.Native.Nat.{ℕ, suc, ◌≤◌, ◌<◌}
use mathlib.Core.Path.{◌≡◌, ap, ◌∙◌}
use mathlib.Core.Bool.{true, false, not}
use mathlib.Core.List.{List}
use native.Mathlib.Omega.{arith}
use native.Mathlib.Decide.{dec_lt}
use borrow.Author.Tests.{not-true, not-false}
use lib.ListN.{length}
use lib.IntN.{ℤ, pos}
use Rattle.numbers.specs.Whole.{plus}
use Rattle.numbers.proofs.Parts.{pos_of_within, zarith}
use Rattle.numbers.proofs.All.{below_cases}
use Rattle.definitions.specs.Limits.{nodes, last_node, sort_at, parent_at, kind_at, share_at, depth_at, class, client, fixed, stated, root, first_port, last_level, greatest_depth, share_limit}
use Rattle.definitions.specs.Places.{place, rate}
use Rattle.definitions.specs.Tree.{Tree, tree_of, there, is_stated, each_node}
use Rattle.definitions.proofs.Facts.{InOrder, Limits, Child, root_there, each_at, at_each}
use Rattle.definitions.proofs.ShareKinds.{unstated_kind, unstated_share, limit_le}
use Rattle.treelaws.proofs.Children.{class_there}
use Rattle.planformat.specs.declared.Edition.{Edition}
use Rattle.planformat.specs.declared.Edition.TheVariants.{First, Second}
use Rattle.planformat.specs.Kinds.{kind_of, sort_of, share_kind_of}
use Rattle.planformat.specs.Format.{last_kind, share_values}
use Rattle.planformat.proofs.EachKind.{sort_of_kind, share_of_kind, kind_small, first_kind}
use Rattle.planlaws.specs.Reading.{join_of, standing}
use Rattle.planlaws.specs.Writing.{order, entry_of, plan_of, any_stated, unwritable}
use Rattle.planformat.proofs.Codec.{Fits}
use Rattle.planlaws.proofs.Listing.{listed, listed_node, listed_found, listed_rises, level_listed, order_short}
use Rattle.planlaws.proofs.Joinable.{join_at, limited_parent}

-- A level of a table in order is at most the last.
pub level_small : (t : List ℤ) (k : ℕ) → InOrder t → k < nodes → there (tree_of t) k ≡ true → (tree_of t).level k ≤ last_level
unfolding tree_of
level_small t k f hk e = omega (arith, zarith, (f.limits k hk e).level)

-- No node of the tree is stated.
pub record Unstated (tree : Tree) : Type 0 where
  pub node : (k : ℕ) → k < nodes → there tree k ≡ true → is_stated tree k ≡ false

pub unstated_of_law : (tree : Tree) → any_stated tree ≡ false → Unstated tree
unfolding any_stated each_node
unstated_of_law tree h = record { node = λ k hk e. not-true _ (each_at (there tree) (λ j. not (is_stated tree j)) (not-false _ h) k hk e) }

pub of_unstated : (tree : Tree) → Unstated tree → any_stated tree ≡ false
unfolding any_stated each_node
of_unstated tree u = ap not (at_each (there tree) (λ j. not (is_stated tree j)) (λ k hk e. ap not (u.node k hk e)))

-- Sort and share kind are those that the plan's kind stands for.
pub kind_sort : (t : List ℤ) (k : ℕ) → Limits t k → sort_of (kind_of ((tree_of t).sort k) ((tree_of t).kind k)) ≡ (tree_of t).sort k
unfolding tree_of
kind_sort t k l = sort_of_kind ((tree_of t).sort k) ((tree_of t).kind k) (omega (arith, zarith, l.sort)) (omega (arith, zarith, l.sort)) (omega (arith, zarith, l.kind))

pub kind_share_law : (t : List ℤ) (k : ℕ) → Limits t k → share_kind_of (kind_of ((tree_of t).sort k) ((tree_of t).kind k)) ≡ (tree_of t).kind k
unfolding tree_of
kind_share_law t k l = share_of_kind ((tree_of t).sort k) ((tree_of t).kind k) (omega (arith, zarith, l.sort)) (omega (arith, zarith, l.sort)) (omega (arith, zarith, l.kind))

-- The entry of a node asks for what the table shows.
pub entry_join : (t : List ℤ) (k : ℕ) → Limits t k → join_of (entry_of (tree_of t) k) ≡ join_at t k
unfolding join_of entry_of join_at tree_of
entry_join t k l =
    let parent : pos (plus (place t k parent_at)) ≡ place t k parent_at = pos_of_within 0 last_node (place t k parent_at) l.parent in
    let sort : pos (sort_of (kind_of (plus (place t k sort_at)) (plus (place t k kind_at)))) ≡ place t k sort_at = ap pos (kind_sort t k l) ∙ pos_of_within class client (place t k sort_at) l.sort in
    let kind : pos (share_kind_of (kind_of (plus (place t k sort_at)) (plus (place t k kind_at)))) ≡ place t k kind_at = ap pos (kind_share_law t k l) ∙ pos_of_within fixed stated (place t k kind_at) l.kind in
    let share : pos (plus (place t k share_at)) ≡ place t k share_at = pos_of_within 1 (share_limit (plus (place t k kind_at))) (place t k share_at) l.share in
    let depth : pos (plus (place t k depth_at)) ≡ place t k depth_at = pos_of_within 1 greatest_depth (place t k depth_at) l.depth in
    λ i. record { node = pos k; parent = parent i; sort = sort i; kind = kind i; share = share i; depth = depth i; port = pos first_port }

module _ (t : List ℤ) (f : InOrder t) where
  pub listed_limits : (i : ℕ) → i < length (order (tree_of t)) → Limits t (listed (tree_of t) i)
  listed_limits i hi = let l = listed_node (tree_of t) i hi in f.limits (listed (tree_of t) i) l.small l.there

  listed_unstated : Unstated (tree_of t) → (i : ℕ) → i < length (order (tree_of t)) → is_stated (tree_of t) (listed (tree_of t) i) ≡ false
  listed_unstated plain i hi = let l = listed_node (tree_of t) i hi in plain.node (listed (tree_of t) i) l.small l.there

  -- Kinds and shares by the edition.
  kind_fits : (e : Edition) → unwritable e (tree_of t) ≡ false → (i : ℕ) → i < length (order (tree_of t)) → kind_of ((tree_of t).sort (listed (tree_of t) i)) ((tree_of t).kind (listed (tree_of t) i)) ≤ last_kind e
  unfolding unwritable any_stated last_kind tree_of
  kind_fits First h i hi =
      first_kind _ _ (omega (arith, zarith, (listed_limits i hi).kind, unstated_kind (tree_of t) (listed (tree_of t) i) (listed_unstated (unstated_of_law (tree_of t) h) i hi)))
  kind_fits Second h i hi = kind_small _ _

  share_fits_law : (e : Edition) → unwritable e (tree_of t) ≡ false → (i : ℕ) → i < length (order (tree_of t)) → (tree_of t).share (listed (tree_of t) i) < share_values e
  unfolding unwritable any_stated share_values tree_of
  share_fits_law First h i hi =
      let k : ℕ = listed (tree_of t) i in
      let share : (tree_of t).share k ≤ share_limit ((tree_of t).kind k) = omega (arith, zarith, (listed_limits i hi).share) in
      omega (arith, unstated_share (tree_of t) k share (listed_unstated (unstated_of_law (tree_of t) h) i hi))
  share_fits_law Second h i hi = omega (arith, zarith, (listed_limits i hi).share, limit_le ((tree_of t).kind (listed (tree_of t) i)))

  pub plan_fits : (e : Edition) → unwritable e (tree_of t) ≡ false → Fits e (plan_of t)
  unfolding plan_of entry_of rate tree_of listed
  plan_fits e h =
      record {
        rate = omega (arith, zarith, f.root.rate);
        depth = omega (arith, zarith, (f.limits root (omega arith) (root_there t f.root)).depth);
        count = order_short (tree_of t);
        kind = kind_fits e h;
        share = share_fits_law e h;
        deep = λ i hi. omega (arith, zarith, (listed_limits i hi).depth);
      }

  -- A parent stands before its children.
  parent_standing : (c k : ℕ) → c < nodes → (tree_of t).level k ≡ suc ((tree_of t).level c) → standing (tree_of t) c < standing (tree_of t) k
  unfolding standing
  parent_standing c k hc e = omega arith

  earlier : (l i : ℕ) → l < length (order (tree_of t)) → standing (tree_of t) (listed (tree_of t) l) < standing (tree_of t) (listed (tree_of t) i) → l < i
  earlier l i hl h =
      elim (dec_lt l i) [
        | yes low ↦ low
        | no high ↦ absurd (below_cases l i (omega arith) (λ low. omega (arith, (listed_rises (tree_of t)).up i l low hl)) (λ e. omega (arith, ap (λ (j : ℕ). standing (tree_of t) (listed (tree_of t) j)) e)))
      ]

  pub listed_parent : (i : ℕ) → i < length (order (tree_of t)) → ((tree_of t).parent (listed (tree_of t) i) ≡ root → ⊥) → (l : ℕ) × (l < i) × (listed (tree_of t) l ≡ (tree_of t).parent (listed (tree_of t) i))
  listed_parent i hi below =
      let found = listed_found (tree_of t) c (level_listed (tree_of t) c small below (class_there (tree_of t) c child.class) (level_small t c f small (class_there (tree_of t) c child.class))) in
      (found.0, earlier found.0 i found.1 (rw found.2 (parent_standing c k small child.level)), found.2)
    where
      k : ℕ
      k = listed (tree_of t) i

      c : ℕ
      c = (tree_of t).parent k

      child : Child (tree_of t) k
      child = let l = listed_node (tree_of t) i hi in f.child k l.small l.there l.below

      small : c < nodes
      small = limited_parent t k (listed_limits i hi)
