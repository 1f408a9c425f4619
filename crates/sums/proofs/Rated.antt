-- What a rated table satisfies: its sums can be reckoned, the rates below a class are at most the greatest. Which tables are
-- rated.
use Prim.Native.Nat.{ℕ, zero, suc, ◌*◌, ◌≤◌, ◌<◌}
use mathlib.Core.Path.{◌≡◌, refl, sym, ap, ◌∙◌, subst}
use mathlib.Core.Bool.{true, false, cond}
use mathlib.Core.List.{List}
use native.Mathlib.Omega.{arith}
use native.Mathlib.Nat.{mul-le-mul}
use native.Mathlib.Decide.{ℕ_discrete}
use lib.ListN.{length}
use lib.Dec.{eqb}
use lib.IntN.{ℤ}
use Rattle.numbers.specs.Whole.{plus}
use Rattle.numbers.proofs.Tests.{by_test}
use Rattle.numbers.proofs.Parts.{plus_pos, zarith}
use Rattle.numbers.proofs.Sums.{sum_bound}
use Rattle.definitions.specs.Limits.{table_length, nodes, root, weighted, last_level, whole_share, greatest_rate}
use Rattle.definitions.specs.Places.{rate}
use Rattle.definitions.specs.Tree.{Tree, tree_of, there, is_class, is_fixed, is_stated, child_of, count_if, sum_under}
use Rattle.definitions.specs.Rates.{kind_share, kind_sum, fixed_sum, weight_sum, renewed}
use Rattle.definitions.specs.Renewal.{below, rate_below}
use Rattle.definitions.specs.Order.{in_order}
use Rattle.definitions.proofs.ShareKinds.{limit_le, limit_unstated, weighted_kind_law, own_share, other_share}
use Rattle.definitions.proofs.Facts.{Limits, Root, Child, facts, root_there}
use Rattle.treelaws.proofs.Children.{child_of_law, child_facts, counted, uncounted}
use Rattle.treelaws.proofs.Renewed.{renewed_tree, renewed_length}
use Rattle.treelaws.proofs.Rounding.{Shared, child_rate_le, share_le_sum, rate_small}
use Rattle.treelaws.proofs.Way.{Ways, At, above}
use Rattle.treelaws.proofs.Below.{below_facts, below_level, by_parent, own_rate, rate_below_child}
use Rattle.sums.specs.Sums.{Shareable}
use Rattle.sums.specs.Rated.{Placed, Rated}

-- A rate times a share fits 64 bits.
pub product_small : (r s : ℕ) → r ≤ greatest_rate → s ≤ greatest_rate → r * s ≤ greatest_rate * greatest_rate
product_small r s hr hs = mul-le-mul hr hs

-- A share counts where it is of the kind that is summed.
pub share_of_law : (tree : Tree) (summed k kind share : ℕ) → tree.kind k ≡ kind → tree.share k ≡ share → kind_share tree summed k ≡ cond (eqb kind summed) share 0
unfolding kind_share
share_of_law tree summed k kind share hk hs = rw (hk, hs)

-- A node that is there, but for the root, is a child of its parent.
placed_child : (tree : Tree) (k : ℕ) → there tree k ≡ true → (k ≡ 0 → ⊥) → child_of tree (tree.parent k) k ≡ true
placed_child tree k e ne = child_of_law tree (tree.parent k) k (record { there = e; below = ne; parent = refl })

-- So the weights under its parent are more than nothing where it is weighted.
pub weights_there : (tree : Tree) (k : ℕ) → k < nodes → there tree k ≡ true → (k ≡ 0 → ⊥) → Placed tree k → is_stated tree k ≡ false → is_fixed tree k ≡ false → 1 ≤ weight_sum tree (tree.parent k)
weights_there tree k hk e ne p s f = omega (arith, p.least, share_le_sum tree (tree.parent k) weighted k hk (placed_child tree k e ne) (weighted_kind_law tree k p.kind s f))

module _ (t : List ℤ) (c : ℕ) (f : Rated t c) where
  share_small : (k : ℕ) → k < nodes → there (tree_of t) k ≡ true → (k ≡ root → ⊥) → Shared (tree_of t) greatest_rate k
  share_small k hk e ne =
      let p = f.node k hk e ne in
      record { kind = p.kind; share = p.most; stated = λ s. omega (arith, p.most, limit_le ((tree_of t).kind k)) }

  -- Its shares can be summed.
  pub shareable : Shareable (tree_of t)
  shareable =
      record {
        parent = λ k hk e ne. (f.node k hk e ne).parent;
        kind = λ k hk e ne. let p = f.node k hk e ne in omega (arith, p.kind);
        small = λ k hk e ne. let p = f.node k hk e ne in omega (arith, p.most, limit_le ((tree_of t).kind k));
      }

  -- The weights under a class sum to at most 64 x 10,000.
  weight_le : (k : ℕ) → Placed (tree_of t) k → kind_share (tree_of t) weighted k ≤ whole_share
  weight_le k p =
      elim (ℕ_discrete ((tree_of t).kind k) weighted) [
        | yes e ↦ omega (arith, own_share (tree_of t) weighted k e, p.most, limit_unstated ((tree_of t).kind k) (λ s. omega arith))
        | no ne ↦ omega (arith, other_share (tree_of t) weighted k ne)
      ]

  pub weights_small : (class : ℕ) → weight_sum (tree_of t) class ≤ nodes * whole_share
  unfolding kind_sum sum_under
  weights_small class =
      sum_bound nodes whole_share (λ k. count_if (child_of (tree_of t) class k) (kind_share (tree_of t) weighted) k)
      (λ k hk.
      by_test (child_of (tree_of t) class k)
      (λ e.
      let child = child_facts (tree_of t) class k e in
      omega (arith, counted (child_of (tree_of t) class k) (kind_share (tree_of t) weighted) k e, weight_le k (f.node k hk child.there child.below)))
      (λ e. omega (arith, uncounted (child_of (tree_of t) class k) (kind_share (tree_of t) weighted) k e)))

  -- No node stands lower than level 4.
  pub level_le : (k : ℕ) → k < nodes → there (tree_of t) k ≡ true → (tree_of t).level k ≤ last_level
  level_le k hk e = elim (ℕ_discrete k root) [ yes z ↦ omega (arith, f.top, ap (tree_of t).level z) | no ne ↦ (f.node k hk e ne).deep ]

  pub rated_ways : Ways (tree_of t)
  rated_ways =
      record {
        child = λ k hk e ne. let p = f.node k hk e ne in record { class = p.class; level = p.level };
        parent = λ k hk e ne. (f.node k hk e ne).parent;
        top = f.top;
      }

  -- No rate below a class exceeds the greatest, where the class's own does not.
  rate_le : (l r k : ℕ) → r ≤ greatest_rate → At (tree_of t) l k → below (tree_of t) c k ≡ true → rate_below (tree_of t) c r k ≤ greatest_rate
  rate_le zero r k small a h = absurd (omega (arith, a.level, below_level (tree_of t) rated_ways c k a.low h))
  rate_le (suc l) r k small a h =
      let tree = tree_of t in
      let up = above tree rated_ways l k a in
      omega (
        arith,
        rate_below_child tree rated_ways l c r k a (omega (arith, a.level, below_level tree rated_ways c k a.low h)),
        child_rate_le tree (tree.parent k) (rate_below tree c r (tree.parent k)) greatest_rate k a.low (placed_child tree k a.there up.below) (share_small k a.low a.there up.below)
            (by_parent tree rated_ways {P = rate_below tree c r (tree.parent k) ≤ greatest_rate} l c k a h
            (λ e. omega (arith, ap (rate_below tree c r) e, own_rate tree c r))
            (λ e. rate_le l r (tree.parent k) small up.up e)),
      )

  pub rate_below_le : (k : ℕ) → k < nodes → below (tree_of t) c k ≡ true → rate_below (tree_of t) c (rate t c) k ≤ greatest_rate
  rate_below_le k hk h = rate_le ((tree_of t).level k) (rate t c) k f.own (record { low = hk; there = (below_facts (tree_of t) c k h).there; level = refl }) h

-- What makes a table rated: its root, the limits of its nodes, their parents, the fixed shares under each class, and the
-- class's own rate.
pub rated_of : (t : List ℤ) (c : ℕ) → length t ≡ table_length → Root t → ((k : ℕ) → k < nodes → there (tree_of t) k ≡ true → Limits t k) → ((k : ℕ) → k < nodes → there (tree_of t) k ≡ true → (k ≡ 0 → ⊥) → Child (tree_of t) k) → ((c : ℕ) → c < nodes → is_class (tree_of t) c ≡ true → fixed_sum (tree_of t) c ≤ whole_share) → c < nodes → there (tree_of t) c ≡ true → rate t c ≤ greatest_rate → Rated t c
unfolding tree_of
rated_of t c long root limits child shares low here own =
    record {
      long = long;
      top = ap plus root.level ∙ plus_pos 0;
      node = λ k hk e ne.
          let l = limits k hk e in
          let parent : (tree_of t).parent k < nodes = omega (arith, zarith) in
          let class = (child k hk e ne).class in
          record {
            parent = parent;
            class = class;
            level = (child k hk e ne).level;
            deep = omega (arith, zarith);
            kind = omega (arith, zarith);
            least = omega (arith, zarith);
            most = omega (arith, zarith);
            shares = shares ((tree_of t).parent k) parent class;
          };
      low = low;
      here = here;
      own = own;
    }

-- A table that is in order once its rates are renewed is rated: what rates are worked out from is the same before and after.
pub rated_before : (u : List ℤ) (c : ℕ) → in_order (renewed u) ≡ true → c < nodes → there (tree_of u) c ≡ true → rate u c ≤ greatest_rate → Rated u c
rated_before u c h low here own =
    let f = facts (renewed u) h in
    let r = rated_of (renewed u) root f.long f.root f.limits f.child (λ c hc e. (f.class c hc e).shares) (omega arith) (root_there (renewed u) f.root) (rate_small (renewed u) f root (omega arith)) in
    let same = renewed_tree u in
    record {
      long = sym (renewed_length u) ∙ f.long;
      top = rw same at r.top;
      node = subst (λ (tree : Tree). (k : ℕ) → k < nodes → there tree k ≡ true → (k ≡ 0 → ⊥) → Placed tree k) same r.node;
      low = low;
      here = here;
      own = own;
    }
