-- The rounding law: the rates of a class's children sum to at most the class's rate, for any number of children of mixed
-- kinds. The stated children get their shares, and the others divide the rest. Rounding down each part of a sum gives at most
-- the sum rounded down; so the fixed children get at most the rest x their shares / 10,000, and the weighted ones at most what
-- is left.
use Prim.Native.Nat.{ℕ, zero, suc, ◌+◌, ◌*◌, ◌-◌, ◌/◌, ◌≤◌, ◌<◌}
use mathlib.Core.Path.{◌≡◌, refl, sym, ap, ◌∙◌}
use mathlib.Core.Bool.{true, false, cond}
use mathlib.Core.List.{List, [], ◌∷◌}
use native.Mathlib.Omega.{arith}
use native.Mathlib.Nat.{div-mul-le_self, le-div_iff_mul-le, div-le_of_le-mul, div-zero, mul-le-mul_left, add-zero}
use native.Mathlib.Decide.{ℕ_discrete}
use borrow.Author.Tests.{eq-eqb}
use lib.IntN.{ℤ}
use Rattle.numbers.specs.Whole.{plus, minus}
use Rattle.numbers.specs.Below.{sum_below}
use Rattle.numbers.proofs.Tests.{by_test, cond_true, cond_false}
use Rattle.numbers.proofs.Parts.{plus_pos, minus_pos, zarith}
use Rattle.definitions.specs.Limits.{nodes, root, kind_at, rate_at, fixed as fixed_kind, weighted as weighted_kind, stated as stated_kind, whole_share, greatest_rate, share_limit}
use Rattle.definitions.specs.Tree.{Tree, tree_of, there, is_class, is_fixed, is_stated, child_of, count_if, sum_under}
use Rattle.definitions.specs.Places.{place, rate}
use Rattle.definitions.specs.Rates.{kind_share, kind_sum, fixed_sum, weight_sum, stated_sum, fixed_rate, left_rate, weighted_rate, divided_rate, unstated_rate, child_rate, rate_at_level, rate_in}
use Rattle.definitions.proofs.Facts.{InOrder}
use Rattle.definitions.proofs.ShareKinds.{stated_kind_law, unstated_kind, fixed_kind_law, weighted_kind_law, own_share, other_share, unstated_share}
use Rattle.treelaws.proofs.Children.{class_there, child_facts, child_of_law, child_le_sum, under_cong, under_zero}
use Rattle.treelaws.specs.Shares.{Share, fixed, weighted, stated, fixed_part, weight_part, stated_part, divided_part, sum_of, share_rate, rest_of, rates_of}
use Rattle.treelaws.specs.Lost.{divided_count}

-- Rounding down.
parts_le : (a s u m : ℕ) → a * s / m + a * u / m ≤ a * (s + u) / m
parts_le a s u zero = omega (arith, div-zero (a * s), div-zero (a * u))
parts_le a s u (suc m) =
    (le-div_iff_mul-le {k = suc m} {x = a * s / suc m + a * u / suc m} {y = a * (s + u)} (omega arith)).1
    (omega (arith, div-mul-le_self (a * s) (suc m), div-mul-le_self (a * u) (suc m)))

part_le : (a s m : ℕ) → s ≤ m → a * s / m ≤ a
part_le a s m h = div-le_of_le-mul m (omega (arith, mul-le-mul_left a h))

-- The pieces of a rate.
pub fixed_le : (r s : ℕ) → s ≤ whole_share → fixed_rate r s ≤ r
unfolding fixed_rate
fixed_le r s h = part_le r s whole_share h

pub left_le : (r f : ℕ) → left_rate r f ≤ r
unfolding left_rate
left_le r f = part_le r (whole_share - f) whole_share (omega arith)

pub weighted_le : (l s w : ℕ) → s ≤ w → weighted_rate l s w ≤ l
unfolding weighted_rate
weighted_le l s w h = part_le l s w h

pub unstated_le : (r s : ℕ) → unstated_rate r s ≤ r
unfolding unstated_rate
unstated_le r s = omega arith

-- The rates of any list of shares, whatever sums they are reckoned with.
pub rates_le : (r f w : ℕ) (shares : List Share) → sum_of (share_rate r f w) shares ≤ sum_of stated_part shares + fixed_rate r (sum_of fixed_part shares) + weighted_rate (left_rate r f) (sum_of weight_part shares) w
unfolding sum_of share_rate fixed_part weight_part stated_part fixed_rate weighted_rate
rates_le r f w [] = omega arith
rates_le r f w (fixed s ∷ shares) = rw (add-zero, add-zero) (omega (arith, rates_le r f w shares, parts_le r (sum_of fixed_part shares) s whole_share))
rates_le r f w (weighted s ∷ shares) = omega (arith, rates_le r f w shares, parts_le (left_rate r f) (sum_of weight_part shares) s w)
rates_le r f w (stated s ∷ shares) = rw (add-zero, add-zero) (omega (arith, rates_le r f w shares))

-- The fixed part and what is left are at most the whole.
pub fixed_and_left : (r f : ℕ) → f ≤ whole_share → fixed_rate r f + left_rate r f ≤ r
unfolding fixed_rate left_rate
fixed_and_left r f h = let whole : f + (whole_share - f) ≡ whole_share = omega arith in omega (arith, rw whole at (parts_le r f (whole_share - f) whole_share))

-- The law, for a class of any rate and any list of shares.
pub rounding : (r : ℕ) (shares : List Share) → sum_of fixed_part shares ≤ whole_share → sum_of stated_part shares ≤ r → rates_of r shares ≤ r
unfolding rates_of rest_of unstated_rate
rounding r shares h fits =
    let rest : ℕ = r - sum_of stated_part shares in
    omega (arith, rates_le rest (sum_of fixed_part shares) (sum_of weight_part shares) shares, fixed_and_left rest (sum_of fixed_part shares) h, weighted_le (left_rate rest (sum_of fixed_part shares)) (sum_of weight_part shares) (sum_of weight_part shares) (omega arith))

-- The share of node k, and the shares of the children of class c below n.
share_of : Tree → ℕ → Share
share_of tree k = cond (is_stated tree k) (stated (tree.share k)) (cond (is_fixed tree k) (fixed (tree.share k)) (weighted (tree.share k)))

children : Tree → ℕ → ℕ → List Share
children tree c zero = []
children tree c (suc n) = cond (child_of tree c n) (share_of tree n ∷ children tree c n) (children tree c n)

-- A sum over the children is one over their shares, where the terms agree.
sum_of_children : (tree : Tree) (c n : ℕ) (f : ℕ → ℕ) (g : Share → ℕ) → ((k : ℕ) → k < n → child_of tree c k ≡ true → f k ≡ g (share_of tree k)) → sum_below n (λ k. count_if (child_of tree c k) f k) ≡ sum_of g (children tree c n)
unfolding sum_below count_if sum_of children
sum_of_children tree c zero f g h = refl
sum_of_children tree c (suc n) f g h =
    by_test (child_of tree c n)
    (λ e. rw e (omega (arith, sum_of_children tree c n f g lower, h n (omega arith) e)))
    (λ e. rw e (omega (arith, sum_of_children tree c n f g lower)))
  where
    lower : (k : ℕ) → k < n → child_of tree c k ≡ true → f k ≡ g (share_of tree k)
    lower k hk = h k (omega arith)

-- A share by its kind.
module _ (tree : Tree) (k : ℕ) where
  share_stated : is_stated tree k ≡ true → share_of tree k ≡ stated (tree.share k)
  unfolding share_of
  share_stated e = cond_true (is_stated tree k) _ _ e

  share_fixed : is_stated tree k ≡ false → is_fixed tree k ≡ true → share_of tree k ≡ fixed (tree.share k)
  unfolding share_of
  share_fixed e f = cond_false (is_stated tree k) _ _ e ∙ cond_true (is_fixed tree k) _ _ f

  share_weighted : is_stated tree k ≡ false → is_fixed tree k ≡ false → share_of tree k ≡ weighted (tree.share k)
  unfolding share_of
  share_weighted e f = cond_false (is_stated tree k) _ _ e ∙ cond_false (is_fixed tree k) _ _ f

  by_share : {P : Type 0} → (is_stated tree k ≡ true → P) → (is_stated tree k ≡ false → is_fixed tree k ≡ true → P) → (is_stated tree k ≡ false → is_fixed tree k ≡ false → P) → P
  by_share s f w = by_test (is_stated tree k) s (λ e. by_test (is_fixed tree k) (f e) (w e))

-- A child's rate by its kind.
pub stated_child : (tree : Tree) (r k : ℕ) → is_stated tree k ≡ true → child_rate tree r k ≡ tree.share k
unfolding child_rate
stated_child tree r k e = cond_true (is_stated tree k) _ _ e

pub fixed_child : (tree : Tree) (c r k : ℕ) → tree.parent k ≡ c → is_stated tree k ≡ false → is_fixed tree k ≡ true → child_rate tree r k ≡ fixed_rate (unstated_rate r (stated_sum tree c)) (tree.share k)
unfolding child_rate divided_rate
fixed_child tree c r k p e f = rw p (cond_false (is_stated tree k) _ _ e ∙ cond_true (is_fixed tree k) _ _ f)

pub weighted_child : (tree : Tree) (c r k : ℕ) → tree.parent k ≡ c → is_stated tree k ≡ false → is_fixed tree k ≡ false → child_rate tree r k ≡ weighted_rate (left_rate (unstated_rate r (stated_sum tree c)) (fixed_sum tree c)) (tree.share k) (weight_sum tree c)
unfolding child_rate divided_rate
weighted_child tree c r k p e f = rw p (cond_false (is_stated tree k) _ _ e ∙ cond_false (is_fixed tree k) _ _ f)

-- The terms of the sums agree, where the kind is one of the three.
module _ (tree : Tree) (k : ℕ) (small : tree.kind k ≤ stated_kind) where
  fixed_share : kind_share tree fixed_kind k ≡ fixed_part (share_of tree k)
  unfolding fixed_part
  fixed_share =
      by_share tree k
      (λ s. rw (share_stated tree k s) (other_share tree fixed_kind k (λ e. omega (arith, stated_kind_law tree k s))))
      (λ s f. rw (share_fixed tree k s f) (own_share tree fixed_kind k (fixed_kind_law tree k f)))
      (λ s f. rw (share_weighted tree k s f) (other_share tree fixed_kind k (λ e. omega (arith, weighted_kind_law tree k small s f))))

  weight_share : kind_share tree weighted_kind k ≡ weight_part (share_of tree k)
  unfolding weight_part
  weight_share =
      by_share tree k
      (λ s. rw (share_stated tree k s) (other_share tree weighted_kind k (λ e. omega (arith, stated_kind_law tree k s))))
      (λ s f. rw (share_fixed tree k s f) (other_share tree weighted_kind k (λ e. omega (arith, fixed_kind_law tree k f))))
      (λ s f. rw (share_weighted tree k s f) (own_share tree weighted_kind k (weighted_kind_law tree k small s f)))

  stated_share : kind_share tree stated_kind k ≡ stated_part (share_of tree k)
  unfolding stated_part
  stated_share =
      by_share tree k
      (λ s. rw (share_stated tree k s) (own_share tree stated_kind k (stated_kind_law tree k s)))
      (λ s f. rw (share_fixed tree k s f) (other_share tree stated_kind k (unstated_kind tree k s)))
      (λ s f. rw (share_weighted tree k s f) (other_share tree stated_kind k (unstated_kind tree k s)))

  divided_share : cond (is_stated tree k) 0 1 ≡ divided_part (share_of tree k)
  unfolding divided_part
  divided_share =
      by_share tree k
      (λ s. rw (share_stated tree k s) (cond_true (is_stated tree k) 0 1 s))
      (λ s f. rw (share_fixed tree k s f) (cond_false (is_stated tree k) 0 1 s))
      (λ s f. rw (share_weighted tree k s f) (cond_false (is_stated tree k) 0 1 s))

rate_share : (tree : Tree) (r c k : ℕ) → tree.parent k ≡ c → child_rate tree r k ≡ share_rate (unstated_rate r (stated_sum tree c)) (fixed_sum tree c) (weight_sum tree c) (share_of tree k)
unfolding share_rate
rate_share tree r c k p =
    by_share tree k
    (λ s. rw (share_stated tree k s) (stated_child tree r k s))
    (λ s f. rw (share_fixed tree k s f) (fixed_child tree c r k p s f))
    (λ s f. rw (share_weighted tree k s f) (weighted_child tree c r k p s f))

-- Every child of class c is of one of the three kinds.
pub Kinded : Tree → ℕ → Type 0
Kinded tree c = (k : ℕ) → k < nodes → child_of tree c k ≡ true → tree.kind k ≤ stated_kind

-- The shares of the children of class c as one list, with the sums over the children as sums over the list; the class has
-- the rate r.
pub record Listed (tree : Tree) (c r : ℕ) : Type 0 where
  pub shares : List Share
  pub fixed_shares : fixed_sum tree c ≡ sum_of fixed_part shares
  pub weights : weight_sum tree c ≡ sum_of weight_part shares
  pub stated_rates : stated_sum tree c ≡ sum_of stated_part shares
  pub rates : sum_under tree c (child_rate tree r) ≡ rates_of r shares
  pub count : divided_count tree c ≡ sum_of divided_part shares

pub listed : (tree : Tree) (c r : ℕ) → Kinded tree c → Listed tree c r
unfolding kind_sum sum_under rates_of rest_of divided_count Kinded
listed tree c r kinds =
    let shares : List Share = children tree c nodes in
    let fixed_shares : fixed_sum tree c ≡ sum_of fixed_part shares = sum_of_children tree c nodes (kind_share tree fixed_kind) fixed_part (λ k hk e. fixed_share tree k (kinds k hk e)) in
    let weights : weight_sum tree c ≡ sum_of weight_part shares = sum_of_children tree c nodes (kind_share tree weighted_kind) weight_part (λ k hk e. weight_share tree k (kinds k hk e)) in
    let stated_rates : stated_sum tree c ≡ sum_of stated_part shares = sum_of_children tree c nodes (kind_share tree stated_kind) stated_part (λ k hk e. stated_share tree k (kinds k hk e)) in
    record {
      shares = shares;
      fixed_shares = fixed_shares;
      weights = weights;
      stated_rates = stated_rates;
      rates =
          sum_of_children tree c nodes (child_rate tree r) (share_rate (unstated_rate r (sum_of stated_part shares)) (sum_of fixed_part shares) (sum_of weight_part shares))
          (λ k hk e. rate_share tree r c k (child_facts tree c k e).parent ∙ rw (fixed_shares, weights, stated_rates));
      count = sum_of_children tree c nodes (λ k. cond (is_stated tree k) 0 1) divided_part (λ k hk e. divided_share tree k (kinds k hk e));
    }

-- The law by node numbers: the rates of the children of class c, where its rate is r.
pub children_rates : (tree : Tree) (c r : ℕ) → Kinded tree c → fixed_sum tree c ≤ whole_share → stated_sum tree c ≤ r → sum_under tree c (child_rate tree r) ≤ r
children_rates tree c r kinds h fits = let l = listed tree c r kinds in omega (arith, rounding r l.shares (omega arith) (omega arith))

-- A node one level below its parent has the rate of a child of it.
pub rate_of_child : (tree : Tree) (disk k : ℕ) → tree.level k ≡ suc (tree.level (tree.parent k)) → rate_in tree disk k ≡ child_rate tree (rate_in tree disk (tree.parent k)) k
unfolding rate_in rate_at_level
rate_of_child tree disk k e = rw e

-- A child's share is at most the sum of its kind.
pub share_le_sum : (tree : Tree) (c kind k : ℕ) → k < nodes → child_of tree c k ≡ true → tree.kind k ≡ kind → tree.share k ≤ kind_sum tree kind c
unfolding kind_sum
share_le_sum tree c kind k hk h e = rw (own_share tree kind k e) at (child_le_sum tree c (kind_share tree kind) k hk h)

-- The share of node k keeps its kind's limit, and m where it is stated.
pub record Shared (tree : Tree) (m k : ℕ) : Type 0 where
  pub kind : tree.kind k ≤ stated_kind
  pub share : tree.share k ≤ share_limit (tree.kind k)
  pub stated : is_stated tree k ≡ true → tree.share k ≤ m

-- Then a child's rate is at most m where its class's is.
fixed_child_le : (tree : Tree) (r m k : ℕ) → Shared tree m k → r ≤ m → is_stated tree k ≡ false → is_fixed tree k ≡ true → child_rate tree r k ≤ m
fixed_child_le tree r m k shared h s f =
    let rest : ℕ = unstated_rate r (stated_sum tree (tree.parent k)) in
    omega (arith, fixed_child tree (tree.parent k) r k refl s f, fixed_le rest (tree.share k) (unstated_share tree k shared.share s), unstated_le r (stated_sum tree (tree.parent k)))

pub child_rate_le : (tree : Tree) (c r m k : ℕ) → k < nodes → child_of tree c k ≡ true → Shared tree m k → r ≤ m → child_rate tree r k ≤ m
child_rate_le tree c r m k hk h shared small =
    by_share tree k
    (λ s. omega (arith, stated_child tree r k s, shared.stated s))
    (λ s f. fixed_child_le tree r m k shared small s f)
    (λ s f.
    let rest : ℕ = unstated_rate r (stated_sum tree c) in
    let heavy : tree.share k ≤ weight_sum tree c = share_le_sum tree c weighted_kind k hk h (weighted_kind_law tree k shared.kind s f) in
    omega
    (arith, weighted_child tree c r k (child_facts tree c k h).parent s f, unstated_le r (stated_sum tree c), left_le rest (fixed_sum tree c), weighted_le (left_rate rest (fixed_sum tree c)) (tree.share k) (weight_sum tree c) heavy))

-- What bounds every rate by the disk's: the root is fixed; of each node that is there the share keeps its limit, a stated one
-- the disk's rate, and its parent is there.
pub record Bounded (tree : Tree) (disk : ℕ) : Type 0 where
  pub root : tree.kind 0 ≡ fixed_kind
  pub share : (k : ℕ) → k < nodes → there tree k ≡ true → Shared tree disk k
  pub parent : (k : ℕ) → k < nodes → there tree k ≡ true → tree.parent k < nodes
  pub above : (k : ℕ) → k < nodes → there tree k ≡ true → there tree (tree.parent k) ≡ true

-- Then no rate exceeds the disk's, at whatever level it is reckoned.
pub rate_bounded : (tree : Tree) (disk : ℕ) → Bounded tree disk → (l k : ℕ) → k < nodes → there tree k ≡ true → rate_at_level tree disk l k ≤ disk
unfolding rate_at_level is_stated is_fixed
rate_bounded tree disk b zero k hk e = omega arith
rate_bounded tree disk b (suc l) k hk e = step (rate_at_level tree disk l (tree.parent k)) (rate_bounded tree disk b l (tree.parent k) (b.parent k hk e) (b.above k hk e))
  where
    top : k ≡ 0 → (is_stated tree k ≡ false) × (is_fixed tree k ≡ true)
    top z = (rw (z, b.root), rw (z, b.root))

    step : (r : ℕ) → r ≤ disk → child_rate tree r k ≤ disk
    step r small =
        elim (ℕ_discrete k 0) [
          | yes z ↦ fixed_child_le tree r disk k (b.share k hk e) small (top z).0 (top z).1
          | no ne ↦ child_rate_le tree (tree.parent k) r disk k hk (child_of_law tree (tree.parent k) k (record { there = e; below = ne; parent = refl })) (b.share k hk e) small
        ]

-- A table in order meets this. Its stated rates under each class are within the class's: under the root by the test, elsewhere
-- there are none.
pub no_stated_under : (t : List ℤ) → InOrder t → (c : ℕ) → (c ≡ root → ⊥) → stated_sum (tree_of t) c ≡ 0
unfolding kind_sum is_stated
no_stated_under t f c ne =
    under_zero (tree_of t) c (kind_share (tree_of t) stated_kind)
    (λ k hk child. other_share (tree_of t) stated_kind k (λ e. ne (sym child.parent ∙ f.stated.under k hk child.there (eq-eqb ((tree_of t).kind k) stated_kind e))))

pub share_in_order : (t : List ℤ) → InOrder t → (k : ℕ) → k < nodes → there (tree_of t) k ≡ true → (k ≡ root → ⊥) → Shared (tree_of t) (rate t root) k
unfolding tree_of
share_in_order t f k hk e ne =
    let l = f.limits k hk e in
    record {
      kind = omega (arith, zarith, l.kind);
      share = omega (arith, zarith, l.share);
      stated = λ s.
          omega (
            arith,
            share_le_sum (tree_of t) root stated_kind k hk (child_of_law (tree_of t) root k (record { there = e; below = ne; parent = f.stated.under k hk e s })) (stated_kind_law (tree_of t) k s),
            f.stated.fits,
          );
    }

pub in_order_bounded : (t : List ℤ) → InOrder t → Bounded (tree_of t) (rate t root)
unfolding tree_of is_stated
in_order_bounded t f =
    record {
      root = top;
      share = λ k hk e.
          elim (ℕ_discrete k 0) [
            | yes z ↦ (let l = f.limits k hk e in record { kind = omega (arith, zarith, l.kind); share = omega (arith, zarith, l.share); stated = λ s. absurd (omega (arith, stated_kind_law (tree_of t) k s, ap (λ (j : ℕ). plus (place t j kind_at)) z, top)) })
            | no ne ↦ share_in_order t f k hk e ne
          ];
      parent = λ k hk e. let l = (f.limits k hk e).parent in omega (arith, zarith);
      above = λ k hk e. elim (ℕ_discrete k 0) [ yes z ↦ rw (z, f.root.parent, plus_pos) (rw z at e) | no ne ↦ class_there (tree_of t) ((tree_of t).parent k) (f.child k hk e ne).class ];
    }
  where
    top : plus (place t 0 kind_at) ≡ fixed_kind
    top = rw (f.root.kind, plus_pos)

pub kinds_in_order : (t : List ℤ) → InOrder t → (c : ℕ) → Kinded (tree_of t) c
unfolding Kinded tree_of
kinds_in_order t f c k hk child = let l = (f.limits k hk (child_facts (tree_of t) c k child).there).kind in omega (arith, zarith)

pub stated_fit_law : (t : List ℤ) → InOrder t → (c : ℕ) → stated_sum (tree_of t) c ≤ rate t c
stated_fit_law t f c = elim (ℕ_discrete c root) [ yes z ↦ rw z f.stated.fits | no ne ↦ omega (arith, no_stated_under t f c ne) ]

-- A node's rate, as it stands in a table in order, is the one that the tree gives it.
pub rate_in_order_law : (t : List ℤ) → InOrder t → (k : ℕ) → k < nodes → there (tree_of t) k ≡ true → rate t k ≡ rate_in (tree_of t) (rate t root) k
unfolding rate
rate_in_order_law t f k hk h = ap plus (f.rates k hk h) ∙ plus_pos (rate_in (tree_of t) (rate t root) k)

-- So the rates of a class's children are those of children of its own rate, and sum to at most that.
pub rates_under : (t : List ℤ) → InOrder t → (c : ℕ) → c < nodes → is_class (tree_of t) c ≡ true → sum_under (tree_of t) c (rate t) ≡ sum_under (tree_of t) c (child_rate (tree_of t) (rate t c))
rates_under t f c hc e =
    let tree = tree_of t in
    let disk = rate t root in
    under_cong tree c (rate t) (child_rate tree (rate t c))
    (λ k hk child.
    rate_in_order_law t f k hk child.there
    ∙ rate_of_child tree disk k (f.child k hk child.there child.below).level
    ∙ ap (λ p. child_rate tree (rate_in tree disk p) k) child.parent
    ∙ ap (λ r. child_rate tree r k) (sym (rate_in_order_law t f c hc (class_there tree c e))))

pub fair_rates : (t : List ℤ) → InOrder t → (c : ℕ) → c < nodes → is_class (tree_of t) c ≡ true → sum_under (tree_of t) c (rate t) ≤ rate t c
fair_rates t f c hc e = omega (arith, rates_under t f c hc e, children_rates (tree_of t) c (rate t c) (kinds_in_order t f c) (f.class c hc e).shares (stated_fit_law t f c))

-- No rate exceeds the disk's.
pub rates_in_order : (t : List ℤ) → InOrder t → (k : ℕ) → k < nodes → there (tree_of t) k ≡ true → rate_in (tree_of t) (rate t root) k ≤ rate t root
unfolding rate_in
rates_in_order t f k hk e = rate_bounded (tree_of t) (rate t root) (in_order_bounded t f) ((tree_of t).level k) k hk e

-- A rate of a table in order is no negative number, and at most the greatest.
pub rate_natural : (t : List ℤ) → InOrder t → (k : ℕ) → k < nodes → there (tree_of t) k ≡ true → minus (place t k rate_at) ≡ 0
rate_natural t f k hk e = ap minus (f.rates k hk e) ∙ minus_pos _

pub rate_small : (t : List ℤ) → InOrder t → (k : ℕ) → k < nodes → rate t k ≤ greatest_rate
unfolding rate
rate_small t f k hk =
    by_test (there (tree_of t) k)
    (λ h. omega (arith, zarith, rate_in_order_law t f k hk h, rates_in_order t f k hk h, f.root.rate))
    (λ h. omega (arith, ap plus (f.empty k hk h rate_at (omega arith)), plus_pos 0))
