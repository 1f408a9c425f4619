-- The law on lost grains, for any number of children of mixed kinds. The stated ones lose nothing. Each division loses less than
-- a grain. What the stated rates leave is divided once for each of n fixed children and once for what is left: that loses less
-- than n + 1 grains, so at most n. What is left is divided among all of the weighted children: that loses fewer grains than there
-- are of them.
use Prim.Native.Nat.{ℕ, ◌+◌, ◌*◌, ◌-◌, ◌≤◌, ◌<◌}
use mathlib.Core.Path.{◌≡◌, refl, ap}
use mathlib.Core.Bool.{true}
use mathlib.Core.List.{List, [], ◌∷◌}
use native.Mathlib.Omega.{arith}
use native.Mathlib.Nat.{div-zero, lt_of_mul-lt-mul_right}
use lib.IntN.{ℤ, pos}
use lib.Signed.{le_z}
use Rattle.numbers.specs.Whole.{plus, minus}
use Rattle.numbers.proofs.Tests.{by_test, cond_true}
use Rattle.numbers.proofs.Parts.{one_is_zero, plus_pos, minus_pos, eq_parts, add_parts, zarith}
use Rattle.definitions.specs.Limits.{nodes, weighted as weighted_kind, whole_share}
use Rattle.definitions.specs.Places.{rate}
use Rattle.definitions.specs.Tree.{tree_of, is_class, child_of, sum_under}
use Rattle.definitions.specs.Rates.{kind_share, kind_sum, fixed_sum, weight_sum, fixed_rate, left_rate, weighted_rate, unstated_rate}
use Rattle.definitions.specs.Calls.{lost_grains}
use Rattle.definitions.proofs.Facts.{InOrder}
use Rattle.definitions.proofs.Rates.{fixed_rounded, left_rounded, weighted_rounded}
use Rattle.definitions.proofs.Look.{class_rate_law, client_loses}
use Rattle.definitions.proofs.ShareKinds.{stated_kind_law, other_share}
use Rattle.treelaws.specs.Shares.{Share, fixed, weighted, stated, fixed_part, weight_part, stated_part, divided_part, sum_of, share_rate, rest_of, rates_of}
use Rattle.treelaws.specs.Lost.{Lost, divided_count, unstated_of, left_of, NoneWeighted, AllStated}
use Rattle.treelaws.proofs.Children.{child_facts, child_of_law, class_there, no_children_law, under_zero}
use Rattle.treelaws.proofs.Rounding.{rates_le, fixed_and_left, listed, share_le_sum, kinds_in_order, stated_fit_law, rates_under, fair_rates, rate_natural}

-- The shares of a list by kind: how many there are, the sums of their rates, and how near these come to what is divided. A
-- rate and a grain more is above its exact part; the last two fields are the sums of that, free of fractions.
record ByKind (r f w : ℕ) (shares : List Share) : Type 0 where
  fixed_count : ℕ
  weighted_count : ℕ
  fixed_rates : ℕ
  weighted_rates : ℕ
  count : fixed_count + weighted_count ≡ sum_of divided_part shares
  rates : sum_of stated_part shares + fixed_rates + weighted_rates ≡ sum_of (share_rate r f w) shares
  some_fixed : 0 < sum_of fixed_part shares → 0 < fixed_count
  some_weighted : 0 < sum_of weight_part shares → 0 < weighted_count
  fixed_near : r * sum_of fixed_part shares + fixed_count ≤ (fixed_rates + fixed_count) * whole_share
  weighted_near : 0 < w → left_rate r f * sum_of weight_part shares + weighted_count ≤ (weighted_rates + weighted_count) * w

by_kind : (r f w : ℕ) (shares : List Share) → ByKind r f w shares
unfolding sum_of share_rate fixed_part weight_part stated_part divided_part
by_kind r f w [] =
    record {
      fixed_count = 0;
      weighted_count = 0;
      fixed_rates = 0;
      weighted_rates = 0;
      count = refl;
      rates = refl;
      some_fixed = λ h. h;
      some_weighted = λ h. h;
      fixed_near = omega arith;
      weighted_near = λ h. omega arith;
    }
by_kind r f w (fixed s ∷ shares) =
    let p = by_kind r f w shares in
    record {
      fixed_count = p.fixed_count + 1;
      weighted_count = p.weighted_count;
      fixed_rates = p.fixed_rates + fixed_rate r s;
      weighted_rates = p.weighted_rates;
      count = omega arith;
      rates = omega arith;
      some_fixed = λ h. omega arith;
      some_weighted = λ h. p.some_weighted (omega arith);
      fixed_near = omega (arith, fixed_rounded r s);
      weighted_near = λ h. omega (arith, p.weighted_near h);
    }
by_kind r f w (weighted s ∷ shares) =
    let p = by_kind r f w shares in
    record {
      fixed_count = p.fixed_count;
      weighted_count = p.weighted_count + 1;
      fixed_rates = p.fixed_rates;
      weighted_rates = p.weighted_rates + weighted_rate (left_rate r f) s w;
      count = omega arith;
      rates = omega arith;
      some_fixed = λ h. p.some_fixed (omega arith);
      some_weighted = λ h. omega arith;
      fixed_near = omega arith;
      weighted_near = λ h. omega (arith, p.weighted_near h, weighted_rounded (left_rate r f) s w h);
    }
by_kind r f w (stated s ∷ shares) =
    let p = by_kind r f w shares in
    record {
      fixed_count = p.fixed_count;
      weighted_count = p.weighted_count;
      fixed_rates = p.fixed_rates;
      weighted_rates = p.weighted_rates;
      count = omega arith;
      rates = omega arith;
      some_fixed = λ h. p.some_fixed (omega arith);
      some_weighted = λ h. p.some_weighted (omega arith);
      fixed_near = omega arith;
      weighted_near = λ h. omega (arith, p.weighted_near h);
    }

-- The law for a class of rate r and a list of shares.
pub record LostOf (r : ℕ) (shares : List Share) : Type 0 where
  pub weighted : 0 < sum_of weight_part shares → r < rates_of r shares + sum_of divided_part shares
  pub full : sum_of fixed_part shares ≡ whole_share → r < rates_of r shares + sum_of divided_part shares
  pub least : sum_of weight_part shares ≡ 0 → left_rate (rest_of r shares) (sum_of fixed_part shares) + rates_of r shares ≤ r
  pub most : r ≤ rates_of r shares + left_rate (rest_of r shares) (sum_of fixed_part shares) + sum_of divided_part shares

pub lost_of : (r : ℕ) (shares : List Share) → sum_of fixed_part shares ≤ whole_share → sum_of stated_part shares ≤ r → LostOf r shares
unfolding rates_of rest_of unstated_rate weighted_rate
lost_of r shares h fits =
    let f : ℕ = sum_of fixed_part shares in
    let w : ℕ = sum_of weight_part shares in
    let rest : ℕ = r - sum_of stated_part shares in
    let left : ℕ = left_rate rest f in
    let p = by_kind rest f w shares in
    let near : rest ≤ p.fixed_rates + p.fixed_count + left = omega (arith, left_rounded rest f, ap (λ (s : ℕ). rest * s) (whole f h)) in
    record {
      weighted = λ some. omega (arith, lt_of_mul-lt-mul_right w {m = left} {n = p.weighted_rates + p.weighted_count} (omega (arith, p.some_weighted some, p.weighted_near some)));
      full = λ all. omega (arith, p.some_fixed (omega arith), ap (λ (s : ℕ). rest * s) all);
      least = λ none. omega (arith, rates_le rest f w shares, fixed_and_left rest f h, nothing left w none);
      most = omega arith;
    }
  where
    whole : (f : ℕ) → f ≤ whole_share → f + (whole_share - f) ≡ whole_share
    whole f h = omega arith

    nothing : (left w : ℕ) → w ≡ 0 → weighted_rate left w w ≡ 0
    nothing left w none = rw none (div-zero (left * 0))

-- The law for a class of a table in order.
module _ (t : List ℤ) (f : InOrder t) (c : ℕ) (hc : c < nodes) (class : is_class (tree_of t) c ≡ true) where
  -- Its rate is the sum of its children's rates and what it loses, as natural numbers.
  pub lost_parts : (minus (lost_grains t c) ≡ 0) × (rate t c ≡ sum_under (tree_of t) c (rate t) + plus (lost_grains t c))
  unfolding rate
  lost_parts =
      let given : ℕ = sum_under (tree_of t) c (rate t) in
      omega (
        arith,
        rate_natural t f c hc (class_there (tree_of t) c class),
        fair_rates t f c hc class,
        eq_parts _ _ (class_rate_law t c class),
        add_parts (pos given) (lost_grains t c),
        one_is_zero (lost_grains t c),
        plus_pos given,
        minus_pos given,
      )

  weights_of_none : NoneWeighted (tree_of t) c → weight_sum (tree_of t) c ≡ 0
  unfolding NoneWeighted kind_sum
  weights_of_none none =
      under_zero (tree_of t) c (kind_share (tree_of t) weighted_kind)
      (λ k hk child. other_share (tree_of t) weighted_kind k (none k hk (child_of_law (tree_of t) c k child)))

  weight_of_some : (k : ℕ) → k < nodes → child_of (tree_of t) c k ≡ true → (tree_of t).kind k ≡ weighted_kind → 0 < weight_sum (tree_of t) c
  unfolding tree_of
  weight_of_some k hk child kind =
      let l = f.limits k hk (child_facts (tree_of t) c k child).there in
      omega (arith, zarith, share_le_sum (tree_of t) c weighted_kind k hk child kind)

  -- Where all are stated, none is weighted or fixed, and none divides.
  module _ (all : AllStated (tree_of t) c) where
    none_weighted : NoneWeighted (tree_of t) c
    unfolding NoneWeighted AllStated
    none_weighted k hk child e = omega (arith, stated_kind_law (tree_of t) k (all k hk child))

    none_fixed : fixed_sum (tree_of t) c ≡ 0
    unfolding kind_sum AllStated
    none_fixed =
        under_zero (tree_of t) c (kind_share (tree_of t) _)
        (λ k hk child. other_share (tree_of t) _ k (λ e. omega (arith, stated_kind_law (tree_of t) k (all k hk (child_of_law (tree_of t) c k child)))))

    none_divided : divided_count (tree_of t) c ≡ 0
    unfolding divided_count AllStated
    none_divided = under_zero (tree_of t) c _ (λ k hk child. cond_true _ 0 1 (all k hk (child_of_law (tree_of t) c k child)))

  pub lost : Lost t c
  unfolding left_of unstated_of rest_of plus minus
  lost =
      let l = listed (tree_of t) c (rate t c) (kinds_in_order t f c) in
      let of = lost_of (rate t c) l.shares (omega (arith, (f.class c hc class).shares)) (omega (arith, stated_fit_law t f c)) in
      let e = lost_parts in
      let given = rates_under t f c hc class in
      let rest : unstated_of t c ≡ rest_of (rate t c) l.shares = ap (unstated_rate (rate t c)) l.stated_rates in
      let left : left_of t c ≡ left_rate (rest_of (rate t c) l.shares) (sum_of fixed_part l.shares) = rw l.fixed_shares (ap (λ (r : ℕ). left_rate r (sum_of fixed_part l.shares)) rest) in
      record {
        weighted = λ k hk child kind. omega (arith, zarith, of.weighted (omega (arith, weight_of_some k hk child kind)), l.count);
        full = λ all. omega (arith, zarith, of.full (omega arith), l.count);
        least = λ none. omega (arith, zarith, of.least (omega (arith, weights_of_none none)));
        most = λ none. omega (arith, zarith, l.count);
        stated = λ all. omega (arith, zarith, none_fixed all, none_divided all, of.least (omega (arith, weights_of_none (none_weighted all))), left_rounded (unstated_of t c) 0, ap (left_rate (unstated_of t c)) (none_fixed all), l.count);
        whole = λ alone.
            let none = under_zero (tree_of t) c (rate t) (λ k hk child. absurd (no_children_law (tree_of t) c alone k hk child)) in
            omega (arith, zarith, class_rate_law t c class, add_parts (pos (sum_under (tree_of t) c (rate t))) (lost_grains t c));
      }

-- No node of a table in order loses less than nothing.
pub lost_natural : (t : List ℤ) → InOrder t → (k : ℕ) → k < nodes → le_z (pos 0) (lost_grains t k) ≡ true
unfolding plus minus
lost_natural t f k hk =
    by_test (is_class (tree_of t) k) (λ class. let e = lost_parts t f k hk class in omega (arith, zarith)) (λ client. rw (client_loses t k client))
