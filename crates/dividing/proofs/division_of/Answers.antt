-- The division by the kind of the share.
use Rattle.std.proofs.Common.{◌≡◌, ◌*◌, ◌/◌, ◌≤◌, ◌∙◌, ℕ, refl, sym, ap, ap₂, arith}
use Rattle.definitions.specs.Limits.{greatest_rate}
use Rattle.definitions.specs.Tree.{tree_of}
use Rattle.definitions.specs.Rates.{fixed_rate, left_rate, weighted_rate, unstated_rate}
use Rattle.treelaws.proofs.Rounding.{left_le, unstated_le, fixed_child, weighted_child}
use Rattle.sums.proofs.Rated.{weights_there}
use Rattle.dividing.proofs.division_of.Goals as goal

-- A weighted rate by what it is reckoned from.
same_weighted : {l l' w w' : ℕ} (s : ℕ) → l ≡ l' → w ≡ w' → l * s / w ≡ weighted_rate l' s w'
unfolding weighted_rate
same_weighted s left weights = cc

-- What the stated rates leave is a rate.
rest_small : (rest rate stated : ℕ) → rest ≡ unstated_rate rate stated → rate ≤ greatest_rate → rest ≤ greatest_rate
rest_small rest rate stated e h = omega (arith, unstated_le rate stated)

pub left_rate-left-requires : goal.left_rate-left-requires
left_rate-left-requires c =
    (rest_small _ _ _ c.unstated_rate-rest.ensures c.requires.0.small, omega (arith, c.requires.0.placed.shares))

pub returns-then-is_fixed : goal.returns-then-is_fixed
unfolding fixed_rate
returns-then-is_fixed c =
    let tree = tree_of c.args.table.now in
    record {
      rate =
          fixed_child tree _ c.args.rate c.args.k refl c.requires.1 (sym c.is_fixed.ensures ∙ c.if-is_fixed.true)
          ∙ ap (λ (r : ℕ). fixed_rate r (tree.share c.args.k)) (sym (c.unstated_rate-rest.ensures ∙ ap (unstated_rate c.args.rate) c.requires.0.stated));
      small = rest_small _ _ _ c.unstated_rate-rest.ensures c.requires.0.small;
      some = omega arith;
      few = omega arith;
    }

pub returns : goal.returns
returns c =
    let tree = tree_of c.args.table.now in
    let unfixed = sym c.is_fixed.ensures ∙ c.if-is_fixed.false in
    let rest = c.unstated_rate-rest.ensures ∙ ap (unstated_rate c.args.rate) c.requires.0.stated in
    record {
      rate =
          weighted_child tree (tree.parent c.args.k) c.args.rate c.args.k refl c.requires.1 unfixed
          ∙ sym (same_weighted (tree.share c.args.k) (c.left_rate-left.ensures ∙ ap₂ left_rate rest c.requires.0.fixed) c.requires.0.weights);
      small = omega (arith, left_le c.unstated_rate-rest.result c.args.sums.fixed, rest_small _ _ _ c.unstated_rate-rest.ensures c.requires.0.small);
      some = omega (arith, c.requires.0.weights, weights_there tree c.args.k c.requires.0.low c.requires.0.here (λ e. omega arith) c.requires.0.placed c.requires.1 unfixed);
      few = c.requires.0.few;
    }
