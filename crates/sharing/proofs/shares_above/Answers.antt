-- The sum as it is, with the new share in the place of the old.
use Rattle.std.proofs.Common.{◌∙◌, sym, ap, arith}
use Rattle.definitions.specs.Limits.{fixed}
use Rattle.definitions.specs.Tree.{tree_of}
use Rattle.definitions.specs.Rates.{fixed_sum}
use Rattle.definitions.proofs.Facts.{facts}
use Rattle.sums.specs.declared.Summand.TheVariants.{Shares}
use Rattle.sums.proofs.Summable.{in_order_summable}
use Rattle.sharing.proofs.Sums.{own_fixed, shares_with}
use Rattle.sharing.proofs.shares_above.Goals as goal

pub shares_above-requires : goal.shares_above-requires
unfolding tree_of
shares_above-requires c =
    let t = c.args.ordered.table.now in
    let f = facts t c.args.ordered.in_order in (
      in_order_summable (Shares fixed) t f,
      omega (arith, c.kind_share-old.ensures, own_fixed t c.args.k f c.requires.0 c.requires.1 c.requires.2, ap (fixed_sum (tree_of t)) c.natural-c.ensures),
      c.requires.3,
    )

pub returns : goal.returns
unfolding tree_of
returns c =
    (rw (c.natural-c.ensures, c.kind_share-old.ensures) at c.shares_above.ensures)
    ∙ sym (shares_with _ _ (facts _ c.args.ordered.in_order) c.requires.0 c.requires.1 c.requires.2 c.args.kind c.args.share)
