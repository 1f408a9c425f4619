-- The stated rates as they are, with the new share in the place of the old.
use Rattle.std.proofs.Common.{◌∙◌, ℕ, sym, ap₂, arith}
use Rattle.definitions.specs.Limits.{stated}
use Rattle.definitions.specs.Tree.{tree_of}
use Rattle.definitions.proofs.Facts.{facts}
use Rattle.treelaws.specs.Stated.{stated_wrong_with}
use Rattle.sums.specs.declared.Summand.TheVariants.{Shares}
use Rattle.sums.proofs.Summable.{in_order_summable}
use Rattle.sharing.proofs.Sums.{own_stated, stated_with}
use Rattle.sharing.proofs.stated_wrong.Goals as goal

pub stated_wrong-requires : goal.stated_wrong-requires
stated_wrong-requires c =
    let t = c.args.ordered.table.now in
    let f = facts t c.args.ordered.in_order in (
      in_order_summable (Shares stated) t f,
      omega (arith, c.kind_share-old.ensures, own_stated t c.args.k f c.requires.0 c.requires.1 c.requires.2),
      c.requires.3,
    )

pub returns : goal.returns
unfolding tree_of
returns c =
    c.stated_wrong.ensures
    ∙ ap₂ (λ (p old : ℕ). stated_wrong_with c.args.ordered.table.now p old c.args.kind c.args.share) c.natural-c.ensures c.kind_share-old.ensures
    ∙ sym (stated_with _ _ (facts _ c.args.ordered.in_order) c.requires.0 c.requires.1 c.requires.2 c.args.kind c.args.share)
