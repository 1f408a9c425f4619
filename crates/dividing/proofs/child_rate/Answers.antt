-- A stated rate is the share; else the product fits 64 bits.
use Rattle.std.proofs.Common.{◌∙◌, sym, arith}
use Rattle.definitions.specs.Tree.{tree_of}
use Rattle.definitions.proofs.ShareKinds.{limit_le}
use Rattle.treelaws.proofs.Rounding.{stated_child}
use Rattle.sums.proofs.Rated.{product_small}
use Rattle.dividing.proofs.child_rate.Goals as goal

pub returns-then-is_stated : goal.returns-then-is_stated
unfolding tree_of
returns-then-is_stated c =
    c.natural-share.ensures ∙ sym (stated_child (tree_of c.args.table.now) c.args.rate c.args.k (sym c.is_stated.ensures ∙ c.if-is_stated.true))

pub overflow_mul-result : goal.overflow_mul-result
unfolding tree_of
overflow_mul-result c =
    omega (
      arith,
      product_small c.division_of-by.result.whole c.natural-share.result c.division_of-by.ensures.small
          (omega (arith, c.natural-share.ensures, c.requires.placed.most, limit_le ((tree_of c.args.table.now).kind c.args.k))),
    )
