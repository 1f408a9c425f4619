-- The sum as it is, and the new share.
use Rattle.std.proofs.Common.{◌∙◌, sym, arith}
use Rattle.definitions.specs.Limits.{fixed}
use Rattle.definitions.proofs.Facts.{facts}
use Rattle.sums.specs.declared.Summand.TheVariants.{Shares}
use Rattle.sums.proofs.Summable.{in_order_summable}
use Rattle.admission.proofs.Sums.{shares_with}
use Rattle.admission.proofs.shares_above.Goals as goal

pub shares_above-requires : goal.shares_above-requires
shares_above-requires c = (in_order_summable (Shares fixed) _ (facts _ c.requires.judged.order), omega arith, c.requires.judged.limits.share)

pub returns : goal.returns
returns c = c.shares_above.ensures ∙ sym (shares_with _ _ c.requires)
