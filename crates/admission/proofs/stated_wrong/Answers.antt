-- The stated rates as they are, and the new share.
use Rattle.std.proofs.Common.{◌∙◌, sym, arith}
use Rattle.definitions.specs.Limits.{stated}
use Rattle.definitions.proofs.Facts.{facts}
use Rattle.sums.specs.declared.Summand.TheVariants.{Shares}
use Rattle.sums.proofs.Summable.{in_order_summable}
use Rattle.admission.proofs.Sums.{stated_with}
use Rattle.admission.proofs.stated_wrong.Goals as goal

pub stated_wrong-requires : goal.stated_wrong-requires
stated_wrong-requires c = (in_order_summable (Shares stated) _ (facts _ c.requires.judged.order), omega arith, c.requires.judged.limits.share)

pub returns : goal.returns
returns c = c.stated_wrong.ensures ∙ sym (stated_with _ _ c.requires)
