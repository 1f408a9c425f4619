use Rattle.std.proofs.Common.{◌∙◌, arith}
use Rattle.sums.specs.declared.Summand.TheVariants.{Credits, Debts}
use Rattle.sums.specs.Sums.{term}
use Rattle.covering.proofs.Small.{sum_small, totals_sums}
use Rattle.covering.proofs.classes.classes_cover.Goals as goal

pub class_covers-ok-requires : goal.class_covers-ok-requires
unfolding term
class_covers-ok-requires c =
    let t = c.args.table.now in
    let k = c.loop-c.c in
    let under = c.under.ensures in
    let sums = totals_sums _ _ _ _ _ c.requires.1 k c.loop-c-test.true c.under.result.shares under.shares.0 under.shares.2 in
    let credits = under.others.1 ∙ sums.credits in
    let debts = under.others.2 ∙ sums.debts in (
      c.loop-c-test.true,
      c.requires.0,
      record { fixed = sums.fixed; stated = sums.stated; depths = under.others.0 ∙ sums.depths; credits = credits; debts = debts },
      omega (arith, credits, sum_small Credits t c.requires.0 k),
      omega (arith, debts, sum_small Debts t c.requires.0 k),
    )
