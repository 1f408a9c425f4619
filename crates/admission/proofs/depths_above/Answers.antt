-- The sum as it is, and the new depth.
use Rattle.std.proofs.Common.{◌+◌, ◌∙◌, ℕ, sym, ap₂, ltb, arith}
use Rattle.definitions.specs.Tree.{tree_of}
use Rattle.definitions.proofs.Facts.{facts}
use Rattle.sums.specs.declared.Summand.TheVariants.{Depths}
use Rattle.sums.specs.Sums.{term}
use Rattle.sums.proofs.Summable.{in_order_summable}
use Rattle.admission.proofs.Sums.{small_sum, depths_with}
use Rattle.admission.proofs.depths_above.Goals as goal

pub sum_under-requires : goal.sum_under-requires
sum_under-requires c = in_order_summable Depths _ (facts _ c.requires.judged.order)

pub overflow_add-result : goal.overflow_add-result
unfolding term
overflow_add-result c = omega (arith, small_sum _ _ c.requires, c.requires.judged.limits.depth)

pub returns : goal.returns
unfolding term tree_of
returns c =
    ap₂ (λ (own sum : ℕ). ltb own (sum + c.args.new.depth)) c.natural.ensures c.sum_under.ensures ∙ sym (depths_with _ _ c.requires)
