-- The sums under the classes stay while the levels are renewed.
use Rattle.std.proofs.Common.{◌∙◌, sym, arith}
use Rattle.definitions.specs.Tree.{tree_of}
use Rattle.sums.proofs.NodeByNode.{share_sums_start}
use Rattle.sums.proofs.Rated.{shareable, level_le}
use Rattle.renewing.proofs.Descent.{descent_start, descent_end, onward_start, onward_then, onward_at, same_share_sums}
use Rattle.renewing.proofs.renew_below.Goals as goal

pub share_sums-requires : goal.share_sums-requires
share_sums-requires c = (shareable _ _ c.requires, share_sums_start _)

pub overflow_add-first : goal.overflow_add-first
unfolding tree_of
overflow_add-first c = omega (arith, level_le _ _ c.requires _ c.requires.low c.requires.here)

pub loop-level-init : goal.loop-level-init
unfolding tree_of
loop-level-init c = onward_at _ _ _ _ _ _ (omega (arith, c.natural-first.ensures)) (onward_start _ _ _ _ (descent_start _ _ c.requires))

pub renew_level-requires : goal.renew_level-requires
renew_level-requires c =
    (c.loop-level.invariant.descent, same_share_sums _ _ _ c.loop-level.invariant.tree c.share_sums.ensures, omega arith)

pub loop-level-preserved : goal.loop-level-preserved
loop-level-preserved c = onward_at _ _ _ _ _ _ (omega arith) (onward_then _ _ _ _ _ _ _ _ c.loop-level.invariant c.renew_level.ensures)

pub returns : goal.returns
unfolding tree_of
returns c =
    sym (descent_end _ _ _ _ (omega (arith, c.natural-first.ensures, level_le _ _ c.requires _ c.requires.low c.requires.here)) c.loop-level.invariant.descent) ∙ c.loop-level.invariant.renewal
