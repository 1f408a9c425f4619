use Rattle.std.proofs.Common.{sym, ap, ◌∙◌, ℕ, ◌-◌, get_or, eq-eqb, ne_eqb}
use Rattle.numbers.proofs.Tests.{cond_true, cond_false}
use Rattle.definitions.specs.Tree.{tree_of}
use Rattle.week.specs.Week.{cell_share}
use Rattle.week.proofs.share_at.Goals as goal

pub returns-then-cell-eq0 : goal.returns-then-cell-eq0
unfolding cell_share tree_of
returns-then-cell-eq0 c =
    c.natural-share.ensures ∙ sym (cond_true _ _ _ (rw c.cell_at.ensures at (eq-eqb _ 0 c.if-cell-eq0.true)))

pub returns : goal.returns
unfolding cell_share
returns c =
    ap (λ (i : ℕ). get_or c.args.part.now i 0 - 1) c.cell_at.ensures
    ∙ sym (cond_false _ _ _ (rw c.cell_at.ensures at (ne_eqb _ 0 c.if-cell-eq0.false)))
