use Rattle.std.proofs.Common.{ℕ, false, get_or, ap, sym, ◌∙◌}
use Rattle.queues.proofs.Marks.{differs_unmarked}
use Rattle.queues.proofs.differs_marked.Goals as goal

-- A number whose mark is not set differs.
pub returns-then-not-marked-mark_of : goal.returns-then-not-marked-mark_of
returns-then-not-marked-mark_of c =
    let read = ap (λ (m : ℕ). get_or c.args.marked.now m false) c.mark_of.ensures.0 in
    sym (differs_unmarked _ _ _ _ c.requires.2 (sym read ∙ c.if-not-marked-mark_of.true))
