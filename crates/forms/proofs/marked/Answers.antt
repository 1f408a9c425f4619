use Rattle.std.proofs.Common.{sym, arith}
use Rattle.planformat.proofs.Editions.{short_unmarked}
use Rattle.forms.proofs.marked.Goals as goal

pub returns-then-s-lt-MARK_LENGTH : goal.returns-then-s-lt-MARK_LENGTH
returns-then-s-lt-MARK_LENGTH c = sym (short_unmarked _ (omega arith))
