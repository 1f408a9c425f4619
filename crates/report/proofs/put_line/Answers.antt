-- The node's line, or nothing.
use Rattle.std.proofs.Common.{sym, ◌∙◌}
use Rattle.definitions.specs.Places.{rate}
use Rattle.text.proofs.Appending.{append_as, append_none}
use Rattle.report.proofs.Lines.{line_of, line_none}
use Rattle.report.proofs.put_line.Goals as goal

pub returns-then-not-there-clause-put : goal.returns-then-not-there-clause-put
returns-then-not-there-clause-put c =
    append_as _ _ _ _ _ _ (sym (line_none _ _ (sym c.there.ensures ∙ c.if-not-there.true))) (append_none _ _)

pub returns-clause-put : goal.returns-clause-put
unfolding rate
returns-clause-put c =
    append_as _ _ _ _ _ _ (line_of _ _ _ _ (sym c.there.ensures ∙ c.if-not-there.false) c.is_class-class.ensures c.natural-rate.ensures) c.put_node.ensures.put
