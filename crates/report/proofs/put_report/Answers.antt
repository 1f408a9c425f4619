-- The lines of the table that the plan makes, or the line of the refusal.
use Rattle.std.proofs.Common.{ap, ◌∙◌}
use Rattle.definitions.specs.Calls.{blank}
use Rattle.text.specs.Text.{refused_line}
use Rattle.text.proofs.Appending.{append_as}
use Rattle.report.specs.Text.{lines_of}
use Rattle.report.proofs.Texts.{accepted_text, refused_text}
use Rattle.report.proofs.put_report.Goals as goal

pub returns-in-Ok-clause-put : goal.returns-in-Ok-clause-put
unfolding blank
returns-in-Ok-clause-put c =
    append_as _ _ _ _ _ _ (ap lines_of c.read.ensures.table ∙ accepted_text _ _ c.read.ensures.answer _ c.in-Ok.is) c.put_lines.ensures.put

pub returns-in-Err-clause-put : goal.returns-in-Err-clause-put
unfolding blank
returns-in-Err-clause-put c =
    append_as _ _ _ _ _ _ (ap refused_line c.from-number.ensures.0 ∙ refused_text _ _ c.read.ensures.answer _ c.in-Err.is) c.put_refused.ensures.put
