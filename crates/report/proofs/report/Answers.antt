-- The text stands at the buffer's start, and its length is the place behind it.
use Rattle.std.proofs.Common.{zero-add, ◌∙◌}
use Rattle.text.proofs.Appending.{appended_counts}
use Rattle.report.proofs.report.Goals as goal

pub returns : goal.returns
returns c =
    let put = rw (c.new-text.ensures.len, c.new-text.ensures.bytes) at c.put_report.ensures.put in
    record { count = appended_counts _ _ _ _ put; length = put.behind ∙ zero-add _; text = put.bytes }
