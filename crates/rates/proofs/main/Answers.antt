-- What is handed on is the text of the plan, which stands at the start of the buffer.
use Rattle.text.proofs.Appending.{written_first}
use Rattle.rates.proofs.main.Goals as goal

pub send-requires : goal.send-requires
send-requires c =
    let put = c.report-length.ensures in
    written_first _ _ _ _ put.text put.length
