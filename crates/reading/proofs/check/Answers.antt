-- The plan is built in a table of zeros.
use Rattle.definitions.specs.Calls.{blank}
use Rattle.planlaws.specs.Reading.{check_answer}
use Rattle.reading.proofs.check.Goals as goal

pub returns : goal.returns
unfolding check_answer blank
returns c = c.build.ensures.number
