-- Each test is what its cause says.
use Rattle.definitions.specs.Calls.{sum_causes}
use Rattle.definitions.proofs.Refusals.{found, causes}
use Rattle.answers.specs.Answers.{number_in}
use Rattle.admission.proofs.sums_refusal.Goals as goal

pub returns-then-shares_above : goal.returns-then-shares_above
unfolding number_in sum_causes
returns-then-shares_above c = record { first = found _ _ (search causes) }

pub returns-then-depths_above : goal.returns-then-depths_above
unfolding number_in sum_causes
returns-then-depths_above c = record { first = found _ _ (search causes) }

pub returns-then-stated_wrong : goal.returns-then-stated_wrong
unfolding number_in sum_causes
returns-then-stated_wrong c = record { first = found _ _ (search causes) }

pub returns : goal.returns
unfolding number_in sum_causes
returns c = record { first = found _ _ (search causes) }
