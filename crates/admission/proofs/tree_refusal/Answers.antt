-- Each test is what its cause says. `search` goes through the causes by the tests that the code made on the way.
use Rattle.std.proofs.Common.{◌∙◌, sym}
use Rattle.numbers.specs.Whole.{plus}
use Rattle.definitions.specs.Calls.{join_refusal, sum_causes}
use Rattle.definitions.proofs.Refusals.{found, fails, causes, handed_on}
use Rattle.treelaws.specs.Joins.{refusal_of, limits_of, joined_by}
use Rattle.answers.specs.Answers.{number_in}
use Rattle.admission.specs.NewNodes.{join_of}
use Rattle.admission.proofs.tree_refusal.Goals as goal

pub returns-then-not-there : goal.returns-then-not-there
unfolding number_in refusal_of join_refusal limits_of sum_causes join_of joined_by plus
returns-then-not-there c = record { first = found _ _ (search causes depth 9 fits 4000) }

pub returns-then-there : goal.returns-then-there
unfolding number_in refusal_of join_refusal limits_of sum_causes join_of joined_by plus
returns-then-there c = record { first = found _ _ (search causes depth 9 fits 4000) }

pub returns-then-is_client : goal.returns-then-is_client
unfolding number_in refusal_of join_refusal limits_of sum_causes join_of joined_by plus
returns-then-is_client c = record { first = found _ _ (search causes depth 9 fits 4000) }

pub returns-then-level_too_low : goal.returns-then-level_too_low
unfolding number_in refusal_of join_refusal limits_of sum_causes join_of joined_by plus
returns-then-level_too_low c = record { first = found _ _ (search causes depth 9 fits 4000) }

pub sums_refusal-requires : goal.sums_refusal-requires
sums_refusal-requires c =
    record {
      judged = c.requires;
      unused = fails c.there-2.ensures c.if-there.false;
      there = sym c.there.ensures ∙ c.if-not-there.false;
      no_client = fails c.is_client.ensures c.if-is_client.false;
    }

pub returns : goal.returns
unfolding refusal_of join_refusal limits_of sum_causes join_of joined_by plus
returns c = record { first = found _ _ (search (causes, handed_on, c.sums_refusal.ensures.first) depth 9 fits 4000) }
