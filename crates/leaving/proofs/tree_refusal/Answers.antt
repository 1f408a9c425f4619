-- Each test is what its cause says. `search` goes through the causes by the tests that the code made on the way.
use Rattle.std.proofs.Common.{◌≡◌, ◌<◌, ℕ, true, pos}
use Rattle.numbers.specs.Whole.{plus, within_ℤ}
use Rattle.definitions.specs.Limits.{nodes, last_node}
use Rattle.definitions.specs.Calls.{leave_refusal}
use Rattle.definitions.proofs.Refusals.{causes, found}
use Rattle.definitions.proofs.Passed.{below}
use Rattle.answers.specs.Answers.{number_in}
use Rattle.leaving.proofs.tree_refusal.Goals as goal

low : (k : ℕ) → within_ℤ 0 last_node (pos k) ≡ true → k < nodes
unfolding plus
low k h = below 0 (pos k) h

pub there-requires : goal.there-requires
there-requires c = low _ c.requires

pub is_busy-requires : goal.is_busy-requires
is_busy-requires c = low _ c.requires

pub in_debt-requires : goal.in_debt-requires
in_debt-requires c = low _ c.requires

pub returns-then-not-there : goal.returns-then-not-there
unfolding number_in leave_refusal plus
returns-then-not-there c = record { first = found _ _ (search (causes, c.args.ordered.in_order)) }

pub returns-then-k-eq0 : goal.returns-then-k-eq0
unfolding number_in leave_refusal plus
returns-then-k-eq0 c = record { first = found _ _ (search (causes, c.args.ordered.in_order)) }

pub returns-then-is_busy : goal.returns-then-is_busy
unfolding number_in leave_refusal plus
returns-then-is_busy c = record { first = found _ _ (search (causes, c.args.ordered.in_order) depth 7 fits 4000) }

pub returns-then-in_debt : goal.returns-then-in_debt
unfolding number_in leave_refusal plus
returns-then-in_debt c = record { first = found _ _ (search (causes, c.args.ordered.in_order) depth 7 fits 4000) }

pub returns : goal.returns
unfolding number_in leave_refusal plus
returns c = record { first = found _ _ (search (causes, c.args.ordered.in_order) depth 7 fits 4000) }
