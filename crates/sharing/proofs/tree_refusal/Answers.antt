-- Each test is what its cause says. `search` goes through the causes by the tests that the code made on the way.
use Rattle.std.proofs.Common.{◌≡◌, ◌≤◌, ◌<◌, ◌∙◌, ℕ, true, sym, arith}
use lib.IntN.{pos}
use Rattle.numbers.specs.Whole.{plus}
use Rattle.numbers.proofs.Every.{head_holds, rest_hold}
use Rattle.numbers.proofs.Parts.{within_parts}
use Rattle.definitions.specs.Limits.{nodes, greatest_rate, share_limit}
use Rattle.definitions.specs.Calls.{change_share_limits, change_share_refusal}
use Rattle.definitions.proofs.Passed.{below}
use Rattle.definitions.proofs.Refusals.{causes, found}
use Rattle.definitions.proofs.ShareKinds.{limit_le}
use Rattle.answers.specs.Answers.{number_in}
use Rattle.sharing.proofs.tree_refusal.Goals as goal

-- What the limits say of node and share.
low : (k kind share : ℕ) → change_share_limits (pos k) (pos kind) (pos share) ≡ true → k < nodes
unfolding change_share_limits plus
low k kind share h = below 0 (pos k) (head_holds _ _ h)

small : (k kind share : ℕ) → change_share_limits (pos k) (pos kind) (pos share) ≡ true → share ≤ greatest_rate
unfolding change_share_limits plus
small k kind share h = omega (arith, (within_parts 1 (share_limit kind) (pos share) (head_holds _ _ (rest_hold _ _ (rest_hold _ _ h)))).2, limit_le kind)

pub there-requires : goal.there-requires
there-requires c = low _ _ _ c.requires

pub returns-then-not-there : goal.returns-then-not-there
unfolding number_in change_share_refusal change_share_limits plus
returns-then-not-there c = record { first = found _ _ (search causes) }

pub returns-then-k-eq0 : goal.returns-then-k-eq0
unfolding number_in change_share_refusal change_share_limits plus
returns-then-k-eq0 c = record { first = found _ _ (search causes) }

pub shares_above-requires : goal.shares_above-requires
shares_above-requires c = (low _ _ _ c.requires, sym c.there.ensures ∙ c.if-not-there.false, c.if-k-eq0.false, small _ _ _ c.requires)

pub returns-then-shares_above : goal.returns-then-shares_above
unfolding number_in change_share_refusal change_share_limits plus
returns-then-shares_above c = record { first = found _ _ (search causes) }

pub stated_wrong-requires : goal.stated_wrong-requires
stated_wrong-requires c = (low _ _ _ c.requires, sym c.there.ensures ∙ c.if-not-there.false, c.if-k-eq0.false, small _ _ _ c.requires)

pub returns-then-stated_wrong : goal.returns-then-stated_wrong
unfolding number_in change_share_refusal change_share_limits plus
returns-then-stated_wrong c = record { first = found _ _ (search causes depth 7) }

pub returns : goal.returns
unfolding number_in change_share_refusal change_share_limits plus
returns c = record { first = found _ _ (search causes depth 7) }
