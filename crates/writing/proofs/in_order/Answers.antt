-- Look at the root is accepted exactly when the table is in order.
use Rattle.std.proofs.Common.{◌≡◌, sym, ◌∙◌, ℤ, List, pos, is_ok, Result, Ok, Err}
use Rattle.definitions.specs.Limits.{root}
use Rattle.definitions.specs.Order.{in_order}
use Rattle.definitions.specs.Calls.{look_answer}
use Rattle.answers.specs.declared.Refusal.{Refusal}
use Rattle.answers.specs.declared.Seen.{Seen}
use Rattle.answers.specs.Answers.{told_seen}
use Rattle.writing.proofs.Look.{look_accepted, look_refused}
use Rattle.writing.proofs.in_order.Goals as goal

seen_ok : (t : List ℤ) (r : Result Seen Refusal) → told_seen r ≡ look_answer t (pos root) → is_ok r ≡ in_order t
unfolding told_seen
seen_ok t (Ok seen) h = sym (look_accepted t _ (sym h))
seen_ok t (Err why) h = sym (look_refused t _ (sym h))

pub returns : goal.returns
returns c = c.is_ok.ensures.value ∙ seen_ok _ _ c.look.ensures
