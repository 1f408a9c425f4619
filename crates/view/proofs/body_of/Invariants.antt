use Rattle.std.proofs.Common.{◌≡◌, ◌-◌}
use Rattle.definitions.specs.Refusals.{accepted}
use Rattle.view.specs.Answer.{listed_from, body_answer}
use Rattle.view.proofs.body_of.Given as goal

-- The search from the entry reached gives what the whole search gives.
abbrev pub invariant-loop-i : goal.invariant-loop-i
invariant-loop-i l = accepted (listed_from l.view.bytes.now l.number l.i (l.view.count - l.i)) ≡ body_answer l.bytes l.number
