use Rattle.std.proofs.Common.{◌≡◌}
use Rattle.planformat.specs.Format.{plan_in}
use Rattle.planlaws.specs.Reading.{after_entries, entries_refusal}
use Rattle.entering.proofs.join_entries.Given as goal

-- The entries so far are joined, and none was refused.
abbrev pub invariant-loop-i : goal.invariant-loop-i
invariant-loop-i l =
    (entries_refusal l.initial.table (plan_in l.view.bytes.now) l.i ≡ 0) × (l.table ≡ after_entries l.initial.table (plan_in l.view.bytes.now) l.i)
