-- The causes of open in turn.
use Rattle.std.proofs.Common.{◌≡◌, sym, ap, ◌∙◌, ℤ, List, length, Bool, true, false, not, ne_eqb, eq-eqb}
use mir.Syntax.{w64}
use mir.Val.{SFits, to_z, of_z}
use mir.ValLaws.{to_z-of_z}
use Rattle.definitions.specs.Limits.{table_length}
use Rattle.definitions.specs.Calls.{open_limits, open_refusal, open_answer, open_table}
use Rattle.definitions.proofs.Refusals.{first_here, first_past, first_end}
use Rattle.answers.specs.declared.Refusal.TheVariants.{NotInOrder, OutsideLimits}
use Rattle.answers.proofs.Answers.{refused_tells, refused_keeps, accepted_tells, accepted_leaves}
use Rattle.table.proofs.Table.open.Goals as goal

short : (t : List ℤ) (rate depth : ℤ) → (length t ≡ table_length → ⊥) → open_refusal t rate depth ≡ 1
unfolding open_refusal
short t rate depth h = first_here 1 _ _ (ap not (ne_eqb _ _ h))

outside : (t : List ℤ) (rate depth : ℤ) → length t ≡ table_length → open_limits rate depth ≡ false → open_refusal t rate depth ≡ 2
unfolding open_refusal
outside t rate depth h l = first_past 1 _ _ (ap not (eq-eqb _ _ h)) ∙ first_here 2 _ _ (ap not l)

accepted : (t : List ℤ) (rate depth : ℤ) → length t ≡ table_length → open_limits rate depth ≡ true → open_refusal t rate depth ≡ 0
unfolding open_refusal
accepted t rate depth h l =
    first_past 1 _ _ (ap not (eq-eqb _ _ h)) ∙ first_past 2 _ _ (ap not l) ∙ first_end

pub returns-in_default-clause-answer : goal.returns-in_default-clause-answer
unfolding open_answer
returns-in_default-clause-answer c = refused_tells NotInOrder _ _ (short _ _ _ (c.in_default.ensures.cases))

pub returns-in_default-clause-table : goal.returns-in_default-clause-table
unfolding open_table
returns-in_default-clause-table c = refused_keeps NotInOrder _ _ _ (short _ _ _ (c.in_default.ensures.cases))

-- What the test of the limits answers, in the caller's own numbers.
limits : {b : Bool} {rate depth : ℤ} → SFits w64 rate → SFits w64 depth → b ≡ open_limits (to_z w64 (of_z w64 rate)) (to_z w64 (of_z w64 depth)) → open_limits rate depth ≡ b
limits r d e = sym (rw (to_z-of_z w64 _ r, to_z-of_z w64 _ d) at e)

pub returns-then-not-open_limits-clause-answer : goal.returns-then-not-open_limits-clause-answer
unfolding open_answer
returns-then-not-open_limits-clause-answer c = refused_tells OutsideLimits _ _
    (outside _ _ _ c.in-Some.ensures.cases.long (limits c.ranges.rate c.ranges.depth c.open_limits.ensures ∙ c.if-not-open_limits.true))

pub returns-then-not-open_limits-clause-table : goal.returns-then-not-open_limits-clause-table
unfolding open_table
returns-then-not-open_limits-clause-table c = c.in-Some.ensures.cases.same ∙ refused_keeps OutsideLimits _ _ _
    (outside _ _ _ c.in-Some.ensures.cases.long (limits c.ranges.rate c.ranges.depth c.open_limits.ensures ∙ c.if-not-open_limits.true))

pub returns-clause-answer : goal.returns-clause-answer
unfolding open_answer
returns-clause-answer c = accepted_tells _ _
    (accepted _ _ _ c.in-Some.ensures.cases.long (limits c.ranges.rate c.ranges.depth c.open_limits.ensures ∙ c.if-not-open_limits.false))

pub returns-clause-table : goal.returns-clause-table
unfolding open_table
returns-clause-table c = rw (to_z-of_z w64 _ c.ranges.rate, to_z-of_z w64 _ c.ranges.depth) at c.put_root.ensures ∙ accepted_leaves _ _ _
    (accepted _ _ _ c.in-Some.ensures.cases.long (limits c.ranges.rate c.ranges.depth c.open_limits.ensures ∙ c.if-not-open_limits.false))
