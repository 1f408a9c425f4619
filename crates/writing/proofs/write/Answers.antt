-- Refused, nothing is written; accepted, the plan of the nodes listed is.
use Rattle.std.proofs.Common.{◌≡◌, sym, ap, ap₂, ◌∙◌, ℕ, ℤ, pos, List, [], ◌∷◌, length, Bool, false, arith, rules}
use mir.Syntax.{w64}
use mir.Val.{SFits, to_z, of_z}
use mir.ValLaws.{to_z-of_z}
use Rattle.std.proofs.Math.Seq.{take-length}
use Rattle.std.proofs.lemmas.Result.{err_from_is_err_and}
use Rattle.numbers.specs.Whole.{within_ℤ}
use Rattle.definitions.specs.Tree.{tree_of}
use Rattle.definitions.specs.Order.{in_order}
use Rattle.definitions.specs.Refusals.{accepted}
use Rattle.definitions.proofs.Facts.{facts}
use Rattle.answers.specs.declared.Refusal.TheVariants.{NotInOrder, OutsideLimits, BufferShort, StatedWrong}
use Rattle.answers.specs.Answers.{told}
use Rattle.answers.proofs.Answers.{refused_tells}
use Rattle.planformat.specs.declared.Edition.{Edition}
use Rattle.planformat.specs.Numbers.{EditionFound}
use Rattle.planformat.specs.Format.{first_edition, second_edition, plan_length}
use Rattle.planformat.specs.Written.{written}
use Rattle.planlaws.specs.Writing.{order, plan_bytes, unwritable, edition_told, write_answer}
use Rattle.planlaws.proofs.Listing.{order_short}
use Rattle.planlaws.proofs.RoundTrips.{WritePassed, length_plan}
use Rattle.writing.proofs.Outcomes.{not_in_order_law, no_edition, too_short, no_kind, refused_buffer, accepted_answer, accepted_buffer}
use Rattle.writing.proofs.write.Goals as goal

-- The edition that is found, or none, by the caller's own number.
unknown : {z : ℤ} → SFits w64 z → within_ℤ first_edition second_edition (to_z w64 (of_z w64 z)) ≡ false → within_ℤ first_edition second_edition z ≡ false
unknown f h = rw (to_z-of_z w64 _ f) at h

found : {z : ℤ} {e : Edition} → SFits w64 z → EditionFound (to_z w64 (of_z w64 z)) e → EditionFound z e
found f h = rw (to_z-of_z w64 _ f) at h

-- The same table, by its type; the nodes listed; the length of their plan.
module _ {t u : List ℤ} (same : u ≡ t) where
  listed_nodes : {nodes list : List ℕ} → list ≡ order (tree_of u) → nodes ≡ list → nodes ≡ order (tree_of t)
  listed_nodes e f = f ∙ e ∙ ap (λ (x : List ℤ). order (tree_of x)) same

  plan_long : {nodes list : List ℕ} {z : ℤ} {e : Edition} {r : ℕ} → list ≡ order (tree_of u) → nodes ≡ list → EditionFound z e → r ≡ plan_length e (length nodes) → r ≡ length (plan_bytes (edition_told z) t)
  plan_long {z = z} l n e h =
      h ∙ ap₂ plan_length (sym e.edition) (ap length (listed_nodes l n)) ∙ sym (length_plan (edition_told z) t)

  kinds_of : {z : ℤ} {e : Edition} {b : Bool} → EditionFound z e → b ≡ unwritable e (tree_of u) → unwritable (edition_told z) (tree_of t) ≡ b
  kinds_of e h = sym (h ∙ ap₂ (λ (x : Edition) (y : List ℤ). unwritable x (tree_of y)) (sym e.edition) same)

pub returns-then-not-in_order-clause-answer : goal.returns-then-not-in_order-clause-answer
unfolding write_answer
returns-then-not-in_order-clause-answer c =
    refused_tells NotInOrder _ _ (not_in_order_law _ _ _ (sym c.in_order.ensures ∙ c.if-not-in_order.true))

pub returns-then-not-in_order-clause-buffer : goal.returns-then-not-in_order-clause-buffer
returns-then-not-in_order-clause-buffer c =
    refused_buffer _ _ _ 1 (λ e. omega arith) (not_in_order_law _ _ _ (sym c.in_order.ensures ∙ c.if-not-in_order.true))

-- A table in order has the right length.
pub returns-in_default-clause-answer : goal.returns-in_default-clause-answer
returns-in_default-clause-answer c = absurd (c.in_default.ensures.cases (facts _ (sym c.in_order.ensures ∙ c.if-not-in_order.false)).long)

pub returns-in_default-clause-buffer : goal.returns-in_default-clause-buffer
returns-in_default-clause-buffer c = absurd (c.in_default.ensures.cases (facts _ (sym c.in_order.ensures ∙ c.if-not-in_order.false)).long)

pub returns-in_err-edition-clause-answer : goal.returns-in_err-edition-clause-answer
unfolding write_answer
returns-in_err-edition-clause-answer c =
    let p = err_from_is_err_and c.from_residual.result c.from_residual.ensures.1 in
    let none = unknown c.ranges.edition c.in_err-edition.ensures.1 in
    rw (p.1, p.2, c.in_err-edition.ensures.0) (refused_tells OutsideLimits _ _ (no_edition _ _ _ (sym c.in_order.ensures ∙ c.if-not-in_order.false) none))

pub returns-in_err-edition-clause-buffer : goal.returns-in_err-edition-clause-buffer
returns-in_err-edition-clause-buffer c =
    let none = unknown c.ranges.edition c.in_err-edition.ensures.1 in
    refused_buffer _ _ _ 2 (λ e. omega arith) (no_edition _ _ _ (sym c.in_order.ensures ∙ c.if-not-in_order.false) none)

pub plan_length-length-requires : goal.plan_length-length-requires
plan_length-length-requires c =
    omega (arith, ap length (c.nodes-nodes.ensures ∙ c.list_nodes-listing.ensures.nodes), order_short (tree_of c.in-Some.table.now))

pub returns-then-buffer-length-clause-answer : goal.returns-then-buffer-length-clause-answer
unfolding write_answer
returns-then-buffer-length-clause-answer c =
    let edition = found c.ranges.edition c.in_ok-edition.ensures in
    let long = plan_long c.in-Some.ensures.cases.same c.list_nodes-listing.ensures.nodes c.nodes-nodes.ensures edition c.plan_length-length.ensures in
    refused_tells BufferShort _ _ (too_short _ _ _ (sym c.in_order.ensures ∙ c.if-not-in_order.false) edition.within (omega (arith, long, c.if-buffer-length.true)))

pub returns-then-buffer-length-clause-buffer : goal.returns-then-buffer-length-clause-buffer
returns-then-buffer-length-clause-buffer c =
    let edition = found c.ranges.edition c.in_ok-edition.ensures in
    let long = plan_long c.in-Some.ensures.cases.same c.list_nodes-listing.ensures.nodes c.nodes-nodes.ensures edition c.plan_length-length.ensures in
    refused_buffer _ _ _ 13 (λ e. omega arith) (too_short _ _ _ (sym c.in_order.ensures ∙ c.if-not-in_order.false) edition.within (omega (arith, long, c.if-buffer-length.true)))

pub returns-then-unwritable-clause-answer : goal.returns-then-unwritable-clause-answer
unfolding write_answer
returns-then-unwritable-clause-answer c =
    let edition = found c.ranges.edition c.in_ok-edition.ensures in
    let same = c.in-Some.ensures.cases.same in
    let long = plan_long same c.list_nodes-listing.ensures.nodes c.nodes-nodes.ensures edition c.plan_length-length.ensures in
    refused_tells StatedWrong _ _
    (no_kind _ _ _ (sym c.in_order.ensures ∙ c.if-not-in_order.false) edition.within (omega (arith, long, c.if-buffer-length.false)) (kinds_of same edition c.unwritable.ensures ∙ c.if-unwritable.true))

pub returns-then-unwritable-clause-buffer : goal.returns-then-unwritable-clause-buffer
returns-then-unwritable-clause-buffer c =
    let edition = found c.ranges.edition c.in_ok-edition.ensures in
    let same = c.in-Some.ensures.cases.same in
    let long = plan_long same c.list_nodes-listing.ensures.nodes c.nodes-nodes.ensures edition c.plan_length-length.ensures in
    refused_buffer _ _ _ 16 (λ e. omega arith)
    (no_kind _ _ _ (sym c.in_order.ensures ∙ c.if-not-in_order.false) edition.within (omega (arith, long, c.if-buffer-length.false)) (kinds_of same edition c.unwritable.ensures ∙ c.if-unwritable.true))

pub invariant_of-contents : goal.invariant_of-contents
invariant_of-contents c =
    let members = c.nodes-nodes.ensures ∙ c.list_nodes-listing.ensures.nodes in
    record {
      listed = record {
        ordered = ap in_order c.in-Some.ensures.cases.same ∙ sym c.in_order.ensures ∙ c.if-not-in_order.false;
        members = take-length _ ∙ members;
        count = ap length members;
      };
    }

pub returns-clause-answer : goal.returns-clause-answer
unfolding told
returns-clause-answer c =
    let edition = found c.ranges.edition c.in_ok-edition.ensures in
    let same = c.in-Some.ensures.cases.same in
    let long = plan_long same c.list_nodes-listing.ensures.nodes c.nodes-nodes.ensures edition c.plan_length-length.ensures in
    let passed : WritePassed c.args.table.now c.args.edition c.args.buffer.now =
    record {
      order = sym c.in_order.ensures ∙ c.if-not-in_order.false;
      told = edition.within;
      room = omega (arith, long, c.if-buffer-length.false);
      kinds = kinds_of same edition c.unwritable.ensures ∙ c.if-unwritable.false;
    } in
    let fits : SFits w64 c.whole.result = search rules in
    ap (λ (z : ℤ). accepted (z ∷ [])) (to_z-of_z w64 _ fits ∙ c.whole.ensures ∙ ap pos long) ∙ accepted_answer _ _ _ passed

pub returns-clause-buffer : goal.returns-clause-buffer
returns-clause-buffer c =
    let edition = found c.ranges.edition c.in_ok-edition.ensures in
    let same = c.in-Some.ensures.cases.same in
    let long = plan_long same c.list_nodes-listing.ensures.nodes c.nodes-nodes.ensures edition c.plan_length-length.ensures in
    let passed : WritePassed c.args.table.now c.args.edition c.args.buffer.now =
    record {
      order = sym c.in_order.ensures ∙ c.if-not-in_order.false;
      told = edition.within;
      room = omega (arith, long, c.if-buffer-length.false);
      kinds = kinds_of same edition c.unwritable.ensures ∙ c.if-unwritable.false;
    } in
    c.put_plan.ensures
    ∙ ap₂ (λ (e : Edition) (u : List ℤ). written c.args.buffer.now 0 (plan_bytes e u)) (sym edition.edition) same
    ∙ accepted_buffer _ _ _ passed
