-- What write answers and leaves, by the cause.
use Prim.Native.Nat.{ℕ, ◌≤◌, ◌<◌}
use mathlib.Core.Path.{◌≡◌, sym, ap, ◌∙◌}
use mathlib.Core.Bool.{true, false, not}
use mathlib.Core.List.{List, [], ◌∷◌}
use borrow.Author.Tests.{lt-ltb, le-ltb, ne_eqb}
use lib.Dec.{eqb}
use lib.ListN.{length}
use lib.IntN.{ℤ, pos}
use Rattle.numbers.specs.Whole.{within_ℤ}
use Rattle.numbers.proofs.Tests.{cond_false}
use Rattle.definitions.specs.Tree.{tree_of}
use Rattle.definitions.specs.Order.{in_order}
use Rattle.definitions.specs.Refusals.{accepted, outcome}
use Rattle.definitions.proofs.Refusals.{first_here, first_past, outcome_accepted, outcome_refused}
use Rattle.planformat.specs.Format.{first_edition, second_edition}
use Rattle.planformat.specs.Written.{written}
use Rattle.planformat.proofs.Written.{written_front}
use Rattle.planlaws.specs.Writing.{plan_bytes, unwritable, edition_told, write_refusal, write_buffer, write_answer}
use Rattle.planlaws.proofs.RoundTrips.{WritePassed, passed_write, write_leaves}

module _ (t : List ℤ) (edition : ℤ) (buffer : List ℕ) where
  pub not_in_order_law : in_order t ≡ false → write_refusal t edition buffer ≡ 1
  unfolding write_refusal
  not_in_order_law h = first_here 1 _ _ (ap not h)

  module _ (order : in_order t ≡ true) where
    pub no_edition : within_ℤ first_edition second_edition edition ≡ false → write_refusal t edition buffer ≡ 2
    unfolding write_refusal
    no_edition h = first_past 1 _ _ (ap not order) ∙ first_here 2 _ _ (ap not h)

    module _ (known : within_ℤ first_edition second_edition edition ≡ true) where
      pub too_short : length buffer < length (plan_bytes (edition_told edition) t) → write_refusal t edition buffer ≡ 13
      unfolding write_refusal
      too_short short = first_past 1 _ _ (ap not order) ∙ first_past 2 _ _ (ap not known) ∙ first_here 13 _ _ (lt-ltb (length buffer) _ short)

      pub no_kind : length (plan_bytes (edition_told edition) t) ≤ length buffer → unwritable (edition_told edition) (tree_of t) ≡ true → write_refusal t edition buffer ≡ 16
      unfolding write_refusal
      no_kind room h =
          first_past 1 _ _ (ap not order) ∙ first_past 2 _ _ (ap not known) ∙ first_past 13 _ _ (le-ltb (length buffer) _ room) ∙ first_here 16 _ _ h

  -- Refused, the number only, and the buffer as it came.
  pub refused_answer : (number : ℕ) (values : List ℤ) → (number ≡ 0 → ⊥) → write_refusal t edition buffer ≡ number → outcome number values ≡ write_answer t edition buffer
  unfolding write_answer
  refused_answer number values ne e = outcome_refused number values ne ∙ sym (outcome_refused number _ ne) ∙ ap (λ (n : ℕ). outcome n (pos (length (plan_bytes (edition_told edition) t)) ∷ [])) (sym e)

  pub refused_buffer : (number : ℕ) → (number ≡ 0 → ⊥) → write_refusal t edition buffer ≡ number → buffer ≡ write_buffer t edition buffer
  unfolding write_buffer
  refused_buffer number ne e = sym (cond_false (eqb (write_refusal t edition buffer) 0) _ buffer (ne_eqb (write_refusal t edition buffer) 0 (λ z. ne (sym e ∙ z))))

  -- Accepted, the length, and the plan from the buffer's start on.
  pub accepted_answer : WritePassed t edition buffer → accepted (pos (length (plan_bytes (edition_told edition) t)) ∷ []) ≡ write_answer t edition buffer
  unfolding write_answer
  accepted_answer passed = sym (outcome_accepted _ _ (passed_write t edition buffer passed))

  pub accepted_buffer : WritePassed t edition buffer → written buffer 0 (plan_bytes (edition_told edition) t) ≡ write_buffer t edition buffer
  accepted_buffer passed = written_front buffer (plan_bytes (edition_told edition) t) ∙ sym (write_leaves t edition buffer (passed_write t edition buffer passed))
