-- The refusal of a plan stage by stage.
use Prim.Native.Nat.{ℕ, ◌≤◌, ◌<◌}
use mathlib.Core.Path.{◌≡◌, refl, sym, ap, ◌∙◌}
use mathlib.Core.Bool.{true, false, not}
use mathlib.Core.List.{List}
use native.Mathlib.Omega.{arith}
use borrow.Author.Tests.{eq-eqb, ne_eqb}
use lib.ListN.{length, length-replicate}
use lib.IntN.{ℤ, pos}
use Rattle.numbers.proofs.Tests.{by_test}
use Rattle.definitions.specs.Limits.{table_length, nodes, last_level}
use Rattle.definitions.specs.Tree.{tree_of}
use Rattle.definitions.specs.Calls.{blank, open_refusal}
use Rattle.definitions.proofs.Refusals.{first_here, first_past}
use Rattle.planformat.specs.Format.{last_count, start_of, share_length, plan_length, edition_in, count_in, plan_in, formed}
use Rattle.planformat.specs.declared.Edition.TheVariants.{Second}
use Rattle.planformat.proofs.Editions.{plan_small}
use Rattle.planformat.proofs.Codec.{formed_facts}
use Rattle.planlaws.specs.Reading.{after_entries, entries_refusal, opened_for, joined_for, rising, plan_refusal, check_answer}
use Rattle.planlaws.proofs.Accepted.{refusing_here, refusing_past, entries_each, plan_refusal_any}
use Rattle.planlaws.proofs.Entered.{shown_there, entered}
use Rattle.planlaws.proofs.Planned.{level_small}

pub wrong_length : (t : List ℤ) (s : List ℕ) → (length t ≡ table_length → ⊥) → plan_refusal t s ≡ 1
unfolding plan_refusal
wrong_length t s ne = first_here 1 _ _ (ap not (ne_eqb (length t) table_length ne))

-- The check gives what any table of right length gives.
pub check_any : (t : List ℤ) (s : List ℕ) → length t ≡ table_length → check_answer s ≡ plan_refusal t s
unfolding check_answer blank
check_any t s long = plan_refusal_any blank t s (length-replicate table_length (pos 0) ∙ sym long)

module _ (t : List ℤ) (s : List ℕ) (long : length t ≡ table_length) where
  pub wrong_form : formed s ≡ false → plan_refusal t s ≡ 14
  unfolding plan_refusal
  wrong_form h = first_past 1 _ _ (ap not (eq-eqb (length t) table_length long)) ∙ first_here 14 _ _ (ap not h)

  -- No plan is so long.
  pub too_long : plan_length Second last_count < length s → plan_refusal t s ≡ 14
  unfolding share_length start_of
  too_long more =
      wrong_form
      (by_test (formed s) (λ e. let f = formed_facts s e in absurd (omega (arith, f.long, f.count, plan_small (edition_in s) (count_in s) f.count))) (λ e. e))

  module _ (right : formed s ≡ true) where
    pub wrong_open : (open_refusal t (pos (plan_in s).rate) (pos (plan_in s).depth) ≡ 0 → ⊥) → plan_refusal t s ≡ open_refusal t (pos (plan_in s).rate) (pos (plan_in s).depth)
    unfolding plan_refusal
    wrong_open ne = first_past 1 _ _ (ap not (eq-eqb (length t) table_length long)) ∙ first_past 14 _ _ (ap not right) ∙ refusing_here _ _ ne

    module _ (opens : open_refusal t (pos (plan_in s).rate) (pos (plan_in s).depth) ≡ 0) where
      pub wrong_join : (entries_refusal (opened_for t (plan_in s)) (plan_in s) (plan_in s).count ≡ 0 → ⊥) → plan_refusal t s ≡ entries_refusal (opened_for t (plan_in s)) (plan_in s) (plan_in s).count
      unfolding plan_refusal
      wrong_join ne = first_past 1 _ _ (ap not (eq-eqb (length t) table_length long)) ∙ first_past 14 _ _ (ap not right) ∙ refusing_past _ _ opens ∙ refusing_here _ _ ne

      pub wrong_order : entries_refusal (opened_for t (plan_in s)) (plan_in s) (plan_in s).count ≡ 0 → rising (tree_of (joined_for t (plan_in s))) (plan_in s) ≡ false → plan_refusal t s ≡ 15
      unfolding plan_refusal
      wrong_order joins h =
          first_past 1 _ _ (ap not (eq-eqb (length t) table_length long))
          ∙ first_past 14 _ _ (ap not right)
          ∙ refusing_past _ _ opens
          ∙ refusing_past _ _ joins
          ∙ first_here 15 _ _ (ap not h)

pub plan_count : (s : List ℕ) → (plan_in s).count ≡ count_in s
unfolding plan_in
plan_count s = refl

-- The table u that n joins after the opened table v leave: all entries are joined, and their nodes and levels are in their
-- limits.
module _ (t : List ℤ) (s : List ℕ) (u v : List ℤ) (n : ℕ) where
  pub joined_for_law : v ≡ opened_for t (plan_in s) → u ≡ after_entries v (plan_in s) n → n ≡ count_in s → u ≡ joined_for t (plan_in s)
  unfolding joined_for
  joined_for_law opened joined all = cc (plan_count s)

  pub joined_entries : open_refusal t (pos (plan_in s).rate) (pos (plan_in s).depth) ≡ 0 → v ≡ opened_for t (plan_in s) → u ≡ after_entries v (plan_in s) n → entries_refusal v (plan_in s) n ≡ 0 → (i : ℕ) → i < n → (((plan_in s).entry i).node < nodes) × ((tree_of u).level ((plan_in s).entry i).node ≤ last_level)
  joined_entries opens opened joined joins i hi =
      let shows = entered t (plan_in s) opens n (entries_each (opened_for t (plan_in s)) (plan_in s) n (rw opened at joins)) in
      let node = shows.node i hi in
      (node.small, rw (joined, opened) (level_small _ _ shows.order node.small (shown_there _ _ node)))
