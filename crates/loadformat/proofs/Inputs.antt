-- What an input begins, by its length and its plan.
use Prim.Native.Nat.{ℕ, ◌≤◌, ◌<◌}
use mathlib.Core.Path.{◌≡◌, refl, sym, ap, ◌∙◌}
use mathlib.Core.List.{List, []}
use native.Mathlib.Omega.{arith}
use borrow.Author.Tests.{lt-ltb, le-ltb, ltb-false, eq-eqb, ne_eqb}
use lib.ListN.{length, take, drop, length-drop, length-replicate}
use lib.Seq.{length-take-le}
use lib.Dec.{eqb}
use lib.IntN.{ℤ, pos}
use Rattle.numbers.proofs.Tests.{cond_true, cond_false}
use Rattle.definitions.specs.Limits.{table_length}
use Rattle.definitions.specs.Refusals.{number_told}
use Rattle.definitions.specs.Calls.{blank}
use Rattle.definitions.proofs.Refusals.{first_here, first_past, none_first, number_outcome}
use Rattle.planformat.specs.Bytes.{le4}
use Rattle.planformat.specs.Format.{start_of, share_length}
use Rattle.planlaws.specs.Reading.{plan_table, plan_answer, check_answer}
use Rattle.planlaws.proofs.Accepted.{refusing_last}
use Rattle.planlaws.proofs.Stages.{too_long}
use Rattle.planlaws.proofs.ReadWritten.{plan_keeps, plan_port}
use Rattle.text.specs.Text.{refused_line, input_length}
use Rattle.text.specs.Appended.{Appended}
use Rattle.text.proofs.Appending.{append_as, append_none}
use Rattle.asking.specs.Asking.{Load, load_of}
use Rattle.loadformat.specs.Text.{seed_at, ticks_at, plan_at, begun, ticks_in, load_refusal, load_text}
use Rattle.loadformat.specs.Parts.{opening, ticks_allowed, Begins}

module _ (s : List ℕ) where
  pub short_refused : length s < plan_at → load_refusal s ≡ 14
  unfolding load_refusal
  short_refused short = first_here 14 _ _ (lt-ltb (length s) plan_at short)

  pub plan_refused : plan_at ≤ length s → load_refusal s ≡ check_answer (drop plan_at s)
  unfolding load_refusal
  plan_refused long = first_past 14 _ _ (le-ltb (length s) plan_at long) ∙ refusing_last _

  -- An input that is longer than any with a good plan is refused with 14.
  long_refused : input_length ≤ length s → load_refusal s ≡ 14
  unfolding check_answer blank start_of share_length
  long_refused long =
      plan_refused (omega arith) ∙ too_long _ (drop plan_at s) (length-replicate table_length (pos 0)) (omega (arith, length-drop plan_at s))

  -- The plan is read into a table of zeros.
  pub plan_read : (p : List ℕ) (t u : List ℤ) (n : ℕ) → plan_at ≤ length s → p ≡ drop plan_at s → t ≡ blank → n ≡ number_told (plan_answer t p) → u ≡ plan_table t p → (n ≡ load_refusal s) × (n ≡ 0 → u ≡ (begun s).table)
  unfolding plan_answer check_answer begun
  plan_read p t u n long part zeros told after =
      let known = rw (zeros, part) at told in
      let left = rw (zeros, part) at after in
      (known ∙ number_outcome _ _ ∙ sym (plan_refused long), λ z. left)

  -- An accepted input has a head.
  pub accepted_long : load_refusal s ≡ 0 → plan_at ≤ length s
  unfolding load_refusal
  accepted_long h = ltb-false (length s) plan_at (none_first 14 _ _ (omega arith) h).0

  pub refused_begins : (b b' : List ℕ) (load : Load) (n size : ℕ) → n ≡ load_refusal s → (n ≡ 0 → ⊥) → Appended b 0 (refused_line n) b' size → Begins s b load 0 0 size b'
  unfolding opening ticks_allowed
  refused_begins b b' load n size is some h =
      let no = ne_eqb (load_refusal s) 0 (λ z. some (is ∙ z)) in
      record {
        text = append_as _ _ _ _ _ _ (ap refused_line is ∙ sym (cond_false (eqb (load_refusal s) 0) [] _ no)) h;
        none = refl;
        all = sym (cond_false (eqb (load_refusal s) 0) (ticks_in s) 0 no);
        first = λ some. absurd (omega arith);
        loaded = λ some. absurd (omega arith);
      }

  pub accepted_begins : (b : List ℕ) (t : List ℤ) (state ticks : ℕ) → load_refusal s ≡ 0 → t ≡ (begun s).table → state ≡ le4 s seed_at → ticks ≡ le4 s ticks_at → Begins s b (load_of t state) 0 ticks 0 b
  unfolding opening ticks_allowed ticks_in begun check_answer
  accepted_begins b t state ticks h table seed all =
      let yes = eq-eqb (load_refusal s) 0 h in
      let is : load_of t state ≡ begun s = ap (λ (u : List ℤ). load_of u state) table ∙ ap (load_of _) seed in
      record {
        text = append_as _ _ _ _ _ _ (sym (cond_true (eqb (load_refusal s) 0) [] _ yes)) (append_none b 0);
        none = refl;
        all = all ∙ sym (cond_true (eqb (load_refusal s) 0) (ticks_in s) 0 yes);
        first = λ some. is;
        loaded = λ some.
            let good = sym (plan_refused (accepted_long h)) ∙ h in
            rw table (record { order = plan_keeps blank (drop plan_at s) good; port = plan_port blank (drop plan_at s) good });
      }

-- So it is enough to read the first bytes of an input.
pub first_bytes : (s : List ℕ) → input_length ≤ length s → load_text (take input_length s) ≡ load_text s
unfolding load_text
first_bytes s long =
    let cut = take input_length s in
    let size : length cut ≡ input_length = length-take-le input_length s long in
    rw (long_refused cut (omega (arith, size)), long_refused s long)
