-- The two round trips as the calls see them, over the edition. What write leaves in a buffer is accepted by read into any table
-- of right length, which says the edition that write was told, and same says yes. What read accepts is written back to the byte
-- in the edition that read said. Tables that can be written are the same exactly when their plans are.
use Prim.Native.Nat.{ℕ, zero, suc, ◌≤◌, ◌<◌}
use mathlib.Core.Path.{◌≡◌, refl, sym, ap, ◌∙◌}
use mathlib.Core.Bool.{true, false, not}
use mathlib.Core.Logic.{◌↔◌}
use mathlib.Core.List.{List, [], ◌∷◌, ◌++◌}
use native.Mathlib.Omega.{arith}
use borrow.Author.Tests.{eq-eqb, le-ltb, ltb-false, not-false}
use lib.Dec.{eqb}
use lib.ListN.{length, take, drop}
use lib.Seq.{take_at}
use lib.IntN.{ℤ, pos}
use Rattle.numbers.specs.Whole.{plus, same_ℤ, within_ℤ}
use Rattle.numbers.specs.Below.{all_below}
use Rattle.numbers.proofs.Tests.{cond_true}
use Rattle.numbers.proofs.Every.{head_holds, rest_hold, none_left, holds_with}
use Rattle.numbers.proofs.Parts.{eq_same, same_eq, plus_pos, minus_pos, pos_of_within, zarith}
use Rattle.numbers.proofs.All.{all_at, all_intro}
use Rattle.definitions.specs.Limits.{table_length, nodes, rate_at, port_at, root}
use Rattle.definitions.specs.Places.{place, put, rate}
use Rattle.definitions.specs.Tree.{tree_of}
use Rattle.definitions.specs.Order.{in_order}
use Rattle.definitions.specs.Refusals.{accepted}
use Rattle.definitions.specs.Calls.{same_tree, same_refusal, same_answer}
use Rattle.definitions.proofs.Facts.{facts}
use Rattle.definitions.proofs.Places.{place_put_place}
use Rattle.definitions.proofs.Refusals.{none_first, first_none, first_end, outcome_accepted}
use Rattle.treelaws.proofs.Renewed.{same_tree_below}
use Rattle.planformat.specs.Bytes.{byte_values, byte_at}
use Rattle.planformat.specs.declared.Edition.{Edition}
use Rattle.planformat.specs.declared.Edition.TheVariants.{First, Second}
use Rattle.planformat.specs.Format.{first_edition, second_edition, edition_number, edition_of, edition_in, plan_length}
use Rattle.planformat.proofs.Editions.{edition_again}
use Rattle.planlaws.specs.Reading.{plan_refusal, plan_table, plan_answer}
use Rattle.planlaws.specs.Writing.{order, plan_of, plan_bytes, unwritable, edition_told, write_refusal, write_buffer, write_answer}
use Rattle.planformat.proofs.Codec.{length_bytes}
use Rattle.planlaws.proofs.ReadWritten.{plan_keeps, plan_writable, read_written}
use Rattle.planlaws.proofs.WrittenRead.{written_met, written_accepted, written_place, written_disk}

-- What same compares.
pub record SamePlaces (a b : List ℤ) : Type 0 where
  pub places : (k p : ℕ) → k < nodes → p < rate_at → place a k p ≡ place b k p
  pub disk : place a root rate_at ≡ place b root rate_at

pub facts_same : (a b : List ℤ) → SamePlaces a b → same_tree a b ≡ true
unfolding same_tree
facts_same a b h =
    holds_with _ _ (all_intro nodes (λ k. all_below rate_at (λ p. same_ℤ (place a k p) (place b k p))) (λ k hk. all_intro rate_at (λ p. same_ℤ (place a k p) (place b k p)) (λ p hp. eq_same _ _ (h.places k p hk hp))))
    (holds_with _ _ (eq_same _ _ h.disk) none_left)

pub same_facts : (a b : List ℤ) → same_tree a b ≡ true → SamePlaces a b
unfolding same_tree
same_facts a b h =
    record {
      places = λ k p hk hp. same_eq _ _ (all_at rate_at (λ p. same_ℤ (place a k p) (place b k p)) (all_at nodes (λ k. all_below rate_at (λ p. same_ℤ (place a k p) (place b k p))) (head_holds _ _ h) k hk) p hp);
      disk = same_eq _ _ (head_holds _ _ (rest_hold _ _ h));
    }

pub same_answer_law : (a b : List ℤ) → in_order a ≡ true → in_order b ≡ true → same_tree a b ≡ true → same_answer a b ≡ accepted (pos 1 ∷ [])
unfolding same_answer same_refusal
same_answer_law a b ha hb h =
    outcome_accepted _ _ (first_none 1 _ _ (ap not (holds_with _ _ ha (holds_with _ _ hb none_left))) first_end)
    ∙ ap (λ (z : ℤ). accepted (z ∷ [])) (cond_true (same_tree a b) (pos 1) (pos 0) h)

-- A table in order and what its plan is read to are the same.
module _ (e : Edition) (t u : List ℤ) (h : in_order t ≡ true) (kinds : unwritable e (tree_of t) ≡ false) (long : length u ≡ table_length) where
  pub written_same : same_tree t (plan_table u (plan_bytes e t)) ≡ true
  written_same =
      facts_same t (plan_table u (plan_bytes e t)) (record { places = λ k p hk hp. sym (written_place e t u h kinds long k p hk hp); disk = sym (written_disk e t u h kinds long) })

  pub written_answer : same_answer t (plan_table u (plan_bytes e t)) ≡ accepted (pos 1 ∷ [])
  written_answer = same_answer_law t (plan_table u (plan_bytes e t)) h (plan_keeps u (plan_bytes e t) (written_accepted e t u h kinds long)) written_same

-- Two tables in order that are the same have the same plan bytes, and exactly then where both can be written.
pub same_written : (e : Edition) (a b : List ℤ) → in_order a ≡ true → in_order b ≡ true → same_tree a b ≡ true → plan_bytes e a ≡ plan_bytes e b
unfolding plan_bytes plan_of rate
same_written e a b ha hb h =
    let s = same_facts a b h in
    let trees = same_tree_below a b (facts a ha).long (facts b hb).long s.places in
    rw (trees, s.disk)

-- So a client's port is not written: whatever it is, the bytes are the same.
pub port_unwritten : (e : Edition) (t : List ℤ) (k : ℕ) (v : ℤ) → in_order t ≡ true → in_order (put t k port_at v) ≡ true → plan_bytes e (put t k port_at v) ≡ plan_bytes e t
port_unwritten e t k v h h' =
    same_written e (put t k port_at v) t h' h
    (facts_same (put t k port_at v) t
    (record {
      places = λ j p hj hp. place_put_place t k port_at v j p (omega arith) (omega (arith, hp)) (λ e. omega (arith, hp, e));
      disk = place_put_place t k port_at v root rate_at (omega arith) (omega arith) (λ e. omega (arith, e));
    }))

pub same_plans : (e : Edition) (a b : List ℤ) → in_order a ≡ true → in_order b ≡ true → unwritable e (tree_of a) ≡ false → unwritable e (tree_of b) ≡ false → (same_tree a b ≡ true) ↔ (plan_bytes e a ≡ plan_bytes e b)
same_plans e a b ha hb ka kb = (same_written e a b ha hb, back)
  where
    back : plan_bytes e a ≡ plan_bytes e b → same_tree a b ≡ true
    back is =
        let long = (facts a ha).long in
        let same : plan_table a (plan_bytes e a) ≡ plan_table a (plan_bytes e b) = ap (plan_table a) is in
        facts_same a b
        (record {
          places = λ k p hk hp. sym (written_place e a a ha ka long k p hk hp) ∙ ap (λ (v : List ℤ). place v k p) same ∙ written_place e b a hb kb long k p hk hp;
          disk = sym (written_disk e a a ha ka long) ∙ ap (λ (v : List ℤ). place v root rate_at) same ∙ written_disk e b a hb kb long;
        })

-- What an accepted write has passed and left.
pub length_plan : (e : Edition) (t : List ℤ) → length (plan_bytes e t) ≡ plan_length e (length (order (tree_of t)))
unfolding plan_bytes plan_of
length_plan e t = length_bytes e (plan_of t)

pub record WritePassed (t : List ℤ) (edition : ℤ) (buffer : List ℕ) : Type 0 where
  pub order : in_order t ≡ true
  pub told : within_ℤ first_edition second_edition edition ≡ true
  pub room : length (plan_bytes (edition_told edition) t) ≤ length buffer
  pub kinds : unwritable (edition_told edition) (tree_of t) ≡ false

module _ (t : List ℤ) (edition : ℤ) (buffer : List ℕ) where
  pub write_passed : write_refusal t edition buffer ≡ 0 → WritePassed t edition buffer
  unfolding write_refusal
  write_passed h =
      let h1 = none_first 1 _ _ (omega arith) h in
      let h2 = none_first 2 _ _ (omega arith) h1.1 in
      let h3 = none_first 13 _ _ (omega arith) h2.1 in
      let h4 = none_first 16 _ _ (omega arith) h3.1 in
      record { order = not-false _ h1.0; told = not-false _ h2.0; room = ltb-false _ _ h3.0; kinds = h4.0 }

  pub passed_write : WritePassed t edition buffer → write_refusal t edition buffer ≡ 0
  unfolding write_refusal
  passed_write w =
      first_none 1 _ _ (ap not w.order)
      (first_none 2 _ _ (ap not w.told) (first_none 13 _ _ (le-ltb _ _ w.room) (first_none 16 _ _ w.kinds first_end)))

  pub write_leaves : write_refusal t edition buffer ≡ 0 → write_buffer t edition buffer ≡ plan_bytes (edition_told edition) t ++ drop (length (plan_bytes (edition_told edition) t)) buffer
  unfolding write_buffer
  write_leaves h = cond_true (eqb (write_refusal t edition buffer) 0) _ buffer (eq-eqb (write_refusal t edition buffer) 0 h)

  pub write_front : write_refusal t edition buffer ≡ 0 → take (length (plan_bytes (edition_told edition) t)) (write_buffer t edition buffer) ≡ plan_bytes (edition_told edition) t
  write_front h =
      let plan = plan_bytes (edition_told edition) t in
      ap (take (length plan)) (write_leaves h) ∙ take_at plan (drop (length plan) buffer) (length plan) refl

-- The edition that is told is that of its number.
number_again : (n : ℕ) → first_edition ≤ n → n ≤ second_edition → edition_number (edition_of n) ≡ n
unfolding edition_number edition_of
number_again zero low high = absurd (omega arith)
number_again (suc zero) low high = refl
number_again (suc (suc zero)) low high = refl
number_again (suc (suc (suc n))) low high = absurd (omega arith)

told_again : (edition : ℤ) → within_ℤ first_edition second_edition edition ≡ true → pos (edition_number (edition_told edition)) ≡ edition
told_again edition h = ap pos (number_again (plus edition) (omega (arith, zarith)) (omega (arith, zarith))) ∙ pos_of_within first_edition second_edition edition h

-- Write, then read.
pub record ReadsBack (t u : List ℤ) (edition : ℤ) (s : List ℕ) : Type 0 where
  pub answer : plan_answer u s ≡ accepted (edition ∷ [])
  pub same : same_answer t (plan_table u s) ≡ accepted (pos 1 ∷ [])

pub write_then_read : (t u : List ℤ) (edition : ℤ) (buffer : List ℕ) → write_refusal t edition buffer ≡ 0 → length u ≡ table_length → ReadsBack t u edition (take (length (plan_bytes (edition_told edition) t)) (write_buffer t edition buffer))
unfolding plan_answer
write_then_read t u edition buffer h long =
    let w = write_passed t edition buffer h in
    let e = edition_told edition in
    rw (write_front t edition buffer h)
    (record {
      answer =
          outcome_accepted _ _ (written_accepted e t u w.order w.kinds long)
          ∙ ap (λ (z : ℤ). accepted (z ∷ [])) (ap (λ (d : Edition). pos (edition_number d)) (written_met e t u w.order w.kinds long) ∙ told_again edition w.told);
      same = written_answer e t u w.order w.kinds long;
    })

-- Read, then write in the edition that read said.
pub record WritesBack (t : List ℤ) (edition : ℤ) (s buffer : List ℕ) : Type 0 where
  pub answer : write_answer t edition buffer ≡ accepted (pos (length s) ∷ [])
  pub bytes : write_buffer t edition buffer ≡ s ++ drop (length s) buffer

said : (e : Edition) → (within_ℤ first_edition second_edition (pos (edition_number e)) ≡ true) × (edition_told (pos (edition_number e)) ≡ e)
unfolding edition_number plus
said First = (omega (arith, zarith, plus_pos first_edition, minus_pos first_edition), edition_again First)
said Second = (omega (arith, zarith, plus_pos second_edition, minus_pos second_edition), edition_again Second)

pub read_then_write : (t : List ℤ) (s buffer : List ℕ) → plan_refusal t s ≡ 0 → ((i : ℕ) → i < length s → byte_at s i < byte_values) → length s ≤ length buffer → WritesBack (plan_table t s) (pos (edition_number (edition_in s))) s buffer
unfolding write_answer
read_then_write t s buffer h small room =
    let edition : ℤ = pos (edition_number (edition_in s)) in
    let told = said (edition_in s) in
    let same : plan_bytes (edition_told edition) (plan_table t s) ≡ s = ap (λ (e : Edition). plan_bytes e (plan_table t s)) told.1 ∙ read_written t s h small in
    let free =
    passed_write (plan_table t s) edition buffer
    (record {
      order = plan_keeps t s h;
      told = told.0;
      room = omega (arith, ap (λ (b : List ℕ). length b) same);
      kinds = ap (λ (e : Edition). unwritable e (tree_of (plan_table t s))) told.1 ∙ plan_writable t s h;
    })
    in
    record {
      answer = outcome_accepted _ _ free ∙ ap (λ (b : List ℕ). accepted (pos (length b) ∷ [])) same;
      bytes = write_leaves (plan_table t s) edition buffer free ∙ ap (λ (b : List ℕ). b ++ drop (length b) buffer) same;
    }

-- Both round trips of the second edition, each part by itself.
pub second_read : (t u : List ℤ) (buffer : List ℕ) → write_refusal t (pos second_edition) buffer ≡ 0 → length u ≡ table_length → (plan_answer u (take (length (plan_bytes Second t)) (write_buffer t (pos second_edition) buffer)) ≡ accepted (pos second_edition ∷ [])) × (same_answer t (plan_table u (take (length (plan_bytes Second t)) (write_buffer t (pos second_edition) buffer))) ≡ accepted (pos 1 ∷ []))
unfolding edition_of plus
second_read t u buffer h long = let back = write_then_read t u (pos second_edition) buffer h long in (back.answer, back.same)

pub second_written : (t : List ℤ) (s buffer : List ℕ) → edition_in s ≡ Second → plan_refusal t s ≡ 0 → ((i : ℕ) → i < length s → byte_at s i < byte_values) → length s ≤ length buffer → (write_answer (plan_table t s) (pos second_edition) buffer ≡ accepted (pos (length s) ∷ [])) × (write_buffer (plan_table t s) (pos second_edition) buffer ≡ s ++ drop (length s) buffer)
unfolding edition_number
second_written t s buffer e h small room =
    let back = read_then_write t s buffer h small room in
    let told : pos second_edition ≡ pos (edition_number (edition_in s)) = ap (λ (d : Edition). pos (edition_number d)) (sym e) in
    (rw told back.answer, rw told back.bytes)
