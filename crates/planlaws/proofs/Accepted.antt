-- What an accepted plan has passed, and what the refusals of its joins say one by one.
use Prim.Native.Nat.{ℕ, zero, suc, ◌+◌, ◌≤◌, ◌<◌}
use mathlib.Core.Path.{◌≡◌, refl, sym, ap, ◌∙◌}
use mathlib.Core.Bool.{Bool, true, not, cond}
use mathlib.Core.List.{List, [], ◌∷◌}
use native.Mathlib.Numerals.{add-one}
use native.Mathlib.Omega.{arith}
use native.Mathlib.Decide.{ℕ_discrete}
use borrow.Author.Tests.{eqb-true, eq-eqb, ne_eqb, not-false}
use lib.Dec.{eqb}
use lib.ListN.{length}
use lib.IntN.{ℤ, pos}
use Rattle.numbers.proofs.All.{below_cases}
use Rattle.numbers.proofs.Steps.{for_suc}
use Rattle.numbers.specs.Below.{for_below}
use Rattle.definitions.specs.Limits.{table_length, first_port}
use Rattle.definitions.specs.Tree.{tree_of}
use Rattle.definitions.specs.Refusals.{Cause, cause, first}
use Rattle.definitions.specs.Calls.{open_refusal, open_table, opened, join_refusal, join_table}
use Rattle.definitions.proofs.Refusals.{first_here, first_past, first_end, first_none, none_first, kept_new}
use Rattle.treelaws.specs.Joins.{refusal_of, after_join}
use Rattle.planformat.specs.Kinds.{sort_of, share_kind_of}
use Rattle.planformat.specs.Format.{Entry, Plan, plan_in, formed}
use Rattle.planlaws.specs.Reading.{join_of, entry_refusal, after_entry, after_entries, refusing, entries_refusal, opened_for, joined_for, rising, plan_refusal, plan_table}

-- The refusal of a call as a cause.
pub refusing_here : (r : ℕ) (cs : List Cause) → (r ≡ 0 → ⊥) → first (refusing r ∷ cs) ≡ r
unfolding refusing
refusing_here r cs ne = first_here r (not (eqb r 0)) cs (ap not (ne_eqb r 0 ne))

pub refusing_past : (r : ℕ) (cs : List Cause) → r ≡ 0 → first (refusing r ∷ cs) ≡ first cs
unfolding refusing
refusing_past r cs e = first_past r (not (eqb r 0)) cs (ap not (eq-eqb r 0 e))

pub none_refusing : (r : ℕ) (cs : List Cause) → first (refusing r ∷ cs) ≡ 0 → (r ≡ 0) × (first cs ≡ 0)
none_refusing r cs h = elim (ℕ_discrete r 0) [ yes e ↦ (e, sym (refusing_past r cs e) ∙ h) | no ne ↦ absurd (ne (sym (refusing_here r cs ne) ∙ h)) ]

pub refusing_last : (r : ℕ) → first (refusing r ∷ []) ≡ r
refusing_last r = elim (ℕ_discrete r 0) [ yes e ↦ refusing_past r [] e ∙ first_end ∙ sym e | no ne ↦ refusing_here r [] ne ]

-- A join by the numbers of an entry is the join that the entry asks for.
pub join_by : (t : List ℤ) (e : Entry) {sort kind share r : ℕ} {u : List ℤ} → sort ≡ sort_of e.kind → kind ≡ share_kind_of e.kind → share ≡ e.share → r ≡ join_refusal t (pos e.node) (pos e.parent) (pos sort) (pos kind) (pos share) (pos e.depth) (pos first_port) → u ≡ join_table t (pos e.node) (pos e.parent) (pos sort) (pos kind) (pos share) (pos e.depth) (pos first_port) → (r ≡ entry_refusal t e) × (u ≡ after_entry t e)
unfolding entry_refusal after_entry refusal_of after_join join_of
join_by t e sort kind share refusal table = (rw (sort, kind, share) at refusal, rw (sort, kind, share) at table)

-- The joins of a plan's entries, one after the other.
module _ (t : List ℤ) (p : Plan) where
  pub after_none : after_entries t p 0 ≡ t
  unfolding after_entries for_below
  after_none = refl

  pub after_suc : (n : ℕ) → after_entries t p (suc n) ≡ after_entry (after_entries t p n) (p.entry n)
  unfolding after_entries
  after_suc n = for_suc n (λ i u. after_entry u (p.entry i)) t

  pub after_next : (n : ℕ) → after_entries t p (n + 1) ≡ after_entry (after_entries t p n) (p.entry n)
  after_next n = ap (after_entries t p) (add-one n) ∙ after_suc n

  pub entries_none : entries_refusal t p 0 ≡ 0
  unfolding entries_refusal
  entries_none = refl

  -- The next join counts where none before it is refused; else the refusal stays.
  pub entries_suc : (n : ℕ) → entries_refusal t p n ≡ 0 → entries_refusal t p (suc n) ≡ entry_refusal (after_entries t p n) (p.entry n)
  unfolding entries_refusal
  entries_suc n h = refusing_past (entries_refusal t p n) (refusing (entry_refusal (after_entries t p n) (p.entry n)) ∷ []) h ∙ refusing_last (entry_refusal (after_entries t p n) (p.entry n))

  pub entries_next : (n : ℕ) → entries_refusal t p n ≡ 0 → entries_refusal t p (n + 1) ≡ entry_refusal (after_entries t p n) (p.entry n)
  entries_next n h = ap (entries_refusal t p) (add-one n) ∙ entries_suc n h

  entries_refused : (n : ℕ) → (entries_refusal t p n ≡ 0 → ⊥) → entries_refusal t p (suc n) ≡ entries_refusal t p n
  unfolding entries_refusal
  entries_refused n ne = refusing_here (entries_refusal t p n) (refusing (entry_refusal (after_entries t p n) (p.entry n)) ∷ []) ne

  pub entries_stay : (m n : ℕ) → m ≤ n → (entries_refusal t p m ≡ 0 → ⊥) → entries_refusal t p n ≡ entries_refusal t p m
  entries_stay m zero h ne = ap (entries_refusal t p) (omega arith)
  entries_stay m (suc n) h ne =
      let before = entries_stay m n in
      below_cases (suc n) m (omega arith) (λ l. let same = before (omega arith) ne in entries_refused n (λ e. ne (sym same ∙ e)) ∙ same) (λ e. ap (entries_refusal t p) (sym e))

  -- None is refused exactly when each is accepted in its turn.
  pub entries_each : (n : ℕ) → entries_refusal t p n ≡ 0 → (i : ℕ) → i < n → entry_refusal (after_entries t p i) (p.entry i) ≡ 0
  entries_each n h i hi = sym (entries_suc i (earlier i (omega arith))) ∙ earlier (suc i) hi
    where
      earlier : (m : ℕ) → m ≤ n → entries_refusal t p m ≡ 0
      earlier m hm = elim (ℕ_discrete (entries_refusal t p m) 0) [ yes e ↦ e | no ne ↦ absurd (ne (sym (entries_stay m n hm ne) ∙ h)) ]

  pub each_entries : (n : ℕ) → ((i : ℕ) → i < n → entry_refusal (after_entries t p i) (p.entry i) ≡ 0) → entries_refusal t p n ≡ 0
  each_entries zero h = entries_none
  each_entries (suc n) h = entries_suc n (each_entries n (λ i hi. h i (omega arith))) ∙ h n (omega arith)

-- What an accepted plan has passed.
pub record PlanAccepted (t : List ℤ) (s : List ℕ) : Type 0 where
  pub long : length t ≡ table_length
  pub formed : formed s ≡ true
  pub opening : open_refusal t (pos (plan_in s).rate) (pos (plan_in s).depth) ≡ 0
  pub joining : entries_refusal (opened_for t (plan_in s)) (plan_in s) (plan_in s).count ≡ 0
  pub rising : rising (tree_of (joined_for t (plan_in s))) (plan_in s) ≡ true

pub plan_accepted : (t : List ℤ) (s : List ℕ) → plan_refusal t s ≡ 0 → PlanAccepted t s
unfolding plan_refusal
plan_accepted t s h =
    let h1 = none_first 1 _ _ (omega arith) h in
    let h2 = none_first 14 _ _ (omega arith) h1.1 in
    let h3 = none_refusing _ _ h2.1 in
    let h4 = none_refusing _ _ h3.1 in
    let h5 = none_first 15 _ _ (omega arith) h4.1 in
    record {
      long = eqb-true (length t) table_length (not-false _ h1.0);
      formed = not-false _ h2.0;
      opening = h3.0;
      joining = h4.0;
      rising = not-false _ h5.0;
    }

pub accepted_plan : (t : List ℤ) (s : List ℕ) → PlanAccepted t s → plan_refusal t s ≡ 0
unfolding plan_refusal
accepted_plan t s a =
    first_none 1 _ _ (ap not (eq-eqb (length t) table_length a.long))
    (first_none 14 _ _ (ap not a.formed)
    (refusing_past _ _ a.opening ∙ refusing_past _ _ a.joining ∙ first_none 15 _ _ (ap not a.rising) first_end))

pub plan_table_law : (t : List ℤ) (s : List ℕ) → plan_refusal t s ≡ 0 → plan_table t s ≡ joined_for t (plan_in s)
unfolding plan_table
plan_table_law t s h = kept_new (plan_refusal t s) (joined_for t (plan_in s)) t h

-- What the table was before makes no difference, but for its length.
pub opened_for_law : (t : List ℤ) (p : Plan) → open_refusal t (pos p.rate) (pos p.depth) ≡ 0 → opened_for t p ≡ opened (pos p.rate) (pos p.depth)
unfolding opened_for open_table
opened_for_law t p h = kept_new (open_refusal t (pos p.rate) (pos p.depth)) (opened (pos p.rate) (pos p.depth)) t h

first_rest : (n : ℕ) (b : Bool) (xs ys : List Cause) → first xs ≡ first ys → first (cause n b ∷ xs) ≡ first (cause n b ∷ ys)
unfolding first
first_rest n b xs ys e = ap (λ (m : ℕ). cond b n m) e

refusing_rest : (r : ℕ) (xs ys : List Cause) → (r ≡ 0 → xs ≡ ys) → first (refusing r ∷ xs) ≡ first (refusing r ∷ ys)
refusing_rest r xs ys h =
    elim (ℕ_discrete r 0) [ yes e ↦ ap (λ (zs : List Cause). first (refusing r ∷ zs)) (h e) | no ne ↦ refusing_here r xs ne ∙ sym (refusing_here r ys ne) ]

open_any : (t u : List ℤ) (rate depth : ℤ) → length t ≡ length u → open_refusal t rate depth ≡ open_refusal u rate depth
unfolding open_refusal
open_any t u rate depth e = rw e

-- The causes behind open's.
after_open : List ℤ → Plan → List Cause
after_open t p = refusing (entries_refusal (opened_for t p) p p.count) ∷ cause 15 (not (rising (tree_of (joined_for t p)) p)) ∷ []

joined_any : (t u : List ℤ) (p : Plan) → opened_for t p ≡ opened_for u p → joined_for t p ≡ joined_for u p
unfolding joined_for
joined_any t u p e = rw e

after_any : (t u : List ℤ) (p : Plan) → opened_for t p ≡ opened_for u p → after_open t p ≡ after_open u p
unfolding after_open
after_any t u p e = rw (e, joined_any t u p e)

module _ (t u : List ℤ) (s : List ℕ) (e : length t ≡ length u) where
  opening : open_refusal t (pos (plan_in s).rate) (pos (plan_in s).depth) ≡ open_refusal u (pos (plan_in s).rate) (pos (plan_in s).depth)
  opening = open_any t u (pos (plan_in s).rate) (pos (plan_in s).depth) e

  opened_any : open_refusal u (pos (plan_in s).rate) (pos (plan_in s).depth) ≡ 0 → opened_for t (plan_in s) ≡ opened_for u (plan_in s)
  opened_any h = opened_for_law t (plan_in s) (opening ∙ h) ∙ sym (opened_for_law u (plan_in s) h)

  pub plan_refusal_any : plan_refusal t s ≡ plan_refusal u s
  unfolding plan_refusal after_open
  plan_refusal_any =
      rw (e, opening)
      (first_rest 1 _ _ _ (first_rest 14 _ _ _ (refusing_rest _ (after_open t (plan_in s)) (after_open u (plan_in s)) (λ h. after_any t u (plan_in s) (opened_any h)))))

  pub plan_table_any : plan_refusal t s ≡ 0 → plan_table t s ≡ plan_table u s
  plan_table_any h =
      let other = sym plan_refusal_any ∙ h in
      plan_table_law t s h ∙ joined_any t u (plan_in s) (opened_any (plan_accepted u s other).opening) ∙ sym (plan_table_law u s other)
