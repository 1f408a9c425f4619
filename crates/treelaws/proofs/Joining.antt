-- Rates never depend on the order of joining. The table after a list of accepted joins is known by the table before and
-- the joins alone: each joined node shows what its join gave it, with a level one below its parent's, every other node
-- shows what it showed, and the rates are those of the rates section. So two orders of the same joins leave one table.
use Prim.Native.Nat.{ℕ, zero, suc, ◌<◌}
use mathlib.Core.Path.{◌≡◌, refl, sym, ap, ◌∙◌}
use mathlib.Core.Bool.{true, false}
use mathlib.Core.Logic.{⊎_elim, ◌↔◌}
use mathlib.Core.List.Memᴰ.{cases_cons as among_cases}
use mathlib.Core.List.Memᴰ.{eq_of_singleton as among_one}
use mathlib.Core.List.Memᴰ.{head as IsAmong-first}
use mathlib.Core.List.Memᴰ.{not-nil as among_none}
use mathlib.Core.List.Memᴰ.{tail as among-rest}
use mathlib.Core.List.{List, [], ◌∷◌, Memᴰ as Among}
use native.Mathlib.Omega.{arith}
use native.Mathlib.Decide.{ℕ_discrete, dec_lt}
use lib.ListN.{length}
use lib.IntN.{ℤ, pos}
use Rattle.numbers.specs.Whole.{plus}
use Rattle.numbers.proofs.Tests.{by_test, true_false}
use Rattle.numbers.proofs.Parts.{plus_pos}
use Rattle.definitions.specs.Limits.{table_length, header_length, record_length, nodes, sort_at, level_at, rate_at, port_at, root}
use Rattle.definitions.specs.Places.{place, header, rate}
use Rattle.definitions.specs.Tree.{tree_of, there}
use Rattle.definitions.specs.Rates.{rate_in}
use Rattle.definitions.proofs.Places.{same_places}
use Rattle.definitions.proofs.Facts.{InOrder, facts}
use Rattle.treelaws.specs.Joins.{Join, refusal_of, after_join, after_joins, AllAccepted, none, next}
use Rattle.treelaws.proofs.Renewed.{same_tree_law}
use Rattle.treelaws.proofs.Joined.{JoinAccepted, join_accepted, Given, of_tree, of_port_law, given_by, same_there, level_by_place, JoinLeaves, join_leaves}

-- A join of the list has node k.
abbrev pub HasNode : List Join → ℕ → Type 0
HasNode joins k = (j : Join) × Among j joins × (plus j.node ≡ k)

-- The table u is what the accepted joins of a list leave of t, in whatever order they came.
pub record JoinsLeave (t : List ℤ) (joins : List Join) (u : List ℤ) : Type 0 where
  pub long : length u ≡ table_length
  pub heading : (p : ℕ) → p < header_length → header u p ≡ header t p
  pub rest : (k p : ℕ) → rate_at < p → p < record_length → (p ≡ port_at → ⊥) → place u k p ≡ place t k p
  pub kept : (k p : ℕ) → Given p → (HasNode joins k → ⊥) → place u k p ≡ place t k p
  pub written : (j : Join) → Among j joins → (p : ℕ) → Given p → place u (plus j.node) p ≡ given_by j (suc ((tree_of u).level (plus j.parent))) p
  pub free : (j : Join) → Among j joins → there (tree_of t) (plus j.node) ≡ false
  pub disk : rate u root ≡ rate t root
  pub rates : (k : ℕ) → k < nodes → there (tree_of u) k ≡ true → place u k rate_at ≡ pos (rate_in (tree_of u) (rate u root) k)
  pub unused : (k : ℕ) → there (tree_of u) k ≡ false → place u k rate_at ≡ place t k rate_at

none_leave : (t : List ℤ) → length t ≡ table_length → ((k : ℕ) → k < nodes → there (tree_of t) k ≡ true → place t k rate_at ≡ pos (rate_in (tree_of t) (rate t root) k)) → JoinsLeave t [] t
none_leave t nt r =
    record {
      long = nt;
      heading = λ p hp. refl;
      rest = λ k p low hp other. refl;
      kept = λ k p hp nobody. refl;
      written = λ j m. absurd (among_none m);
      free = λ j m. absurd (among_none m);
      disk = refl;
      rates = r;
      unused = λ k e. refl;
    }

-- One join more in front.
next_leave : (t : List ℤ) (j : Join) (v : List ℤ) (joins : List Join) (u : List ℤ) → JoinAccepted t j → JoinLeaves t j v → JoinsLeave v joins u → JoinsLeave t (j ∷ joins) u
next_leave t j v joins u a s r =
    record {
      long = r.long;
      heading = λ p hp. r.heading p hp ∙ s.heading p hp;
      rest = λ k p low hp other. r.rest k p low hp other ∙ s.rest k p low hp other;
      kept = λ k p hp nobody. r.kept k p hp (λ h. nobody (h.0, among-rest h.1, h.2)) ∙ s.kept k p hp (λ e. nobody (j, IsAmong-first refl, sym e));
      written = λ i m p hp. ⊎_elim (λ e. rw e (first p hp)) (λ n. r.written i n p hp) (among_cases m);
      free = λ i m. ⊎_elim (λ e. rw e a.unused) (λ n. earlier (plus i.node) (r.free i n)) (among_cases m);
      disk = r.disk ∙ s.disk;
      rates = r.rates;
      unused = λ k e. r.unused k e ∙ s.unused k (later k e);
    }
  where
    -- A node that is there stays as it is.
    apart : (k : ℕ) → there (tree_of t) k ≡ true → k ≡ plus j.node → ⊥
    apart k e same = true_false e (rw same a.unused)

    there_still : (k : ℕ) → there (tree_of t) k ≡ true → there (tree_of v) k ≡ true
    there_still k e = same_there v t k (s.kept k sort_at (of_tree (omega arith)) (apart k e)) ∙ e

    still : (k p : ℕ) → Given p → there (tree_of v) k ≡ true → place u k p ≡ place v k p
    still k p hp e = r.kept k p hp (λ h. true_false e (rw h.2 at (r.free h.0 h.1)))

    earlier : (k : ℕ) → there (tree_of v) k ≡ false → there (tree_of t) k ≡ false
    earlier k e = by_test (there (tree_of t) k) (λ h. absurd (true_false (there_still k h) e)) (λ h. h)

    later : (k : ℕ) → there (tree_of u) k ≡ false → there (tree_of v) k ≡ false
    later k e = by_test (there (tree_of v) k) (λ h. absurd (true_false (same_there u v k (still k sort_at (of_tree (omega arith)) h) ∙ h) e)) (λ h. h)

    level : (tree_of t).level (plus j.parent) ≡ (tree_of u).level (plus j.parent)
    level =
        level_by_place t (plus j.parent)
        ∙ ap plus (sym (still (plus j.parent) level_at (of_tree (omega arith)) (there_still (plus j.parent) a.there) ∙ s.kept (plus j.parent) level_at (of_tree (omega arith)) (apart (plus j.parent) a.there)))
        ∙ sym (level_by_place u (plus j.parent))

    first : (p : ℕ) → Given p → place u (plus j.node) p ≡ given_by j (suc ((tree_of u).level (plus j.parent))) p
    first p hp = still (plus j.node) p hp s.here ∙ s.written p hp ∙ ap (λ (l : ℕ). given_by j (suc l) p) level

pub joins_leave : {t : List ℤ} {joins : List Join} → AllAccepted t joins → length t ≡ table_length → ((k : ℕ) → k < nodes → there (tree_of t) k ≡ true → place t k rate_at ≡ pos (rate_in (tree_of t) (rate t root) k)) → JoinsLeave t joins (after_joins t joins)
unfolding after_joins
joins_leave {t} none nt r = none_leave t nt r
joins_leave {t} (next {j = j} {joins = joins} h all) nt r =
    let a = join_accepted t j h in
    let s = join_leaves t j h in
    next_leave t j (after_join t j) joins (after_joins (after_join t j) joins) a s (joins_leave all s.long s.rates)

found : (joins : List Join) (k : ℕ) → Dec (HasNode joins k)
found [] k = no (λ h. among_none h.1)
found (i ∷ joins) k = go (ℕ_discrete (plus i.node) k) (found joins k)
  where
    go : Dec (plus i.node ≡ k) → Dec (HasNode joins k) → Dec (HasNode (i ∷ joins) k)
    go (yes e) below = yes (i, IsAmong-first refl, e)
    go (no ne) (yes h) = yes (h.0, among-rest h.1, h.2)
    go (no ne) (no nobody) = no (λ h. ⊎_elim (λ same. ne (rw same at h.2)) (λ m. nobody (h.0, m, h.2)) (among_cases h.1))

written_level : (t : List ℤ) (joins : List Join) (u : List ℤ) → JoinsLeave t joins u → (j : Join) → Among j joins → (tree_of u).level (plus j.node) ≡ suc ((tree_of u).level (plus j.parent))
unfolding given_by
written_level t joins u r j m = level_by_place u (plus j.node) ∙ ap plus (r.written j m level_at (of_tree (omega arith))) ∙ plus_pos (suc ((tree_of u).level (plus j.parent)))

module _ (t : List ℤ) (joins others : List Join) (u v : List ℤ) (same : (j : Join) → Among j joins ↔ Among j others) (r : JoinsLeave t joins u) (s : JoinsLeave t others v) where
  -- A node that no join has.
  untouched : (k p : ℕ) → Given p → (HasNode joins k → ⊥) → place u k p ≡ place v k p
  untouched k p hp nobody = r.kept k p hp nobody ∙ sym (s.kept k p hp (λ h. nobody (h.0, (same h.0).1 h.1, h.2)))

  -- Levels agree, by induction on the level.
  joined_level : (n : ℕ) → ((k : ℕ) → (tree_of u).level k < n → (tree_of u).level k ≡ (tree_of v).level k) → (j : Join) → Among j joins → (tree_of u).level (plus j.node) < suc n → (tree_of u).level (plus j.node) ≡ (tree_of v).level (plus j.node)
  joined_level n above j m h =
      let here = written_level t joins u r j m in
      let there = written_level t others v s j ((same j).0 m) in
      omega (arith, above (plus j.parent) (omega arith))

  same_level : (n k : ℕ) → (tree_of u).level k < n → (tree_of u).level k ≡ (tree_of v).level k
  same_level zero k h = absurd (omega arith)
  same_level (suc n) k h =
      elim (found joins k) [ yes f ↦ rw (← f.2) (joined_level n (same_level n) f.0 f.1 (rw (← f.2) at h)) | no nobody ↦ level_by_place u k ∙ ap plus (untouched k level_at (of_tree (omega arith)) nobody) ∙ sym (level_by_place v k) ]

  joined_place_law : (j : Join) → Among j joins → (p : ℕ) → Given p → place u (plus j.node) p ≡ place v (plus j.node) p
  joined_place_law j m p hp =
      r.written j m p hp
      ∙ ap (λ (l : ℕ). given_by j (suc l) p) (same_level (suc ((tree_of u).level (plus j.parent))) (plus j.parent) (omega arith))
      ∙ sym (s.written j ((same j).0 m) p hp)

  given_place : (k p : ℕ) → Given p → place u k p ≡ place v k p
  given_place k p hp = elim (found joins k) [ yes f ↦ rw (← f.2) (joined_place_law f.0 f.1 p hp) | no nobody ↦ untouched k p hp nobody ]

  trees : tree_of u ≡ tree_of v
  trees = same_tree_law u v (λ k p hp. given_place k p (of_tree hp))

  rate_place : (k : ℕ) → k < nodes → place u k rate_at ≡ place v k rate_at
  rate_place k hk =
      by_test (there (tree_of u) k)
      (λ e. r.rates k hk e ∙ rw (trees, r.disk ∙ sym s.disk) (sym (s.rates k hk (rw trees at e))))
      (λ e. r.unused k e ∙ sym (s.unused k (rw trees at e)))

  same_left : u ≡ v
  same_left = same_places u v r.long s.long (λ p hp. r.heading p hp ∙ sym (s.heading p hp)) each
    where
      each : (k p : ℕ) → k < nodes → p < record_length → place u k p ≡ place v k p
      each k p hk hp =
          elim (dec_lt p rate_at) [
            | yes l ↦ given_place k p (of_tree l)
            | no l ↦ elim (ℕ_discrete p rate_at) [
              | yes e ↦ rw e (rate_place k hk)
              | no ne ↦ elim (ℕ_discrete p port_at) [
                | yes e ↦ rw e (given_place k port_at of_port_law)
                | no other ↦ r.rest k p (omega arith) hp other ∙ sym (s.rest k p (omega arith) hp other)
              ]
            ]
          ]

-- Two orders of the same joins, each accepted all through, leave one table.
pub join_order : (t : List ℤ) (joins others : List Join) → ((j : Join) → Among j joins ↔ Among j others) → AllAccepted t joins → AllAccepted t others → after_joins t joins ≡ after_joins t others
join_order t [] [] same a b = refl
join_order t [] (j ∷ others) same a b = absurd (among_none ((same j).1 (IsAmong-first refl)))
join_order t (i ∷ joins) [] same a b = absurd (among_none ((same i).0 (IsAmong-first refl)))
join_order t (i ∷ joins) (j ∷ others) same a b =
    same_left t (i ∷ joins) (j ∷ others) (after_joins t (i ∷ joins)) (after_joins t (j ∷ others)) same (joins_leave a f.long f.rates) (joins_leave b f.long f.rates)
  where
    first_order : {t : List ℤ} {j : Join} {joins : List Join} → AllAccepted t (j ∷ joins) → InOrder t
    first_order {t} {j} (next h all) = facts t (join_accepted t j h).order

    f : InOrder t
    f = first_order a

-- Of two joins, as calls.
pub two_joins : (t : List ℤ) (a b : Join) → refusal_of t a ≡ 0 → refusal_of (after_join t a) b ≡ 0 → refusal_of t b ≡ 0 → refusal_of (after_join t b) a ≡ 0 → after_join (after_join t a) b ≡ after_join (after_join t b) a
unfolding after_joins
two_joins t a b h1 h2 h3 h4 = join_order t (a ∷ b ∷ []) (b ∷ a ∷ []) (λ j. (swap a b j, swap b a j)) (next h1 (next h2 none)) (next h3 (next h4 none))
  where
    swap : (a b j : Join) → Among j (a ∷ b ∷ []) → Among j (b ∷ a ∷ [])
    swap a b j m = ⊎_elim (λ e. among-rest (IsAmong-first e)) (λ n. IsAmong-first (among_one n)) (among_cases m)
