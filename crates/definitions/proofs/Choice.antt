-- Step 4's choice: the search for a supplier finds the first node with enough balance, and the fold over the clients keeps the
-- best of those it has seen. Two folds that have seen all clients with a supplier agree, since arrival numbers differ.
use Prim.Native.Nat.{ℕ, zero, suc, ◌+◌, ◌≤◌, ◌<◌}
use mathlib.Core.Logic.{◌⊎◌, inl, inr, ⊎_elim}
use mathlib.Core.Path.{◌≡◌, refl, sym, ap, ◌∙◌}
use mathlib.Core.Bool.{true, false}
use mathlib.Core.List.{List, [], ◌∷◌}
use native.Mathlib.Omega.{arith}
use native.Mathlib.Decide.{ℕ_discrete}
use borrow.Author.Tests.{ltb-true, ltb-false, le-ltb, eqb-true, eq-eqb, ne_eqb}
use lib.Dec.{eqb, ltb}
use lib.IntN.{ℤ}
use Rattle.numbers.specs.Tests.{every}
use Rattle.numbers.specs.Below.{for_below}
use Rattle.numbers.proofs.Tests.{by_test, true_false, or_cases, or_false_left, or_false_right}
use Rattle.numbers.proofs.Every.{head_holds, rest_hold, holds_with, none_left}
use Rattle.numbers.proofs.All.{below_cases}
use Rattle.numbers.proofs.Steps.{for_reaches}
use Rattle.definitions.specs.Limits.{nodes}
use Rattle.definitions.specs.Places.{waiting, size, arrival}
use Rattle.definitions.specs.Tree.{tree_of, node_above}
use Rattle.definitions.specs.declared.Supplier.{Supplier}
use Rattle.std.specs.Prelude.{Option}
use Rattle.definitions.specs.Tick.{nobody, grains, enough, supplier_from, supply, is_found, node_found, steps_found, supplier, steps_above, supplied, better, goes_before, choice, next}
use Rattle.definitions.specs.Choice.{HasSupplier, GoesNext, SeenIn}

-- What a search that finds a supplier has climbed, from node k at level l and so many steps above the client.
record Climbed (t : List ℤ) (amount steps l k : ℕ) (s : Option Supplier) : Type 0 where
  up : ℕ
  count : steps_found s ≡ steps + up
  within : up ≤ l
  node : node_found s ≡ node_above (tree_of t) up k
  has : enough t amount (node_found s) ≡ true
  first : (n : ℕ) → n < up → enough t amount (node_above (tree_of t) n k) ≡ false

climbed : (t : List ℤ) (amount steps l k : ℕ) → is_found (supplier_from t amount steps l k) ≡ true → Climbed t amount steps l k (supplier_from t amount steps l k)
unfolding supplier_from is_found node_found steps_found node_above
climbed t amount steps zero k h =
    by_test (enough t amount k)
    (λ e. rw e (record { up = 0; count = omega arith; within = omega arith; node = refl; has = e; first = λ n l. absurd (omega arith) }))
    (λ e. absurd (true_false (rw e at h) refl))
climbed t amount steps (suc l) k h =
    by_test (enough t amount k)
    (λ e. rw e (record { up = 0; count = omega arith; within = omega arith; node = refl; has = e; first = λ n l. absurd (omega arith) }))
    (λ e.
    let c = climbed t amount (steps + 1) l ((tree_of t).parent k) (rw e at h) in
    rw e (record {
      up = suc c.up;
      count = omega (arith, c.count);
      within = omega (arith, c.within);
      node = c.node;
      has = c.has;
      first = λ n. elim n as (λ n. n < suc c.up → enough t amount (node_above (tree_of t) n k) ≡ false) [ zero ↦ λ l. e | suc m ↦ λ l. c.first m (omega arith) ];
    }))

pub has_supplier : (t : List ℤ) (k : ℕ) → supplied t k ≡ true → HasSupplier t k
unfolding supplied supplier steps_above supply
has_supplier t k h =
    let c = climbed t (grains (size t k 0)) 0 ((tree_of t).level k) k (head_holds _ _ (rest_hold _ _ h)) in
    let up : steps_above t k ≡ c.up = omega (arith, c.count) in
    record {
      waits = ltb-true 0 (waiting t k) (head_holds _ _ h);
      within = omega (arith, up, c.within);
      node = c.node ∙ ap (λ (n : ℕ). node_above (tree_of t) n k) (sym up);
      first = λ n l. c.first n (omega (arith, up));
      enough = c.has;
    }

-- Better goes by the steps where these differ, else by the arrival numbers.
pub not_as_many : (s a s' a' : ℕ) → (s ≡ s' → ⊥) → better s a s' a' ≡ ltb s s'
unfolding better
not_as_many s a s' a' ne = by_test (ltb s s') (λ l. simp (l, ne_eqb s s' ne)) (λ l. simp (l, ne_eqb s s' ne))

pub as_many : (s a s' a' : ℕ) → s ≡ s' → better s a s' a' ≡ ltb a a'
unfolding better
as_many s a s' a' e = rw e (simp (le-ltb s' s' (omega arith), eq-eqb s' s' refl))

-- A request with these steps and this arrival number is at least as good as one with those.
record AsGood (s a s' a' : ℕ) : Type 0 where
  steps : s ≤ s'
  arrival : s ≡ s' → a ≤ a'

is_better : (s a s' a' : ℕ) → better s a s' a' ≡ true → AsGood s a s' a'
is_better s a s' a' h =
    elim (ℕ_discrete s s') [
      | yes e ↦ record { steps = omega arith; arrival = λ _. omega (arith, ltb-true a a' (sym (as_many s a s' a' e) ∙ h)) }
      | no ne ↦ record { steps = omega (arith, ltb-true s s' (sym (not_as_many s a s' a' ne) ∙ h)); arrival = λ e. absurd (ne e) }
    ]

not_better : (s a s' a' : ℕ) → better s a s' a' ≡ false → AsGood s' a' s a
not_better s a s' a' h =
    elim (ℕ_discrete s s') [
      | yes e ↦ record { steps = omega arith; arrival = λ _. ltb-false a a' (sym (as_many s a s' a' e) ∙ h) }
      | no ne ↦ record { steps = ltb-false s s' (sym (not_as_many s a s' a' ne) ∙ h); arrival = λ e. absurd (ne (sym e)) }
    ]

-- Client k's oldest request is at least as good as client j's.
Good : List ℤ → ℕ → ℕ → Type 0
Good t k j = AsGood (steps_above t k) (arrival t k 0) (steps_above t j) (arrival t j 0)

good_itself : (t : List ℤ) (k j : ℕ) → j ≡ k → Good t k j
unfolding Good
good_itself t k j e = rw e (record { steps = omega arith; arrival = λ _. omega arith })

good_trans : (t : List ℤ) (k j i : ℕ) → Good t k j → Good t j i → Good t k i
unfolding Good
good_trans t k j i g h =
    record {
      steps = omega (arith, g.steps, h.steps);
      arrival = λ e. omega (arith, g.arrival (omega (arith, g.steps, h.steps)), h.arrival (omega (arith, g.steps, h.steps)));
    }

-- The best of the clients seen.
record Best (t : List ℤ) (Seen : ℕ → Type 0) (best : ℕ) : Type 0 where
  most : best ≤ nobody
  has : (best ≡ nobody → ⊥) → supplied t best ≡ true
  none : best ≡ nobody → (j : ℕ) → Seen j → supplied t j ≡ false
  good : (best ≡ nobody → ⊥) → (j : ℕ) → Seen j → supplied t j ≡ true → Good t best j

-- Client k is seen as well.
module _ (t : List ℤ) (Seen Then : ℕ → Type 0) (k best : ℕ) (hk : k < nodes) (b : Best t Seen best) (split : (j : ℕ) → Then j → Seen j ⊎ (j ≡ k)) where
  goes_first : supplied t k ≡ true → goes_before t k best ≡ true → Best t Then k
  unfolding goes_before steps_above Good
  goes_first s h =
      record {
        most = omega arith;
        has = λ _. s;
        none = λ e. absurd (omega arith);
        good = λ _ j then has.
            ⊎_elim
            (λ seen.
            ⊎_elim
            (λ e. absurd (true_false has (b.none (eqb-true best nobody e) j seen)))
            (λ better.
            elim (ℕ_discrete best nobody) [
              | yes e ↦ absurd (true_false has (b.none e j seen))
              | no ne ↦ good_trans t k best j (is_better _ _ _ _ better) (b.good ne j seen has)
            ])
            (or_cases (eqb best nobody) _ h))
            (good_itself t k j)
            (split j then);
      }

  stays_first : (supplied t k ≡ true → goes_before t k best ≡ false) → Best t Then best
  unfolding goes_before steps_above Good
  stays_first h =
      record {
        most = b.most;
        has = b.has;
        none = λ e j then.
            ⊎_elim (b.none e j)
            (λ d.
            rw d
            (by_test (supplied t k)
            (λ s. absurd (true_false (eq-eqb best nobody e) (or_false_left _ _ (h s))))
            (λ s. s)))
            (split j then);
        good = λ ne j then has.
            ⊎_elim
            (λ seen. b.good ne j seen has)
            (λ d.
            good_trans t best k j
            (not_better _ _ _ _ (or_false_right (eqb best nobody) _ (h (rw (← d) has))))
            (good_itself t k j d))
            (split j then);
      }

  best_next : Best t Then (choice t k best)
  unfolding choice
  best_next =
      by_test (every (supplied t k ∷ goes_before t k best ∷ []))
      (λ yes. rw yes (goes_first (head_holds _ _ yes) (head_holds _ _ (rest_hold _ _ yes))))
      (λ no.
      rw no
      (stays_first
      (λ s. by_test (goes_before t k best) (λ h. absurd (true_false (holds_with _ _ s (holds_with _ _ h none_left)) no)) (λ h. h))))

ordered : List ℤ → ℕ → (ℕ → ℕ) → ℕ
ordered t n order = for_below n (λ i best. choice t (order i) best) nobody

best_in : (t : List ℤ) (n : ℕ) (order : ℕ → ℕ) → ((i : ℕ) → i < n → order i < nodes) → Best t (SeenIn n order) (ordered t n order)
unfolding ordered
best_in t n order low =
    for_reaches (λ i. Best t (SeenIn i order)) n (λ i best. choice t (order i) best)
    (λ i best hi b. best_next t (SeenIn i order) (SeenIn (suc i) order) (order i) best (low i hi) b (split i))
    nobody
    (record { most = omega arith; has = λ ne. absurd (ne refl); none = λ e j seen. absurd (nothing j seen); good = λ ne. absurd (ne refl) })
  where
    nothing : (j : ℕ) → SeenIn 0 order j → ⊥
    nothing j seen = omega (arith, seen.early)

    split : (i j : ℕ) → SeenIn (suc i) order j → SeenIn i order j ⊎ (j ≡ order i)
    split i j seen =
        below_cases i seen.look seen.early
        (λ l. inl (record { look = seen.look; early = l; here = seen.here }))
        (λ e. inr (sym seen.here ∙ ap order e))

-- The fold over the nodes in rising number.
next_best : (t : List ℤ) → Best t (SeenIn nodes (λ k. k)) (next t)
unfolding next ordered
next_best t = best_in t nodes (λ k. k) (λ k hk. hk)

seen_by_number : (k : ℕ) → k < nodes → SeenIn nodes (λ k. k) k
seen_by_number k hk = record { look = k; early = hk; here = refl }

pub next_found : (t : List ℤ) → (next t ≡ nobody → ⊥) → (next t < nodes) × (supplied t (next t) ≡ true)
next_found t ne = (omega (arith, (next_best t).most, ne), (next_best t).has ne)

pub next_none : (t : List ℤ) → next t ≡ nobody → (k : ℕ) → k < nodes → supplied t k ≡ false
next_none t e k hk = (next_best t).none e k (seen_by_number k hk)

pub none_next : (t : List ℤ) → ((k : ℕ) → k < nodes → supplied t k ≡ false) → next t ≡ nobody
none_next t h =
    elim (ℕ_discrete (next t) nobody)
    [ yes e ↦ e | no ne ↦ absurd (true_false (next_found t ne).1 (h (next t) (next_found t ne).0)) ]

pub next_goes : (t : List ℤ) → (next t ≡ nobody → ⊥) → GoesNext t (next t)
unfolding Good
next_goes t ne =
    let found = next_found t ne in
    record {
      low = found.0;
      has = has_supplier t (next t) found.1;
      fewest = λ j hj h. ((next_best t).good ne j (seen_by_number j hj) h).steps;
      lowest = λ j hj h e. ((next_best t).good ne j (seen_by_number j hj) h).arrival (sym e);
    }

-- Two folds that have seen all clients with a supplier agree, where no two clients share an arrival number.
module _ (t : List ℤ) (one : (k j : ℕ) → k < nodes → j < nodes → 0 < waiting t k → 0 < waiting t j → arrival t k 0 ≡ arrival t j 0 → k ≡ j) where
  same_best : (S R : ℕ → Type 0) → ((k : ℕ) → k < nodes → supplied t k ≡ true → S k) → ((k : ℕ) → k < nodes → supplied t k ≡ true → R k) → (a b : ℕ) → Best t S a → Best t R b → a ≡ b
  unfolding Good
  same_best S R all_s all_r a b p q =
      elim (ℕ_discrete a nobody) [
        | yes e ↦
            elim (ℕ_discrete b nobody) [
              | yes d ↦ e ∙ sym d
              | no nb ↦ absurd (true_false (q.has nb) (p.none e b (all_s b (omega (arith, q.most, nb)) (q.has nb))))
            ]
        | no na ↦
            elim (ℕ_discrete b nobody) [
              | yes d ↦ absurd (true_false (p.has na) (q.none d a (all_r a (omega (arith, p.most, na)) (p.has na))))
              | no nb ↦
                  let ha : a < nodes = omega (arith, p.most, na) in
                  let hb : b < nodes = omega (arith, q.most, nb) in
                  let g = p.good na b (all_s b hb (q.has nb)) (q.has nb) in
                  let h = q.good nb a (all_r a ha (p.has na)) (p.has na) in
                  let even : steps_above t a ≡ steps_above t b = omega (arith, g.steps, h.steps) in
                  one a b ha hb (has_supplier t a (p.has na)).waits (has_supplier t b (q.has nb)).waits
                  (omega (arith, g.arrival even, h.arrival (sym even)))
            ]
      ]

  pub any_order : (n : ℕ) (order : ℕ → ℕ) → ((i : ℕ) → i < n → order i < nodes) → ((k : ℕ) → k < nodes → supplied t k ≡ true → SeenIn n order k) → for_below n (λ i best. choice t (order i) best) nobody ≡ next t
  unfolding ordered
  any_order n order low sees =
      same_best (SeenIn n order) (SeenIn nodes (λ k. k)) sees (λ k hk h. seen_by_number k hk) _ _ (best_in t n order low) (next_best t)
