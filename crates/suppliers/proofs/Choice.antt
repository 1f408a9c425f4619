-- Step 4's choice, one client at a time: best stays where client k has nothing waiting, no supplier or a request that is not
-- better, else it is k.
use Prim.Native.Nat.{ℕ, zero, suc, ◌+◌, ◌<◌, ◌≤◌}
use mathlib.Core.Path.{◌≡◌, refl, sym, ap, ◌∙◌}
use mathlib.Core.Bool.{Bool, true, false, cond}
use mathlib.Core.List.{List, [], ◌∷◌}
use native.Mathlib.Omega.{arith}
use lib.Dec.{eqb, ltb}
use lib.IntN.{ℤ}
use borrow.Author.Tests.{lt-ltb, le-ltb, ne_eqb, eqb-false}
use Rattle.std.specs.Prelude.{Option, Some, None, option_map}
use Rattle.numbers.specs.Tests.{every}
use Rattle.numbers.specs.Below.{for_below}
use Rattle.numbers.proofs.Tests.{by_test, cond_true, cond_false}
use Rattle.numbers.proofs.Every.{none_left, holds_with, head_fails, rest_fail}
use Rattle.numbers.proofs.Steps.{turned}
use Rattle.definitions.specs.Limits.{nodes}
use Rattle.definitions.specs.Places.{waiting, arrival}
use Rattle.definitions.specs.declared.Supplier.{Supplier}
use Rattle.definitions.specs.Tick.{nobody, is_found, node_found, steps_found, supply, supplier, steps_above, supplied, goes_before, choice, next}
use Rattle.suppliers.specs.declared.Best.{Best}
use Rattle.suppliers.specs.Next.{next_in, before_best}

-- Client k as the best so far; none where it is nobody.
unfoldable pub best_of : List ℤ → ℕ → Option Best
best_of t k =
    cond (eqb k nobody) None
    (Some (record { turn = record { client = k; supplier = supplier t k }; steps = steps_above t k; arrival = arrival t k 0 }))

-- The best of the first k clients.
unfoldable pub best_among : List ℤ → ℕ → Option Best
best_among t k = best_of t (for_below k (choice t) nobody)

pub none_among : (t : List ℤ) → None ≡ best_among t 0
unfolding best_among best_of for_below
none_among t = refl

module _ (t : List ℤ) (k : ℕ) where
  stays : (best : ℕ) → supplied t k ≡ false → choice t k best ≡ best
  unfolding choice
  stays best h = cond_false (every (supplied t k ∷ goes_before t k best ∷ [])) k best (head_fails (supplied t k) (goes_before t k best ∷ []) h)

  idle : (best : ℕ) → waiting t k ≡ 0 → choice t k best ≡ best
  unfolding supplied
  idle best h = stays best (head_fails (ltb 0 (waiting t k)) (is_found (supply t k) ∷ []) (le-ltb 0 (waiting t k) (omega arith)))

  unsupplied : (best : ℕ) → supply t k ≡ None → choice t k best ≡ best
  unfolding supplied is_found
  unsupplied best h =
      stays best (rest_fail (ltb 0 (waiting t k)) (is_found (supply t k) ∷ []) (head_fails (is_found (supply t k)) [] (ap is_found h)))

  -- The test of the code is that of the definition.
  test_is : (best : ℕ) → before_best (steps_above t k) (arrival t k 0) (best_of t best) ≡ goes_before t k best
  unfolding goes_before best_of before_best
  test_is best = by_test (eqb best nobody) (λ y. rw y) (λ n. rw n)

  later : (best : ℕ) → goes_before t k best ≡ false → choice t k best ≡ best
  unfolding choice
  later best h =
      cond_false (every (supplied t k ∷ goes_before t k best ∷ [])) k best
      (rest_fail (supplied t k) (goes_before t k best ∷ []) (head_fails (goes_before t k best) [] h))

  taken : (best : ℕ) (s : Supplier) → supply t k ≡ Some s → (waiting t k ≡ 0 → ⊥) → goes_before t k best ≡ true → choice t k best ≡ k
  unfolding choice supplied is_found
  taken best s e w h =
      cond_true (every (supplied t k ∷ goes_before t k best ∷ [])) k best
      (holds_with _ _ (holds_with _ _ (lt-ltb 0 (waiting t k) (omega arith)) (holds_with _ _ (ap is_found e) none_left)) (holds_with _ _ h none_left))

  -- One turn: the best of the clients before k is that of the clients before k + 1, or else it is client k.
  module _ (b : Option Best) (h : b ≡ best_among t k) where
    kept : (best : ℕ) → best ≡ for_below k (choice t) nobody → choice t k best ≡ best → b ≡ best_among t (k + 1)
    unfolding best_among
    kept best e same = h ∙ ap (best_of t) (sym e ∙ turned k (choice t) nobody best best e (sym same))

    pub after_idle : (n : ℕ) → n ≡ waiting t k → n ≡ 0 → b ≡ best_among t (k + 1)
    after_idle n e z = kept _ refl (idle _ (sym e ∙ z))

    pub after_unsupplied : (r : Option Supplier) → r ≡ supply t k → r ≡ None → b ≡ best_among t (k + 1)
    after_unsupplied r e none = kept _ refl (unsupplied _ (sym e ∙ none))

    -- Client k's oldest request has a supplier and an arrival number, and the code's test is known.
    module _ (s : Supplier) (r : Option Supplier) (n : ℕ) (test : Bool) (e : r ≡ supply t k) (some : r ≡ Some s) (arrived : n ≡ arrival t k 0) (tested : test ≡ before_best s.steps n b) where
      found : supply t k ≡ Some s
      found = sym e ∙ some

      test_among : test ≡ goes_before t k (for_below k (choice t) nobody)
      unfolding best_among steps_above steps_found
      test_among = rw (sym (ap steps_found found), arrived, h) at tested ∙ test_is _

      pub after_later : test ≡ false → b ≡ best_among t (k + 1)
      after_later fails = kept _ refl (later _ (sym test_among ∙ fails))

      is_best : k < nodes → Some (record { turn = record { client = k; supplier = s.node }; steps = s.steps; arrival = n }) ≡ best_of t k
      unfolding best_of supplier steps_above node_found steps_found
      is_best low = rw (found, arrived, ne_eqb k nobody (λ e. omega arith))

      pub after_taken : k < nodes → (w : ℕ) → w ≡ waiting t k → (w ≡ 0 → ⊥) → test ≡ true → Some (record { turn = record { client = k; supplier = s.node }; steps = s.steps; arrival = n }) ≡ best_among t (k + 1)
      unfolding best_among
      after_taken low w waits more holds =
          let goes : choice t k (for_below k (choice t) nobody) ≡ k = taken _ s found (λ e. more (waits ∙ e)) (sym test_among ∙ holds) in
          is_best low ∙ ap (best_of t) (turned k (choice t) nobody _ k refl (sym goes))

-- After all clients the best is the next.
pub best_turn : (t : List ℤ) (k : ℕ) (b : Option Best) → b ≡ best_among t k → nodes ≤ k → k ≤ nodes → option_map (λ best. best.turn) b ≡ next_in t
unfolding best_among best_of next_in next
best_turn t k b e low high =
    let end : k ≡ nodes = omega arith in
    rw (e, end) (by_test (eqb (for_below nodes (choice t) nobody) nobody) (λ y. rw y) (λ n. rw n))

-- The best of the first k clients is one of the 64.
among_low : (t : List ℤ) (k : ℕ) → k ≤ nodes → for_below k (choice t) nobody ≤ nobody
unfolding for_below choice
among_low t zero low = omega arith
among_low t (suc k) low =
    let best = for_below k (choice t) nobody in
    by_test (every (supplied t k ∷ goes_before t k best ∷ []))
    (λ y. omega (arith, cond_true _ k best y))
    (λ n. omega (arith, cond_false _ k best n, among_low t k (omega arith)))

pub best_low : (t : List ℤ) (k : ℕ) (b : Option Best) (best : Best) → k ≤ nodes → b ≡ best_among t k → b ≡ Some best → best.turn.client < nodes
unfolding best_among best_of
best_low t k b best low e some =
    let chosen = for_below k (choice t) nobody in
    by_test (eqb chosen nobody) (λ y. absurd (let is = rw y at (sym some ∙ e) in cc))
    (λ n.
    let is = ap (option_map (λ (b : Best). b.turn.client)) (rw n at (sym some ∙ e)) in
    let client : best.turn.client ≡ chosen = cc in
    omega (arith, client, among_low t k low, eqb-false chosen nobody n))

-- What the choice of a client needs of these.
pub ruleset choosing = (none_among, after_idle, after_unsupplied, after_later, after_taken, best_low)
