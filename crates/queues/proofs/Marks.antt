-- Setting marks, and what a mark that is not set says.
use Prim.Native.Nat.{ℕ, ◌+◌, ◌<◌}
use mathlib.Core.Path.{◌≡◌, ap, sym, ◌∙◌}
use mathlib.Core.Bool.{Bool, true, false, not}
use mathlib.Core.List.{List}
use native.Mathlib.Omega.{arith}
use native.Mathlib.Decide.{ℕ_discrete}
use borrow.Author.Tests.{ne_eqb}
use lib.ListN.{length, get_or, set, length-set}
use lib.Seq.{get_or-set_same, get_or-set_other}
use lib.IntN.{ℤ}
use Rattle.numbers.specs.Below.{all_below}
use Rattle.numbers.proofs.All.{all_intro}
use Rattle.numbers.proofs.Tests.{true_false}
use Rattle.definitions.specs.Places.{waiting, arrival}
use Rattle.definitions.specs.Order.{differs_at}
use Rattle.queues.specs.Marks.{marks, mark_of, Marked, MarkedBelow}

-- A number whose mark is not set differs from those whose marks are set.
pub differs_unmarked : (t : List ℤ) (marked : List Bool) (a k : ℕ) → MarkedBelow t marked k → get_or marked (mark_of a) false ≡ false → all_below k (differs_at t a) ≡ true
unfolding differs_at Marked
differs_unmarked t marked a k f off =
    all_intro k _
    (λ j hj.
    all_intro (waiting t j) _
    (λ i hi. ap not (ne_eqb a (arrival t j i) (λ e. true_false (f.set j hj i hi) (rw (sym e) off)))))

-- No node is below node 0.
pub none_below : (t : List ℤ) (marked : List Bool) → length marked ≡ marks → MarkedBelow t marked 0
none_below t marked long = record { long = long; set = λ j hj. absurd (omega arith) }

-- A mark stays set where another is set.
still_set : (marked : List Bool) (m x : ℕ) → m < length marked → get_or marked x false ≡ true → get_or (set marked m true) x false ≡ true
still_set marked m x h e = elim (ℕ_discrete x m) [ yes same ↦ rw same (get_or-set_same marked m true false h) | no other ↦ get_or-set_other marked m x true false other ∙ e ]

-- The marks of all lower nodes are set, and those of the first n requests of node k.
pub record Marking (t : List ℤ) (marked : List Bool) (k n : ℕ) : Type 0 where
  pub below : MarkedBelow t marked k
  pub here : Marked t marked k n

pub marking_start : (t : List ℤ) (marked : List Bool) (k : ℕ) → MarkedBelow t marked k → Marking t marked k 0
unfolding Marked
marking_start t marked k f = record { below = f; here = λ i hi. absurd (omega arith) }

pub marking_next : (t : List ℤ) (marked : List Bool) (k n m : ℕ) → m < marks → m ≡ mark_of (arrival t k n) → Marking t marked k n → Marking t (set marked m true) k (n + 1)
unfolding Marked
marking_next t marked k n m small is f =
    let long = f.below.long in
    record {
      below =
          record {
            long = length-set marked m true ∙ long;
            set = λ j hj i hi. still_set marked m (mark_of (arrival t j i)) (omega arith) (f.below.set j hj i hi);
          };
      here = λ i hi. elim (ℕ_discrete i n) [ yes same ↦ rw (same, ← is) (get_or-set_same marked m true false (omega arith)) | no other ↦ still_set marked m (mark_of (arrival t k i)) (omega arith) (f.here i (omega arith)) ];
    }

pub marking_end : (t : List ℤ) (marked : List Bool) (k n : ℕ) → n ≡ waiting t k → Marking t marked k n → MarkedBelow t marked (k + 1)
unfolding Marked
marking_end t marked k n end f =
    record {
      long = f.below.long;
      set = λ j hj i hi. elim (ℕ_discrete j k) [ yes same ↦ rw same (f.here i (omega (arith, ap (waiting t) same))) | no other ↦ f.below.set j (omega arith) i hi ];
    }
