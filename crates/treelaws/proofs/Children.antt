-- Sums over the children of a class: each law of sums below a bound, asked at the children alone.
use Prim.Native.Nat.{ℕ, zero, suc, ◌+◌, ◌*◌, ◌≤◌, ◌<◌}
use mathlib.Core.Path.{◌≡◌, refl, ap, ◌∙◌}
use mathlib.Core.Bool.{Bool, true, false, not, cond}
use mathlib.Core.List.{List}
use native.Mathlib.Omega.{arith}
use borrow.Author.Tests.{eqb-true, eqb-false, eq-eqb, ne_eqb, not-true}
use lib.Dec.{eqb}
use lib.IntN.{ℤ, pos}
use lib.Signed.{le_z}
use Rattle.numbers.specs.Whole.{plus, minus}
use Rattle.numbers.specs.Below.{sum_below}
use Rattle.numbers.proofs.Tests.{true_false}
use Rattle.numbers.proofs.Every.{head_holds, rest_hold, none_left, holds_with}
use Rattle.numbers.proofs.Parts.{le_parts, plus_pos, minus_pos}
use Rattle.numbers.proofs.All.{below_cases, all_at}
use Rattle.numbers.proofs.Sums.{sum_mono, sum_add, sum_scale, sum_cong, sum_ℤ_parts, term_le_sum}
use Rattle.definitions.specs.Limits.{nodes, class}
use Rattle.definitions.specs.Tree.{Tree, tree_of, there, is_class, child_of, childless, count_if, sum_under}
use Rattle.definitions.specs.Places.{balance}
use Rattle.definitions.specs.Order.{child_balance, child_balances}

-- What a child is: it is there, it is not the root, and its parent is the class.
pub record ChildOf (tree : Tree) (c k : ℕ) : Type 0 where
  pub there : there tree k ≡ true
  pub below : k ≡ 0 → ⊥
  pub parent : tree.parent k ≡ c

pub child_facts : (tree : Tree) (c k : ℕ) → child_of tree c k ≡ true → ChildOf tree c k
unfolding child_of
child_facts tree c k h =
    let h1 = rest_hold _ _ h in
    record {
      there = head_holds _ _ h;
      below = eqb-false k 0 (not-true (eqb k 0) (head_holds _ _ h1));
      parent = eqb-true (tree.parent k) c (head_holds _ _ (rest_hold _ _ h1));
    }

pub child_of_law : (tree : Tree) (c k : ℕ) → ChildOf tree c k → child_of tree c k ≡ true
unfolding child_of
child_of_law tree c k f =
    holds_with _ _ f.there (holds_with _ _ (ap not (ne_eqb k 0 f.below)) (holds_with _ _ (eq-eqb (tree.parent k) c f.parent) none_left))

-- A class without children has no child.
pub no_children_law : (tree : Tree) (c : ℕ) → childless tree c ≡ true → (k : ℕ) → k < nodes → ChildOf tree c k → ⊥
unfolding childless
no_children_law tree c h k hk child = true_false (child_of_law tree c k child) (not-true _ (all_at nodes (λ k. not (child_of tree c k)) h k hk))

pub class_there : (tree : Tree) (k : ℕ) → is_class tree k ≡ true → there tree k ≡ true
unfolding there is_class
class_there tree k e = ap not (ne_eqb (tree.sort k) 0 (λ z. omega (arith, eqb-true (tree.sort k) class e)))

-- A term that is counted, and one that is not.
pub counted : (b : Bool) (f : ℕ → ℕ) (k : ℕ) → b ≡ true → count_if b f k ≡ f k
unfolding count_if
counted true f k e = refl
counted false f k e = absurd (true_false e refl)

pub uncounted : (b : Bool) (f : ℕ → ℕ) (k : ℕ) → b ≡ false → count_if b f k ≡ 0
unfolding count_if
uncounted true f k e = absurd (true_false refl e)
uncounted false f k e = refl

count_le : (b : Bool) (f g : ℕ → ℕ) (k : ℕ) → (b ≡ true → f k ≤ g k) → count_if b f k ≤ count_if b g k
unfolding count_if
count_le true f g k h = h refl
count_le false f g k h = omega arith

count_add : (b : Bool) (f g : ℕ → ℕ) (k : ℕ) → count_if b (λ j. f j + g j) k ≡ count_if b f k + count_if b g k
unfolding count_if
count_add true f g k = refl
count_add false f g k = refl

count_scale : (b : Bool) (f : ℕ → ℕ) (c k : ℕ) → count_if b (λ j. f j * c) k ≡ count_if b f k * c
unfolding count_if
count_scale true f c k = refl
count_scale false f c k = omega arith

plus_if : (b : Bool) (B : ℕ → ℤ) (k : ℕ) → plus (cond b (B k) (pos 0)) ≡ count_if b (λ j. plus (B j)) k
unfolding count_if
plus_if true B k = refl
plus_if false B k = plus_pos 0

minus_if : (b : Bool) (B : ℕ → ℤ) (k : ℕ) → minus (cond b (B k) (pos 0)) ≡ count_if b (λ j. minus (B j)) k
unfolding count_if
minus_if true B k = refl
minus_if false B k = minus_pos 0

-- A sum is greater by a where one term is and no other is less.
sum_more : (n j a : ℕ) (f g : ℕ → ℕ) → j < n → ((k : ℕ) → k < n → f k ≤ g k) → f j + a ≤ g j → sum_below n f + a ≤ sum_below n g
unfolding sum_below
sum_more zero j a f g l h m = absurd (omega arith)
sum_more (suc n) j a f g l h m =
    below_cases n j l
    (λ b. omega (arith, sum_more n j a f g b (λ k d. h k (omega arith)) m, h n (omega arith)))
    (λ e. omega (arith, sum_mono n f g (λ k d. h k (omega arith)), ap f e, ap g e))

-- A child's term is at most the sum.
pub child_le_sum : (tree : Tree) (c : ℕ) (f : ℕ → ℕ) (k : ℕ) → k < nodes → child_of tree c k ≡ true → f k ≤ sum_under tree c f
unfolding sum_under count_if
child_le_sum tree c f k hk e = rw e at (term_le_sum nodes k (λ k. count_if (child_of tree c k) f k) hk)

module _ (tree : Tree) (c : ℕ) where
  pub under_le : (f g : ℕ → ℕ) → ((k : ℕ) → k < nodes → ChildOf tree c k → f k ≤ g k) → sum_under tree c f ≤ sum_under tree c g
  unfolding sum_under
  under_le f g h =
      sum_mono nodes (λ k. count_if (child_of tree c k) f k) (λ k. count_if (child_of tree c k) g k)
      (λ k hk. count_le (child_of tree c k) f g k (λ e. h k hk (child_facts tree c k e)))

  pub under_cong : (f g : ℕ → ℕ) → ((k : ℕ) → k < nodes → ChildOf tree c k → f k ≡ g k) → sum_under tree c f ≡ sum_under tree c g
  under_cong f g h = omega (arith, under_le f g (λ k hk child. omega (arith, h k hk child)), under_le g f (λ k hk child. omega (arith, h k hk child)))

  pub under_add : (f g : ℕ → ℕ) → sum_under tree c (λ k. f k + g k) ≡ sum_under tree c f + sum_under tree c g
  unfolding sum_under
  under_add f g =
      sum_cong nodes (λ k. count_if (child_of tree c k) (λ j. f j + g j) k) (λ k. count_if (child_of tree c k) f k + count_if (child_of tree c k) g k)
      (λ k hk. count_add (child_of tree c k) f g k)
      ∙ sum_add nodes (λ k. count_if (child_of tree c k) f k) (λ k. count_if (child_of tree c k) g k)

  pub under_scale : (f : ℕ → ℕ) (n : ℕ) → sum_under tree c (λ k. f k * n) ≡ sum_under tree c f * n
  unfolding sum_under
  under_scale f n =
      sum_cong nodes (λ k. count_if (child_of tree c k) (λ j. f j * n) k) (λ k. count_if (child_of tree c k) f k * n)
      (λ k hk. count_scale (child_of tree c k) f n k)
      ∙ sum_scale nodes (λ k. count_if (child_of tree c k) f k) n

  pub under_zero : (f : ℕ → ℕ) → ((k : ℕ) → k < nodes → ChildOf tree c k → f k ≡ 0) → sum_under tree c f ≡ 0
  under_zero f h = omega (arith, under_cong f (λ k. 0) h, under_scale (λ k. 0) 0)

  -- Two sums on each side.
  pub under_sums : (f g f' g' : ℕ → ℕ) → ((k : ℕ) → k < nodes → ChildOf tree c k → f k + g k ≤ f' k + g' k) → sum_under tree c f + sum_under tree c g ≤ sum_under tree c f' + sum_under tree c g'
  under_sums f g f' g' h = omega (arith, under_le (λ k. f k + g k) (λ k. f' k + g' k) h, under_add f g, under_add f' g')

  -- The same where one child's sum is greater by a.
  pub under_more : (f g f' g' : ℕ → ℕ) (j a : ℕ) → j < nodes → ChildOf tree c j → ((k : ℕ) → k < nodes → ChildOf tree c k → f k + g k ≤ f' k + g' k) → f j + g j + a ≤ f' j + g' j → sum_under tree c f + sum_under tree c g + a ≤ sum_under tree c f' + sum_under tree c g'
  unfolding sum_under
  under_more f g f' g' j a hj child h m =
      let e = child_of_law tree c j child in
      omega (
        arith,
        sum_more nodes j a (λ k. count_if (child_of tree c k) (λ i. f i + g i) k) (λ k. count_if (child_of tree c k) (λ i. f' i + g' i) k) hj
            (λ k hk. count_le (child_of tree c k) (λ i. f i + g i) (λ i. f' i + g' i) k (λ d. h k hk (child_facts tree c k d)))
            (rw (counted (child_of tree c j) (λ i. f i + g i) j e, counted (child_of tree c j) (λ i. f' i + g' i) j e) m),
        under_add f g,
        under_add f' g',
      )

  -- Where no child's balance rises, neither does their sum.
  pub under_falls : (B B' : ℕ → ℤ) → ((k : ℕ) → k < nodes → ChildOf tree c k → le_z (B' k) (B k) ≡ true) → sum_under tree c (λ k. plus (B' k)) + sum_under tree c (λ k. minus (B k)) ≤ sum_under tree c (λ k. plus (B k)) + sum_under tree c (λ k. minus (B' k))
  under_falls B B' h =
      under_sums (λ k. plus (B' k)) (λ k. minus (B k)) (λ k. plus (B k)) (λ k. minus (B' k)) (λ k hk child. le_parts (B' k) (B k) (h k hk child))

-- The sum of the balances of a class's children, by its parts.
pub balances_parts : (t : List ℤ) (c : ℕ) → plus (child_balances t c) + sum_under (tree_of t) c (λ k. minus (balance t k)) ≡ minus (child_balances t c) + sum_under (tree_of t) c (λ k. plus (balance t k))
unfolding child_balances child_balance sum_under
balances_parts t c =
    omega (
      arith,
      sum_ℤ_parts nodes (child_balance t c),
      sum_cong nodes (λ k. minus (child_balance t c k)) (λ k. count_if (child_of (tree_of t) c k) (λ j. minus (balance t j)) k) (λ k hk. minus_if (child_of (tree_of t) c k) (balance t) k),
      sum_cong nodes (λ k. plus (child_balance t c k)) (λ k. count_if (child_of (tree_of t) c k) (λ j. plus (balance t j)) k) (λ k hk. plus_if (child_of (tree_of t) c k) (balance t) k),
    )
