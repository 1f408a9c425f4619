-- Tables with few nodes: from node 8, or even from node 4 on every record is zero. There a far place is 0 without a walk down the list,
-- and a loop over the nodes may stop at 8 or 4. Each near form looks first whether the table has few nodes, so it equals the
-- definition on every table. This is what makes scenarios cheap to compute.
use Prim.Native.Nat.{ℕ, zero, suc, ◌+◌, ◌*◌, ◌-◌, ◌≤◌}
use mathlib.Core.Path.{◌≡◌, refl, sym, ap, ◌∙◌, subst}
use mathlib.Core.Bool.{Bool, true, false, not, cond, ◌&&◌, ◌||◌, and-true as and-with-true}
use mathlib.Core.List.{List, [], ◌∷◌}
use native.Mathlib.Omega.{arith}
use borrow.Author.Tests.{ltb-false, not-false}
use lib.ListN.{get_or, drop}
use lib.Seq.{get_or-drop}
use lib.Dec.{eqb, ltb}
use lib.IntN.{ℤ, pos}
use Rattle.numbers.specs.Whole.{plus}
use Rattle.numbers.specs.Tests.{every}
use Rattle.numbers.specs.Below.{sum_below, all_below, for_below}
use Rattle.numbers.proofs.Tests.{and_left, and_right, or_false_left, or_false_right}
use Rattle.numbers.proofs.Parts.{same_eq, eq_same}
use Rattle.numbers.proofs.All.{below_cases, all_suc, all_intro}
use Rattle.numbers.proofs.Steps.{for_suc}
use Rattle.numbers.proofs.Sums.{sum_suc}
use Rattle.definitions.specs.Limits.{header_length, record_length, nodes, unused, sort_at, parent_at, level_at, kind_at, share_at, depth_at, waiting_at}
use Rattle.definitions.specs.Places.{place, put, waiting}
use Rattle.definitions.specs.Tree.{Tree, tree_of, there, is_class, is_client, child_of, count_if, test_if, sum_under, each_node, each_class, each_client}
use Rattle.definitions.specs.Order.{is_zero, unused_in_order}
use Rattle.definitions.specs.Tick.{State, nobody, dispatched, supplier, supplied, choice, next, lent}
use Rattle.definitions.proofs.Places.{put_same}

-- The first far node where a table has few nodes, and where it has fewer.
abbrev pub few_nodes : ℕ
few_nodes = 8

abbrev pub fewer_nodes : ℕ
fewer_nodes = 4

-- Whether all numbers of a list are zero; whether all records from node c on are; whether a table has few nodes.
unfoldable pub zeros : List ℤ → Bool
zeros [] = true
zeros (z ∷ t) = is_zero z && zeros t

unfoldable pub zero_from : ℕ → List ℤ → Bool
zero_from c t = zeros (drop (header_length + record_length * c) t)

abbrev pub few : List ℤ → Bool
few t = zero_from few_nodes t

zeros_at : (t : List ℤ) → zeros t ≡ true → (i : ℕ) → get_or t i (pos 0) ≡ pos 0
unfolding zeros is_zero
zeros_at [] h i = refl
zeros_at (z ∷ t) h zero = same_eq z (pos 0) (and_left (is_zero z) (zeros t) h)
zeros_at (z ∷ t) h (suc i) = zeros_at t (and_right (is_zero z) (zeros t) h) i

pub far_place : (t : List ℤ) (c k p : ℕ) → zero_from c t ≡ true → c ≤ k → place t k p ≡ pos 0
unfolding zero_from place
far_place t c k p h far =
    let start : ℕ = header_length + record_length * c in
    let e : header_length + record_length * k + p ≡ start + (record_length * (k - c) + p) = omega arith in
    subst (λ (i : ℕ). get_or t i (pos 0) ≡ pos 0) (sym e)
    (sym (get_or-drop start t (record_length * (k - c) + p) (pos 0)) ∙ zeros_at (drop start t) h (record_length * (k - c) + p))

-- A value may be replaced where a test fails, by one that is equal to it there.
unless : {A : Type 0} (b : Bool) (x y : A) → (b ≡ false → x ≡ y) → x ≡ cond b x y
unless true x y f = refl
unless false x y f = f refl

-- The list from node k's record on: antt computes it once and reads every place of the node from it.
unfoldable pub record_on : List ℤ → ℕ → List ℤ
record_on t k = drop (header_length + record_length * k) t

-- A place.
unfoldable pub place_near : List ℤ → ℕ → ℕ → ℤ
place_near t k p = cond (ltb k few_nodes || not (few t)) (get_or (record_on t k) p (pos 0)) (pos 0)

pub place_is : (t : List ℤ) (k p : ℕ) → place t k p ≡ place_near t k p
unfolding place_near record_on place
place_is t k p =
    unless (ltb k few_nodes || not (few t)) (place t k p) (pos 0)
    (λ h.
    far_place t few_nodes k p (not-false (few t) (or_false_right (ltb k few_nodes) (not (few t)) h)) (ltb-false k few_nodes (or_false_left (ltb k few_nodes) (not (few t)) h)))
    ∙ ap (λ (z : ℤ). cond (ltb k few_nodes || not (few t)) z (pos 0)) (sym (get_or-drop (header_length + record_length * k) t p (pos 0)))

-- A table with a number put at a place.
unfoldable pub put_near : List ℤ → ℕ → ℕ → ℤ → List ℤ
put_near t k p v = cond (ltb k few_nodes || not (few t && is_zero v)) (put t k p v) t

pub put_is : (t : List ℤ) (k p : ℕ) (v : ℤ) → put t k p v ≡ put_near t k p v
unfolding put_near is_zero
put_is t k p v =
    unless (ltb k few_nodes || not (few t && is_zero v)) (put t k p v) t
    (λ h.
    zero_put (not-false (few t && is_zero v) (or_false_right (ltb k few_nodes) (not (few t && is_zero v)) h))
    (ltb-false k few_nodes (or_false_left (ltb k few_nodes) (not (few t && is_zero v)) h)))
  where
    zero_put : (few t && is_zero v) ≡ true → few_nodes ≤ k → put t k p v ≡ t
    zero_put h far =
        ap (λ (z : ℤ). put t k p z)
        (same_eq v (pos 0) (and_right (few t) (is_zero v) h) ∙ sym (far_place t few_nodes k p (and_left (few t) (is_zero v) h) far))
        ∙ put_same t k p

-- The tree.
unfoldable pub tree_near : List ℤ → Tree
tree_near t =
    record {
      sort = λ k. plus (place_near t k sort_at);
      parent = λ k. plus (place_near t k parent_at);
      level = λ k. plus (place_near t k level_at);
      kind = λ k. plus (place_near t k kind_at);
      share = λ k. plus (place_near t k share_at);
      depth = λ k. plus (place_near t k depth_at);
    }

pub tree_is : (t : List ℤ) → tree_of t ≡ tree_near t
unfolding tree_of tree_near
tree_is t =
    λ i.
    record {
      sort = λ k. plus (place_is t k sort_at i);
      parent = λ k. plus (place_is t k parent_at i);
      level = λ k. plus (place_is t k level_at i);
      kind = λ k. plus (place_is t k kind_at i);
      share = λ k. plus (place_is t k share_at i);
      depth = λ k. plus (place_is t k depth_at i);
    }

-- A test that holds from c on need not look there, steps that change nothing from c on need not be taken there, and zeros from c
-- on need not be added.
pub all_from : (c : ℕ) (p : ℕ → Bool) → ((k : ℕ) → c ≤ k → p k ≡ true) → (n : ℕ) → c ≤ n → all_below n p ≡ all_below c p
all_from c p h zero l = ap (λ (j : ℕ). all_below j p) (omega arith)
all_from c p h (suc n) l =
    below_cases (suc n) c (omega arith)
    (λ m.
    all_suc n p
    ∙ ap (λ (b : Bool). all_below n p && b) (h n (omega arith))
    ∙ and-with-true (all_below n p)
    ∙ all_from c p h n (omega arith))
    (λ e. ap (λ (j : ℕ). all_below j p) (sym e))

pub for_from : {A : Type 0} (c : ℕ) (f : ℕ → A → A) (a : A) → ((k : ℕ) → c ≤ k → f k (for_below c f a) ≡ for_below c f a) → (n : ℕ) → c ≤ n → for_below n f a ≡ for_below c f a
for_from c f a h zero l = ap (λ (j : ℕ). for_below j f a) (omega arith)
for_from c f a h (suc n) l =
    below_cases (suc n) c (omega arith)
    (λ m. for_suc n f a ∙ ap (f n) (for_from c f a h n (omega arith)) ∙ h n (omega arith))
    (λ e. ap (λ (j : ℕ). for_below j f a) (sym e))

pub sum_from : (c : ℕ) (f : ℕ → ℕ) → ((k : ℕ) → c ≤ k → f k ≡ 0) → (n : ℕ) → c ≤ n → sum_below n f ≡ sum_below c f
sum_from c f h zero l = ap (λ (j : ℕ). sum_below j f) (omega arith)
sum_from c f h (suc n) l =
    below_cases (suc n) c (omega arith)
    (λ m. omega (arith, sum_suc n f, h n (omega arith), sum_from c f h n (omega arith)))
    (λ e. ap (λ (j : ℕ). sum_below j f) (sym e))

-- The first of 4 and 8 for which a test holds; else the number of all nodes.
unfoldable pub bound : (ℕ → Bool) → ℕ
bound test = cond (test fewer_nodes) fewer_nodes (cond (test few_nodes) few_nodes nodes)

pub bound_cases : (test : ℕ → Bool) (P : ℕ → Type 0) → ((c : ℕ) → c ≤ nodes → test c ≡ true → P c) → P nodes → P (bound test)
unfolding bound
bound_cases test P f p = cases (test fewer_nodes) (test few_nodes) (f fewer_nodes (omega arith)) (f few_nodes (omega arith))
  where
    cases : (a b : Bool) → (a ≡ true → P fewer_nodes) → (b ≡ true → P few_nodes) → P (cond a fewer_nodes (cond b few_nodes nodes))
    cases true b f g = f refl
    cases false true f g = g refl
    cases false false f g = p

-- How many nodes there are to look at.
unfoldable pub near_nodes : List ℤ → ℕ
near_nodes t = bound (λ c. zero_from c t)

pub near_cases : (t : List ℤ) (P : ℕ → Type 0) → ((c : ℕ) → c ≤ nodes → zero_from c t ≡ true → P c) → P nodes → P (near_nodes t)
unfolding near_nodes
near_cases t = bound_cases (λ c. zero_from c t)

-- A sum over the children of a class, and tests of each node, of each class and of each client: a far node is of sort 0.
pub far_sort : (t : List ℤ) (c k : ℕ) → zero_from c t ≡ true → c ≤ k → (tree_near t).sort k ≡ unused
unfolding tree_near plus
far_sort t c k h far = rw (sym (place_is t k sort_at) ∙ far_place t c k sort_at h far)

unfoldable pub sum_near : List ℤ → ℕ → (ℕ → ℕ) → ℕ
sum_near t c f = sum_below (near_nodes t) (λ k. count_if (child_of (tree_near t) c k) f k)

pub sum_is : (t : List ℤ) (c : ℕ) (f : ℕ → ℕ) → sum_under (tree_near t) c f ≡ sum_near t c f
unfolding sum_near sum_under count_if child_of there every
sum_is t c f =
    let g : ℕ → ℕ = λ k. count_if (child_of (tree_near t) c k) f k in
    near_cases t (λ n. sum_below nodes g ≡ sum_below n g) (λ b hb h. sum_from b g (λ k far. rw (far_sort t b k h far)) nodes hb) refl

unfoldable pub each_near : List ℤ → (ℕ → Bool) → (ℕ → Bool) → Bool
each_near t test p = all_below (near_nodes t) (λ k. test_if (test k) p k)

near_each : (t : List ℤ) (test p : ℕ → Bool) → ((c k : ℕ) → zero_from c t ≡ true → c ≤ k → test k ≡ false) → all_below nodes (λ k. test_if (test k) p k) ≡ each_near t test p
unfolding each_near test_if
near_each t test p none =
    let q : ℕ → Bool = λ k. test_if (test k) p k in
    near_cases t (λ n. all_below nodes q ≡ all_below n q) (λ c hc h. all_from c q (λ k far. rw (none c k h far)) nodes hc) refl

pub nodes_are : (t : List ℤ) (p : ℕ → Bool) → each_node (tree_near t) p ≡ each_near t (there (tree_near t)) p
unfolding each_node there
nodes_are t p = near_each t (there (tree_near t)) p (λ c k h far. rw (far_sort t c k h far))

pub classes_are : (t : List ℤ) (p : ℕ → Bool) → each_class (tree_near t) p ≡ each_near t (is_class (tree_near t)) p
unfolding each_class is_class
classes_are t p = near_each t (is_class (tree_near t)) p (λ c k h far. rw (far_sort t c k h far))

pub clients_are : (t : List ℤ) (p : ℕ → Bool) → each_client (tree_near t) p ≡ each_near t (is_client (tree_near t)) p
unfolding each_client is_client
clients_are t p = near_each t (is_client (tree_near t)) p (λ c k h far. rw (far_sort t c k h far))

-- Whether node k is there or its record is zero; whether that is so of every node.
unfoldable pub unused_at : List ℤ → ℕ → Bool
unused_at t k = test_if (not (there (tree_near t) k)) (λ k. all_below record_length (λ p. is_zero (place_near t k p))) k

far_unused : (t : List ℤ) (c k : ℕ) → zero_from c t ≡ true → c ≤ k → unused_at t k ≡ true
unfolding unused_at is_zero test_if
far_unused t c k h far =
    holds (not (there (tree_near t) k)) (λ k. all_below record_length (λ p. is_zero (place_near t k p)))
    (all_intro record_length _ (λ p l. eq_same (place_near t k p) (pos 0) (sym (place_is t k p) ∙ far_place t c k p h far)))
  where
    holds : (b : Bool) (q : ℕ → Bool) → q k ≡ true → test_if b q k ≡ true
    holds true q h = h
    holds false q h = refl

unfoldable pub unused_near : List ℤ → Bool
unused_near t = all_below (near_nodes t) (unused_at t)

pub unused_is : (t : List ℤ) → unused_in_order t ≡ unused_near t
unfolding unused_near unused_in_order unused_at
unused_is t =
    simp (tree_is, place_is)
    (near_cases t (λ n. all_below nodes (unused_at t) ≡ all_below n (unused_at t))
    (λ c hc h. all_from c (unused_at t) (λ k far. far_unused t c k h far) nodes hc)
    refl)

-- The next client to be dispatched, and step 4.
far_choice : (t : List ℤ) (c k best : ℕ) → zero_from c t ≡ true → c ≤ k → choice t k best ≡ best
unfolding choice supplied waiting plus every
far_choice t c k best h far = rw (far_place t c k waiting_at h far)

unfoldable pub next_near : List ℤ → ℕ
next_near t = for_below (near_nodes t) (choice t) nobody

next_is : (t : List ℤ) → next t ≡ next_near t
unfolding next_near next
next_is t =
    near_cases t (λ n. for_below nodes (choice t) nobody ≡ for_below n (choice t) nobody)
    (λ c hc h. for_from c (choice t) nobody (λ k far. far_choice t c k (for_below c (choice t) nobody) h far) nodes hc)
    refl

unfoldable pub lent_near : ℕ → State → State
lent_near zero st = st
lent_near (suc n) st = elim (eqb (next_near st.table) nobody) [ true ↦ st | false ↦ lent_near n (dispatched st (next_near st.table) (supplier st.table (next_near st.table))) ]

pub lent_is : (n : ℕ) (st : State) → lent n st ≡ lent_near n st
unfolding lent lent_near
lent_is zero st = refl
lent_is (suc n) st =
    ap (λ (m : ℕ). elim (eqb m nobody) as (λ _. State) [ true ↦ st | false ↦ lent n (dispatched st m (supplier st.table m)) ])
    (next_is st.table)
    ∙ ap (λ (s : State). elim (eqb (next_near st.table) nobody) as (λ _. State) [ true ↦ st | false ↦ s ])
    (lent_is n (dispatched st (next_near st.table) (supplier st.table (next_near st.table))))
