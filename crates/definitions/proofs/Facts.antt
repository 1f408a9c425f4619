-- What a table in order satisfies, as plain facts by node, and that these facts make a table in order: `facts` and
-- `from-facts` go between the test of specs/Order and the record `InOrder`.
use Prim.Native.Nat.{ℕ, suc, ◌+◌, ◌*◌, ◌-◌, ◌≤◌, ◌<◌}
use mathlib.Core.Path.{◌≡◌, refl, sym, ap, ◌∙◌}
use mathlib.Core.Bool.{Bool, true, false, not, ◌||◌}
use mathlib.Core.Logic.{⊎_elim}
use mathlib.Core.List.{List}
use native.Mathlib.Omega.{arith}
use borrow.Author.Tests.{eqb-true, eqb-false, eq-eqb, ne_eqb, leb-true, le-leb, ltb-true, ltb-false, lt-ltb, le-ltb, not-true}
use lib.ListN.{length}
use lib.Dec.{eqb, ltb}
use lib.IntN.{ℤ, pos, ◌+ℤ◌}
use lib.Signed.{le_z}
use Rattle.numbers.specs.Whole.{plus, within_ℤ}
use Rattle.numbers.specs.Below.{all_below}
use Rattle.numbers.proofs.Tests.{by_test, or_cases, or_true_left, or_true_right, cond_true, cond_false, true_false}
use Rattle.numbers.proofs.Every.{head_holds, rest_hold, none_left, holds_with}
use Rattle.numbers.proofs.Parts.{same_eq, eq_same, zarith}
use Rattle.numbers.proofs.All.{all_at, all_intro}
use Rattle.definitions.specs.Limits.{table_length, header_length, record_length, nodes, last_node, sort_at, parent_at, level_at, kind_at, share_at, depth_at, rate_at, waiting_at, port_at, spare_at, spare_length, queue_at, queue_length, request_length, size_at, arrival_at, class, client, fixed, stated, root, last_class_level, last_level, whole_share, greatest_depth, greatest_rate, share_limit, port_limit, greatest_count, most_waiting}
use Rattle.definitions.specs.Places.{queue_place, place, header, count, rate, balance, waiting, depth_grains, arrival}
use Rattle.definitions.specs.Tree.{Tree, tree_of, there, is_class, is_client, is_stated, sum_under, test_if, each_node, each_class, each_client}
use Rattle.definitions.specs.Rates.{fixed_sum, stated_sum, rate_in}
use Rattle.definitions.specs.Cost.{size_within}
use Rattle.definitions.specs.Order.{is_zero, header_in_order, unused_in_order, limits_kept, spare_in_order, root_in_order, parent_in_order, class_in_order, rate_in_order, child_balances, balance_in_order, request_in_order, queue_in_order, differs_at, arrivals_differ, stated_placed, stated_in_order, in_order}

-- The limits of node k's places.
pub record Limits (t : List ℤ) (k : ℕ) : Type 0 where
  pub sort : within_ℤ class client (place t k sort_at) ≡ true
  pub parent : within_ℤ 0 last_node (place t k parent_at) ≡ true
  pub level : within_ℤ 0 last_level (place t k level_at) ≡ true
  pub kind : within_ℤ fixed stated (place t k kind_at) ≡ true
  pub share : within_ℤ 1 (share_limit (plus (place t k kind_at))) (place t k share_at) ≡ true
  pub depth : within_ℤ 1 greatest_depth (place t k depth_at) ≡ true
  pub waiting : within_ℤ 0 most_waiting (place t k waiting_at) ≡ true
  pub port : within_ℤ 0 (port_limit (plus (place t k sort_at))) (place t k port_at) ≡ true

-- The places of node k that hold nothing are zero.
pub record Spare (t : List ℤ) (k : ℕ) : Type 0 where
  pub places : (p : ℕ) → p < spare_length → place t k (spare_at + p) ≡ pos 0
  pub queue : (p : ℕ) → p < queue_length → request_length * waiting t k ≤ p → place t k (queue_at + p) ≡ pos 0

pub record Root (t : List ℤ) : Type 0 where
  pub sort : place t root sort_at ≡ pos 1
  pub parent : place t root parent_at ≡ pos 0
  pub level : place t root level_at ≡ pos 0
  pub kind : place t root kind_at ≡ pos 0
  pub share : place t root share_at ≡ pos whole_share
  pub rate : within_ℤ 1 greatest_rate (place t root rate_at) ≡ true

-- The root is there, at level 0.
pub root_there : (t : List ℤ) → Root t → there (tree_of t) 0 ≡ true
unfolding there tree_of plus
root_there t f = rw f.sort

pub root_level : (t : List ℤ) → Root t → (tree_of t).level 0 ≡ 0
unfolding tree_of plus
root_level t f = rw f.level

pub root_unstated : (t : List ℤ) → Root t → is_stated (tree_of t) root ≡ false
unfolding is_stated tree_of plus
root_unstated t f = rw f.kind

pub record Child (tree : Tree) (k : ℕ) : Type 0 where
  pub class : is_class tree (tree.parent k) ≡ true
  pub level : tree.level k ≡ suc (tree.level (tree.parent k))

pub record Class (t : List ℤ) (c : ℕ) : Type 0 where
  pub level : (tree_of t).level c ≤ last_class_level
  pub idle : waiting t c ≡ 0
  pub shares : fixed_sum (tree_of t) c ≤ whole_share
  pub depths : sum_under (tree_of t) c (tree_of t).depth ≤ (tree_of t).depth c

pub record Balance (t : List ℤ) (k : ℕ) : Type 0 where
  pub most : le_z (balance t k) (pos (depth_grains t k)) ≡ true
  pub class : is_class (tree_of t) k ≡ true → le_z (child_balances t k) (balance t k +ℤ pos (depth_grains t k)) ≡ true
  pub client : is_class (tree_of t) k ≡ false → le_z (pos 0) (balance t k) ≡ true

pub record Request (t : List ℤ) (k i : ℕ) : Type 0 where
  pub size : size_within ((tree_of t).depth k) (place t k (queue_place i + size_at)) ≡ true
  pub number : within_ℤ 1 (count t) (place t k (queue_place i + arrival_at)) ≡ true
  pub rising : (i ≡ 0 → ⊥) → arrival t k (i - 1) < arrival t k i

-- Stated nodes stand under the root, and their rates are within the disk's.
pub record Stated (t : List ℤ) : Type 0 where
  pub under : (k : ℕ) → k < nodes → there (tree_of t) k ≡ true → is_stated (tree_of t) k ≡ true → (tree_of t).parent k ≡ root
  pub fits : stated_sum (tree_of t) root ≤ rate t root

pub record InOrder (t : List ℤ) : Type 0 where
  pub long : length t ≡ table_length
  pub counted : within_ℤ 0 greatest_count (header t 0) ≡ true
  pub heading : (p : ℕ) → p < header_length - 1 → header t (suc p) ≡ pos 0
  pub empty : (k : ℕ) → k < nodes → there (tree_of t) k ≡ false → (p : ℕ) → p < record_length → place t k p ≡ pos 0
  pub limits : (k : ℕ) → k < nodes → there (tree_of t) k ≡ true → Limits t k
  pub spare : (k : ℕ) → k < nodes → there (tree_of t) k ≡ true → Spare t k
  pub root : Root t
  pub child : (k : ℕ) → k < nodes → there (tree_of t) k ≡ true → (k ≡ 0 → ⊥) → Child (tree_of t) k
  pub class : (c : ℕ) → c < nodes → is_class (tree_of t) c ≡ true → Class t c
  pub rates : (k : ℕ) → k < nodes → there (tree_of t) k ≡ true → place t k rate_at ≡ pos (rate_in (tree_of t) (rate t 0) k)
  pub balances : (k : ℕ) → k < nodes → there (tree_of t) k ≡ true → Balance t k
  pub requests : (k : ℕ) → k < nodes → is_client (tree_of t) k ≡ true → (i : ℕ) → i < waiting t k → Request t k i
  pub differ : (k : ℕ) → k < nodes → (i : ℕ) → i < waiting t k → (j : ℕ) → j < k → (l : ℕ) → l < waiting t j → arrival t k i ≡ arrival t j l → ⊥
  pub stated : Stated t

-- A test made only where another holds.
pub test_at : (b : Bool) (p : ℕ → Bool) (k : ℕ) → test_if b p k ≡ true → b ≡ true → p k ≡ true
unfolding test_if
test_at true p k h e = h
test_at false p k h e = absurd (true_false e refl)

pub at_test : (b : Bool) (p : ℕ → Bool) (k : ℕ) → (b ≡ true → p k ≡ true) → test_if b p k ≡ true
unfolding test_if
at_test true p k h = h refl
at_test false p k h = refl

-- A test that is not asked, and one that is.
pub test_off : (b : Bool) (f : ℕ → Bool) (j : ℕ) → b ≡ false → test_if b f j ≡ true
unfolding test_if
test_off b f j e = ap (λ (x : Bool). test_if x f j) e

pub test_on : (b : Bool) (f : ℕ → Bool) (j : ℕ) → b ≡ true → test_if b f j ≡ f j
unfolding test_if
test_on b f j e = ap (λ (x : Bool). test_if x f j) e

-- Two tests that are asked alike and hold alike.
pub test_same : (a b : Bool) (f g : ℕ → Bool) (j m : ℕ) → a ≡ b → f j ≡ g m → test_if a f j ≡ test_if b g m
unfolding test_if
test_same a true f g j m e same = ap (λ (x : Bool). test_if x f j) e ∙ same
test_same a false f g j m e same = ap (λ (x : Bool). test_if x f j) e

pub each_at : (f : ℕ → Bool) (p : ℕ → Bool) → all_below nodes (λ k. test_if (f k) p k) ≡ true → (k : ℕ) → k < nodes → f k ≡ true → p k ≡ true
each_at f p h k hk e = test_at (f k) p k (all_at nodes (λ k. test_if (f k) p k) h k hk) e

pub at_each : (f : ℕ → Bool) (p : ℕ → Bool) → ((k : ℕ) → k < nodes → f k ≡ true → p k ≡ true) → all_below nodes (λ k. test_if (f k) p k) ≡ true
at_each f p h = all_intro nodes (λ k. test_if (f k) p k) (λ k hk. at_test (f k) p k (h k hk))

pub zero_at : (z : ℤ) → is_zero z ≡ true → z ≡ pos 0
unfolding is_zero
zero_at z h = same_eq z (pos 0) h

pub at_zero : (z : ℤ) → z ≡ pos 0 → is_zero z ≡ true
unfolding is_zero
at_zero z h = eq_same z (pos 0) h

pub limits_of_law : (t : List ℤ) (k : ℕ) → limits_kept t k ≡ true → Limits t k
unfolding limits_kept
limits_of_law t k h =
    let h1 = rest_hold _ _ h in
    let h2 = rest_hold _ _ h1 in
    let h3 = rest_hold _ _ h2 in
    let h4 = rest_hold _ _ h3 in
    let h5 = rest_hold _ _ h4 in
    let h6 = rest_hold _ _ h5 in
    record {
      sort = head_holds _ _ h;
      parent = head_holds _ _ h1;
      level = head_holds _ _ h2;
      kind = head_holds _ _ h3;
      share = head_holds _ _ h4;
      depth = head_holds _ _ h5;
      waiting = head_holds _ _ h6;
      port = head_holds _ _ (rest_hold _ _ h6);
    }

of_limits : (t : List ℤ) (k : ℕ) → Limits t k → limits_kept t k ≡ true
unfolding limits_kept
of_limits t k f =
    holds_with _ _ f.sort (holds_with _ _ f.parent (holds_with _ _ f.level (holds_with _ _ f.kind (holds_with _ _ f.share (holds_with _ _ f.depth (holds_with _ _ f.waiting (holds_with _ _ f.port none_left)))))))

spare_of : (t : List ℤ) (k : ℕ) → spare_in_order t k ≡ true → Spare t k
unfolding spare_in_order
spare_of t k h =
    record {
      places = λ p hp. zero_at _ (all_at spare_length (λ p. is_zero (place t k (spare_at + p))) (head_holds _ _ h) p hp);
      queue = λ p hp low.
          ⊎_elim (λ e. absurd (true_false e (le-ltb p (request_length * waiting t k) low))) (λ e. zero_at _ e)
          (or_cases (ltb p (request_length * waiting t k)) (is_zero (place t k (queue_at + p))) (all_at queue_length (λ p. ltb p (request_length * waiting t k) || is_zero (place t k (queue_at + p))) (head_holds _ _ (rest_hold _ _ h)) p hp));
    }

of_spare : (t : List ℤ) (k : ℕ) → Spare t k → spare_in_order t k ≡ true
unfolding spare_in_order
of_spare t k f =
    holds_with _ _ (all_intro spare_length (λ p. is_zero (place t k (spare_at + p))) (λ p hp. at_zero _ (f.places p hp)))
    (holds_with _ _
    (all_intro queue_length (λ p. ltb p (request_length * waiting t k) || is_zero (place t k (queue_at + p)))
    (λ p hp.
    by_test (ltb p (request_length * waiting t k)) (or_true_left (ltb p (request_length * waiting t k)) (is_zero (place t k (queue_at + p))))
    (λ e. or_true_right (ltb p (request_length * waiting t k)) (is_zero (place t k (queue_at + p))) (at_zero _ (f.queue p hp (ltb-false p (request_length * waiting t k) e))))))
    none_left)

pub root_of : (t : List ℤ) → root_in_order t ≡ true → Root t
unfolding root_in_order
root_of t h =
    let h1 = rest_hold _ _ h in
    let h2 = rest_hold _ _ h1 in
    let h3 = rest_hold _ _ h2 in
    let h4 = rest_hold _ _ h3 in
    record {
      sort = same_eq _ _ (head_holds _ _ h);
      parent = same_eq _ _ (head_holds _ _ h1);
      level = same_eq _ _ (head_holds _ _ h2);
      kind = same_eq _ _ (head_holds _ _ h3);
      share = same_eq _ _ (head_holds _ _ h4);
      rate = head_holds _ _ (rest_hold _ _ h4);
    }

of_root : (t : List ℤ) → Root t → root_in_order t ≡ true
unfolding root_in_order
of_root t f =
    holds_with _ _ (eq_same _ _ f.sort) (holds_with _ _ (eq_same _ _ f.parent) (holds_with _ _ (eq_same _ _ f.level) (holds_with _ _ (eq_same _ _ f.kind) (holds_with _ _ (eq_same _ _ f.share) (holds_with _ _ f.rate none_left)))))

pub child_of_law : (tree : Tree) (k : ℕ) → parent_in_order tree k ≡ true → (k ≡ 0 → ⊥) → Child tree k
unfolding parent_in_order
child_of_law tree k h ne =
    ⊎_elim (λ e. absurd (ne (eqb-true k 0 e))) (λ e. record { class = head_holds _ _ e; level = eqb-true _ _ (head_holds _ _ (rest_hold _ _ e)) })
    (or_cases (eqb k 0) _ h)

of_child : (tree : Tree) (k : ℕ) → ((k ≡ 0 → ⊥) → Child tree k) → parent_in_order tree k ≡ true
unfolding parent_in_order
of_child tree k f =
    by_test (eqb k 0) (or_true_left (eqb k 0) _)
    (λ e. or_true_right (eqb k 0) _ (holds_with _ _ (f (eqb-false k 0 e)).class (holds_with _ _ (eq-eqb _ _ (f (eqb-false k 0 e)).level) none_left)))

class_of : (t : List ℤ) (c : ℕ) → class_in_order t c ≡ true → Class t c
unfolding class_in_order
class_of t c h =
    let h1 = rest_hold _ _ h in
    let h2 = rest_hold _ _ h1 in
    record {
      level = leb-true ((tree_of t).level c) last_class_level (head_holds _ _ h);
      idle = eqb-true (waiting t c) 0 (head_holds _ _ h1);
      shares = leb-true (fixed_sum (tree_of t) c) whole_share (head_holds _ _ h2);
      depths = leb-true (sum_under (tree_of t) c (tree_of t).depth) ((tree_of t).depth c) (head_holds _ _ (rest_hold _ _ h2));
    }

of_class : (t : List ℤ) (c : ℕ) → Class t c → class_in_order t c ≡ true
unfolding class_in_order
of_class t c f =
    holds_with _ _ (le-leb _ _ f.level) (holds_with _ _ (eq-eqb _ _ f.idle) (holds_with _ _ (le-leb _ _ f.shares) (holds_with _ _ (le-leb _ _ f.depths) none_left)))

balance_of : (t : List ℤ) (k : ℕ) → balance_in_order t k ≡ true → Balance t k
unfolding balance_in_order
balance_of t k h =
    record {
      most = head_holds _ _ h;
      class = λ e. sym (cond_true _ _ _ e) ∙ head_holds _ _ (rest_hold _ _ h);
      client = λ e. sym (cond_false _ _ _ e) ∙ head_holds _ _ (rest_hold _ _ h);
    }

pub of_balance : (t : List ℤ) (k : ℕ) → Balance t k → balance_in_order t k ≡ true
unfolding balance_in_order
of_balance t k f =
    holds_with _ _ f.most
    (holds_with _ _ (by_test (is_class (tree_of t) k) (λ e. cond_true _ _ _ e ∙ f.class e) (λ e. cond_false _ _ _ e ∙ f.client e)) none_left)

request_of : (t : List ℤ) (k i : ℕ) → request_in_order t k i ≡ true → Request t k i
unfolding request_in_order
request_of t k i h =
    record {
      size = head_holds _ _ h;
      number = head_holds _ _ (rest_hold _ _ h);
      rising = λ ne. ⊎_elim (λ e. absurd (ne (eqb-true i 0 e))) (λ e. ltb-true _ _ e) (or_cases (eqb i 0) (ltb (arrival t k (i - 1)) (arrival t k i)) (head_holds _ _ (rest_hold _ _ (rest_hold _ _ h))));
    }

of_request : (t : List ℤ) (k i : ℕ) → Request t k i → request_in_order t k i ≡ true
unfolding request_in_order
of_request t k i f =
    holds_with _ _ f.size
    (holds_with _ _ f.number
    (holds_with _ _
    (by_test (eqb i 0) (or_true_left (eqb i 0) (ltb (arrival t k (i - 1)) (arrival t k i)))
    (λ e. or_true_right (eqb i 0) (ltb (arrival t k (i - 1)) (arrival t k i)) (lt-ltb _ _ (f.rising (eqb-false i 0 e)))))
    none_left))

placed_of : (tree : Tree) (k : ℕ) → stated_placed tree k ≡ true → is_stated tree k ≡ true → tree.parent k ≡ root
unfolding stated_placed
placed_of tree k h e =
    ⊎_elim (λ other. absurd (true_false e (not-true _ other))) (λ under. eqb-true (tree.parent k) root under)
    (or_cases (not (is_stated tree k)) _ h)

of_placed : (tree : Tree) (k : ℕ) → (is_stated tree k ≡ true → tree.parent k ≡ root) → stated_placed tree k ≡ true
unfolding stated_placed
of_placed tree k h =
    by_test (is_stated tree k)
    (λ e. or_true_right (not (is_stated tree k)) _ (eq-eqb (tree.parent k) root (h e)))
    (λ e. or_true_left (not (is_stated tree k)) _ (ap not e))

pub stated_of : (t : List ℤ) → stated_in_order t ≡ true → Stated t
unfolding stated_in_order each_node
stated_of t h =
    record {
      under = λ k hk e. placed_of (tree_of t) k (each_at (there (tree_of t)) (stated_placed (tree_of t)) (head_holds _ _ h) k hk e);
      fits = leb-true (stated_sum (tree_of t) root) (rate t root) (head_holds _ _ (rest_hold _ _ h));
    }

pub of_stated_law : (t : List ℤ) → Stated t → stated_in_order t ≡ true
unfolding stated_in_order each_node
of_stated_law t f =
    holds_with _ _ (at_each (there (tree_of t)) (stated_placed (tree_of t)) (λ k hk e. of_placed (tree_of t) k (f.under k hk e)))
    (holds_with _ _ (le-leb (stated_sum (tree_of t) root) (rate t root) f.fits) none_left)

-- Kept where the tree and the disk's rate stay.
pub stated_kept : (t u : List ℤ) → tree_of u ≡ tree_of t → rate u root ≡ rate t root → Stated t → Stated u
stated_kept t u trees disk f = record { under = rw trees f.under; fits = rw (trees, disk) f.fits }

pub facts : (t : List ℤ) → in_order t ≡ true → InOrder t
unfolding in_order header_in_order unused_in_order each_node each_class each_client rate_in_order queue_in_order arrivals_differ differs_at
facts t h =
    let h1 = rest_hold _ _ h in
    let h2 = rest_hold _ _ h1 in
    let h3 = rest_hold _ _ h2 in
    let h4 = rest_hold _ _ h3 in
    let h5 = rest_hold _ _ h4 in
    let h6 = rest_hold _ _ h5 in
    let h7 = rest_hold _ _ h6 in
    let h8 = rest_hold _ _ h7 in
    let h9 = rest_hold _ _ h8 in
    let h10 = rest_hold _ _ h9 in
    record {
      long = eqb-true (length t) table_length (head_holds _ _ h);
      counted = head_holds _ _ (head_holds _ _ h1);
      heading = λ p hp. zero_at _ (all_at (header_length - 1) (λ p. is_zero (header t (suc p))) (head_holds _ _ (rest_hold _ _ (head_holds _ _ h1))) p hp);
      empty = λ k hk no_Node p hp. zero_at _ (all_at record_length (λ p. is_zero (place t k p)) (each_at (λ k. not (there (tree_of t) k)) (λ k. all_below record_length (λ p. is_zero (place t k p))) (head_holds _ _ h2) k hk (ap not no_Node)) p hp);
      limits = λ k hk e. limits_of_law t k (each_at (there (tree_of t)) (limits_kept t) (head_holds _ _ h3) k hk e);
      spare = λ k hk e. spare_of t k (each_at (there (tree_of t)) (spare_in_order t) (head_holds _ _ h4) k hk e);
      root = root_of t (head_holds _ _ h5);
      child = λ k hk e. child_of_law (tree_of t) k (each_at (there (tree_of t)) (parent_in_order (tree_of t)) (head_holds _ _ h6) k hk e);
      class = λ k hk e. class_of t k (each_at (is_class (tree_of t)) (class_in_order t) (head_holds _ _ h7) k hk e);
      rates = λ k hk e. same_eq _ _ (each_at (there (tree_of t)) (rate_in_order t) (head_holds _ _ h8) k hk e);
      balances = λ k hk e. balance_of t k (each_at (there (tree_of t)) (balance_in_order t) (head_holds _ _ h9) k hk e);
      requests = λ k hk e i hi. request_of t k i (all_at (waiting t k) (request_in_order t k) (each_at (is_client (tree_of t)) (queue_in_order t) (head_holds _ _ h10) k hk e) i hi);
      differ = λ k hk i hi j hj l hl e.
          true_false
          (all_at (waiting t j) (λ l. not (eqb (arrival t k i) (arrival t j l)))
          (all_at k (differs_at t (arrival t k i))
          (all_at (waiting t k) (λ i. all_below k (differs_at t (arrival t k i)))
          (all_at nodes (arrivals_differ t) (head_holds _ _ (rest_hold _ _ h10)) k hk) i hi) j hj) l hl)
          (ap not (eq-eqb _ _ e));
      stated = stated_of t (head_holds _ _ (rest_hold _ _ (rest_hold _ _ h10)));
    }

pub from_facts : (t : List ℤ) → InOrder t → in_order t ≡ true
unfolding in_order header_in_order unused_in_order each_node each_class each_client rate_in_order queue_in_order arrivals_differ differs_at
from_facts t f =
    holds_with _ _ (eq-eqb _ _ f.long)
    (holds_with _ _ (holds_with _ _ f.counted (holds_with _ _ (all_intro (header_length - 1) (λ p. is_zero (header t (suc p))) (λ p hp. at_zero _ (f.heading p hp))) none_left))
    (holds_with _ _
    (at_each (λ k. not (there (tree_of t) k)) (λ k. all_below record_length (λ p. is_zero (place t k p)))
    (λ k hk e. all_intro record_length (λ p. is_zero (place t k p)) (λ p hp. at_zero _ (f.empty k hk (not-true _ e) p hp))))
    (holds_with _ _ (at_each (there (tree_of t)) (limits_kept t) (λ k hk e. of_limits t k (f.limits k hk e)))
    (holds_with _ _ (at_each (there (tree_of t)) (spare_in_order t) (λ k hk e. of_spare t k (f.spare k hk e)))
    (holds_with _ _ (of_root t f.root)
    (holds_with _ _ (at_each (there (tree_of t)) (parent_in_order (tree_of t)) (λ k hk e. of_child (tree_of t) k (f.child k hk e)))
    (holds_with _ _ (at_each (is_class (tree_of t)) (class_in_order t) (λ k hk e. of_class t k (f.class k hk e)))
    (holds_with _ _ (at_each (there (tree_of t)) (rate_in_order t) (λ k hk e. eq_same _ _ (f.rates k hk e)))
    (holds_with _ _ (at_each (there (tree_of t)) (balance_in_order t) (λ k hk e. of_balance t k (f.balances k hk e)))
    (holds_with _ _
    (at_each (is_client (tree_of t)) (queue_in_order t)
    (λ k hk e. all_intro (waiting t k) (request_in_order t k) (λ i hi. of_request t k i (f.requests k hk e i hi))))
    (holds_with _ _
    (all_intro nodes (arrivals_differ t)
    (λ k hk. all_intro (waiting t k) (λ i. all_below k (differs_at t (arrival t k i)))
    (λ i hi. all_intro k (differs_at t (arrival t k i))
    (λ j hj. all_intro (waiting t j) (λ l. not (eqb (arrival t k i) (arrival t j l)))
    (λ l hl. ap not (ne_eqb _ _ (f.differ k hk i hi j hj l hl)))))))
    (holds_with _ _ (of_stated_law t f.stated) none_left))))))))))))

-- A node of a table in order that is no client is a class.
pub class_or_client : (t : List ℤ) (k : ℕ) → InOrder t → k < nodes → there (tree_of t) k ≡ true → is_client (tree_of t) k ≡ false → is_class (tree_of t) k ≡ true
unfolding tree_of is_class is_client
class_or_client t k f hk e no_client =
    let limits = (f.limits k hk e).sort in
    let other : plus (place t k sort_at) ≡ client → ⊥ = eqb-false (plus (place t k sort_at)) client no_client in
    eq-eqb (plus (place t k sort_at)) class (omega (arith, zarith))
