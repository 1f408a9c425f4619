-- The stages together are the definition: a table in order passes each, and a table that passes all is in order. Two tests of
-- the stage of records are no clauses of the definition; they follow from the others: the floor of a balance (treelaws,
-- Floors) and the limit of a rate (treelaws, Rounding).
use Prim.Native.Nat.{ℕ, ◌+◌, ◌≤◌, ◌<◌}
use mathlib.Core.Path.{◌≡◌, refl, sym, ap, ◌∙◌}
use mathlib.Core.Bool.{Bool, true, false, not}
use mathlib.Core.List.{List}
use native.Mathlib.Omega.{arith}
use native.Mathlib.Decide.{ℕ_discrete}
use borrow.Author.Tests.{leb-true, le-leb, eq-eqb, ne_eqb, eqb-true, eqb-false, not-true}
use lib.ListN.{length}
use lib.Dec.{eqb}
use lib.IntN.{ℤ, pos}
use Rattle.numbers.specs.Whole.{plus, minus}
use Rattle.numbers.specs.Below.{all_below}
use Rattle.numbers.proofs.Tests.{by_test, true_false, cond_true, cond_false}
use Rattle.numbers.proofs.Every.{head_holds, rest_hold, holds_with, none_left}
use Rattle.numbers.proofs.All.{all_at, all_intro}
use Rattle.numbers.proofs.Parts.{zarith, add_parts, one_is_zero, plus_pos}
use Rattle.definitions.specs.Limits.{table_length, record_length, nodes, root, sort_at, depth_at, waiting_at, class, client, stated, whole_share, greatest_depth, most_waiting}
use Rattle.definitions.specs.Places.{place, rate, balance, waiting, depth_grains}
use Rattle.definitions.specs.Tree.{tree_of, there, is_class, is_client, is_stated, sum_under, each_node, each_class, each_client}
use Rattle.definitions.specs.Rates.{fixed_sum, stated_sum}
use Rattle.definitions.specs.Order.{is_zero, header_in_order, unused_in_order, limits_kept, spare_in_order, root_in_order, parent_in_order, class_in_order, rate_in_order, balance_in_order, request_in_order, queue_in_order, arrivals_differ, in_order}
use Rattle.definitions.proofs.Facts.{InOrder, Root, Stated, facts, of_stated_law, each_at, at_each, at_zero, zero_at as zero_of, limits_of_law, root_of, root_there, root_unstated, child_of_law, of_balance}
use Rattle.definitions.proofs.ShareKinds.{stated_kind_law}
use Rattle.treelaws.proofs.Children.{child_of_law as is_child, balances_parts, class_there}
use Rattle.treelaws.proofs.Rounding.{no_stated_under, share_le_sum, rate_small, rate_natural}
use Rattle.treelaws.proofs.Floors.{grounds, balance_room, node_floor}
use Rattle.sums.proofs.Rated.{rated_of}
use Rattle.records.specs.Record.{records_in_order}
use Rattle.queues.specs.Waiting.{waiting_in_order}
use Rattle.covering.specs.Cover.{stated_limit, class_covers}
use Rattle.ratetest.specs.Following.{Testable}
use Rattle.records.proofs.Bounds.{bounds}
use Rattle.records.proofs.Nodes.{Node, node_at, zero_at, records_by}

pub record Stages (t : List ℤ) : Type 0 where
  pub long : length t ≡ table_length
  pub header : header_in_order t ≡ true
  pub root : root_in_order t ≡ true
  pub records : records_in_order t ≡ true
  pub classes : each_class (tree_of t) (class_covers t) ≡ true
  pub rates : each_node (tree_of t) (rate_in_order t) ≡ true
  pub queues : all_below nodes (waiting_in_order t) ≡ true

-- What a class covers, as facts.
pub record Covers (t : List ℤ) (c : ℕ) : Type 0 where
  pub shares : fixed_sum (tree_of t) c ≤ whole_share
  pub depths : sum_under (tree_of t) c (tree_of t).depth ≤ (tree_of t).depth c
  pub line : sum_under (tree_of t) c (λ k. plus (balance t k)) + minus (balance t c) ≤ sum_under (tree_of t) c (λ k. minus (balance t k)) + plus (balance t c) + depth_grains t c
  pub stated : stated_sum (tree_of t) c ≤ stated_limit t c

covers_of : (t : List ℤ) (c : ℕ) → class_covers t c ≡ true → Covers t c
unfolding class_covers
covers_of t c h =
    let h1 = rest_hold _ _ h in
    let h2 = rest_hold _ _ h1 in
    record {
      shares = leb-true (fixed_sum (tree_of t) c) whole_share (head_holds _ _ h);
      depths = leb-true (sum_under (tree_of t) c (tree_of t).depth) ((tree_of t).depth c) (head_holds _ _ h1);
      line = leb-true (sum_under (tree_of t) c (λ k. plus (balance t k)) + minus (balance t c)) (sum_under (tree_of t) c (λ k. minus (balance t k)) + plus (balance t c) + depth_grains t c) (head_holds _ _ h2);
      stated = leb-true (stated_sum (tree_of t) c) (stated_limit t c) (head_holds _ _ (rest_hold _ _ h2));
    }

of_covers : (t : List ℤ) (c : ℕ) → Covers t c → class_covers t c ≡ true
unfolding class_covers
of_covers t c f =
    holds_with _ _ (le-leb _ _ f.shares) (holds_with _ _ (le-leb _ _ f.depths) (holds_with _ _ (le-leb _ _ f.line) (holds_with _ _ (le-leb _ _ f.stated) none_left)))

pub covers_at : (t : List ℤ) → each_class (tree_of t) (class_covers t) ≡ true → (c : ℕ) → c < nodes → is_class (tree_of t) c ≡ true → Covers t c
unfolding each_class
covers_at t h c hc e = covers_of t c (each_at (is_class (tree_of t)) (class_covers t) h c hc e)

-- Stated rates: where each class covers those under it, they are in order, and so the other way round.
stated_covered : (t : List ℤ) → InOrder t → (c : ℕ) → stated_sum (tree_of t) c ≤ stated_limit t c
unfolding stated_limit
stated_covered t f c =
    by_test (eqb c root)
    (λ e. rw (cond_true _ (rate t root) 0 e, eqb-true c root e) f.stated.fits)
    (λ e. rw (cond_false _ (rate t root) 0 e) (omega (arith, no_stated_under t f c (eqb-false c root e))))

covered_stated : (t : List ℤ) → Root t → ((c : ℕ) → c < nodes → is_class (tree_of t) c ≡ true → Covers t c) → ((k : ℕ) → k < nodes → there (tree_of t) k ≡ true → Node t k) → Stated t
unfolding stated_limit tree_of is_class
covered_stated t top covers node =
    record {
      under = λ k hk e s. elim (ℕ_discrete ((tree_of t).parent k) root) [ yes same ↦ same | no other ↦ absurd (elsewhere k hk e s other) ];
      fits = (covers root (omega arith) (eq-eqb ((tree_of t).sort root) class (ap plus top.sort ∙ plus_pos 1))).stated;
    }
  where
    -- A stated node under another class has a share of at least 1, and nothing is covered there.
    elsewhere : (k : ℕ) → k < nodes → there (tree_of t) k ≡ true → is_stated (tree_of t) k ≡ true → ((tree_of t).parent k ≡ root → ⊥) → ⊥
    elsewhere k hk e s other =
        let l = limits_of_law t k (node k hk e).limits in
        let kind = stated_kind_law (tree_of t) k s in
        let below : k ≡ root → ⊥ = λ z. true_false (ap (is_stated (tree_of t)) (sym z) ∙ s) (root_unstated t top) in
        let child = child_of_law (tree_of t) k (node k hk e).parent below in
        omega (
          arith,
          zarith,
          (covers ((tree_of t).parent k) (omega (arith, zarith)) child.class).stated,
          cond_false _ (rate t root) 0 (ne_eqb ((tree_of t).parent k) root other),
          share_le_sum (tree_of t) ((tree_of t).parent k) stated k hk (is_child (tree_of t) ((tree_of t).parent k) k (record { there = e; below = below; parent = refl })) kind,
        )

-- A node at which requests wait is a client.
idle : (t : List ℤ) → InOrder t → (k : ℕ) → k < nodes → is_client (tree_of t) k ≡ false → waiting t k ≡ 0
unfolding tree_of there is_class is_client waiting
idle t f k hk other =
    by_test (is_class (tree_of t) k) (λ e. (f.class k hk e).idle)
    (λ d. by_test (there (tree_of t) k)
    (λ e.
    let l = f.limits k hk e in
    omega (arith, zarith, eqb-false (plus (place t k sort_at)) client other, eqb-false (plus (place t k sort_at)) class d))
    (λ e. ap plus (f.empty k hk e waiting_at (omega arith)) ∙ plus_pos 0))

queue_empty : (t : List ℤ) (k : ℕ) → waiting t k ≡ 0 → queue_in_order t k ≡ true
unfolding queue_in_order
queue_empty t k e = all_intro (waiting t k) (request_in_order t k) (λ i hi. absurd (omega arith))

-- A table in order passes each stage.
node_in : (t : List ℤ) → in_order t ≡ true → (k : ℕ) → k < nodes → there (tree_of t) k ≡ true → Node t k
unfolding in_order each_node plus minus rate
node_in t h k hk e =
    let f = facts t h in
    let h4 = rest_hold _ _ (rest_hold _ _ (rest_hold _ _ (rest_hold _ _ h))) in
    let b = f.balances k hk e in
    record {
      limits = each_at (there (tree_of t)) (limits_kept t) (head_holds _ _ (rest_hold _ _ (rest_hold _ _ (rest_hold _ _ h)))) k hk e;
      spare = each_at (there (tree_of t)) (spare_in_order t) (head_holds _ _ h4) k hk e;
      parent = each_at (there (tree_of t)) (parent_in_order (tree_of t)) (head_holds _ _ (rest_hold _ _ (rest_hold _ _ h4))) k hk e;
      level = λ d. (f.class k hk d).level;
      idle = λ d. (f.class k hk d).idle;
      most = omega (arith, zarith, b.most, one_is_zero (balance t k));
      least = node_floor t (grounds t f) k hk e;
      client = λ d. omega (arith, zarith, b.client d, one_is_zero (balance t k));
      rate = omega (arith, zarith, rate_small t f k hk, rate_natural t f k hk e);
    }

pub stages : (t : List ℤ) → in_order t ≡ true → Stages t
unfolding in_order each_class each_node each_client unused_in_order waiting_in_order depth_grains tree_of
stages t h =
    let f = facts t h in
    let h1 = rest_hold _ _ h in
    let h2 = rest_hold _ _ h1 in
    let h5 = rest_hold _ _ (rest_hold _ _ (rest_hold _ _ h2)) in
    let h8 = rest_hold _ _ (rest_hold _ _ (rest_hold _ _ h5)) in
    let h10 = rest_hold _ _ (rest_hold _ _ h8) in
    record {
      long = f.long;
      header = head_holds _ _ h1;
      root = head_holds _ _ h5;
      records = records_by t (node_in t h) (λ k hk e. all_intro record_length (λ p. is_zero (place t k p)) (λ p hp. at_zero _ (f.empty k hk e p hp)));
      classes = at_each (is_class (tree_of t)) (class_covers t)
          (λ c hc e.
          let r = (balance_room t c (f.balances c hc (class_there (tree_of t) c e))).class e in
          of_covers t c (record { shares = (f.class c hc e).shares; depths = (f.class c hc e).depths; line = omega arith; stated = stated_covered t f c }));
      rates = head_holds _ _ h8;
      queues = all_intro nodes (waiting_in_order t)
          (λ k hk.
          holds_with _ _
          (by_test (is_client (tree_of t) k) (λ e. each_at (is_client (tree_of t)) (queue_in_order t) (head_holds _ _ h10) k hk e)
          (λ e. queue_empty t k (idle t f k hk e)))
          (holds_with _ _ (all_at nodes (arrivals_differ t) (head_holds _ _ (rest_hold _ _ h10)) k hk) none_left));
    }

-- A table that passes all is in order.
class_in : (t : List ℤ) (c : ℕ) → is_class (tree_of t) c ≡ true → Node t c → Covers t c → class_in_order t c ≡ true
unfolding class_in_order
class_in t c e n f =
    holds_with _ _ (le-leb _ _ (n.level e))
    (holds_with _ _ (eq-eqb _ _ (n.idle e)) (holds_with _ _ (le-leb _ _ f.shares) (holds_with _ _ (le-leb _ _ f.depths) none_left)))

balance_in : (t : List ℤ) (k : ℕ) → Node t k → (is_class (tree_of t) k ≡ true → Covers t k) → balance_in_order t k ≡ true
unfolding plus minus
balance_in t k n f =
    of_balance t k
    (record {
      most = omega (arith, zarith, n.most);
      class = λ e. omega (arith, zarith, (f e).line, balances_parts t k, add_parts (balance t k) (pos (depth_grains t k)));
      client = λ e. omega (arith, zarith, n.client e);
    })

pub from_stages : (t : List ℤ) → Stages t → in_order t ≡ true
unfolding in_order each_class each_node each_client unused_in_order waiting_in_order
from_stages t s =
    let node = node_at t s.records in
    let covers = covers_at t s.classes in
    let queue = all_at nodes (waiting_in_order t) s.queues in
    holds_with _ _ (eq-eqb _ _ s.long)
    (holds_with _ _ s.header
    (holds_with _ _ (at_each (λ k. not (there (tree_of t) k)) (λ k. all_below record_length (λ p. is_zero (place t k p))) (λ k hk e. zero_at t s.records k hk (not-true _ e)))
    (holds_with _ _ (at_each (there (tree_of t)) (limits_kept t) (λ k hk e. (node k hk e).limits))
    (holds_with _ _ (at_each (there (tree_of t)) (spare_in_order t) (λ k hk e. (node k hk e).spare))
    (holds_with _ _ s.root
    (holds_with _ _ (at_each (there (tree_of t)) (parent_in_order (tree_of t)) (λ k hk e. (node k hk e).parent))
    (holds_with _ _ (at_each (is_class (tree_of t)) (class_in_order t) (λ c hc e. class_in t c e (node c hc (class_there (tree_of t) c e)) (covers c hc e)))
    (holds_with _ _ s.rates
    (holds_with _ _ (at_each (there (tree_of t)) (balance_in_order t) (λ k hk e. balance_in t k (node k hk e) (covers k hk)))
    (holds_with _ _ (at_each (is_client (tree_of t)) (queue_in_order t) (λ k hk e. head_holds _ _ (queue k hk)))
    (holds_with _ _ (all_intro nodes (arrivals_differ t) (λ k hk. head_holds _ _ (rest_hold _ _ (queue k hk))))
    (holds_with _ _ (of_stated_law t (covered_stated t (root_of t s.root) covers node)) none_left))))))))))))

-- What the stages up to the classes make of a table: its rates can be tested.
pub testable : (t : List ℤ) → length t ≡ table_length → root_in_order t ≡ true → records_in_order t ≡ true → each_class (tree_of t) (class_covers t) ≡ true → Testable t
unfolding rate
testable t long root records classes =
    let node = node_at t records in
    let top = root_of t root in
    record {
      rated =
          rated_of t 0 long top (λ k hk e. limits_of_law t k (node k hk e).limits) (λ k hk e ne. child_of_law (tree_of t) k (node k hk e).parent ne)
          (λ c hc e. (covers_at t classes c hc e).shares)
          (omega arith)
          (root_there t top)
          (omega (arith, zarith, top.rate));
      limits = λ k hk e. (node k hk e).limits;
      within = λ k hk e. (node k hk e).rate;
    }

-- What they make of a place that has a limit at a node that is there: it keeps that at every node.
module _ (t : List ℤ) (h : records_in_order t ≡ true) (k : ℕ) (hk : k < nodes) where
  small_at : (p m : ℕ) → p < record_length → (there (tree_of t) k ≡ true → plus (place t k p) ≤ m) → plus (place t k p) ≤ m
  small_at p m hp limit =
      by_test (there (tree_of t) k) limit
      (λ e. omega (arith, ap plus (zero_of _ (all_at record_length (λ p. is_zero (place t k p)) (zero_at t h k hk e) p hp)), plus_pos 0))

  -- No node has more than 8 requests waiting, nor a depth above 1,000,000.
  pub waiting_small : waiting t k ≤ most_waiting
  unfolding waiting
  waiting_small = small_at waiting_at most_waiting (omega arith) (λ e. (bounds t k (node_at t h k hk e).limits).waiting)

  pub depth_small : (tree_of t).depth k ≤ greatest_depth
  unfolding tree_of
  depth_small = small_at depth_at greatest_depth (omega arith) (λ e. (bounds t k (node_at t h k hk e).limits).depth)

-- One stage that fails is enough.
pub out_of_order_law : (t : List ℤ) (b : Bool) → (Stages t → b ≡ true) → b ≡ false → false ≡ in_order t
out_of_order_law t b passes fails =
    sym (by_test (in_order t) (λ h. absurd (true_false (passes (stages t h)) fails)) (λ h. h))
