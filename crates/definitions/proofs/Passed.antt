-- What an accepted call has passed: each cause of its refusals as the plain fact that it is not there.
use Prim.Native.Nat.{ℕ, ◌≤◌, ◌<◌}
use mathlib.Core.Path.{◌≡◌, refl}
use mathlib.Core.Bool.{Bool, true, false, not}
use mathlib.Core.List.{List, [], ◌∷◌}
use native.Mathlib.Omega.{arith}
use borrow.Author.Tests.{not-false, eq-eqb, eqb-false, ltb-false}
use lib.ListN.{length}
use lib.Dec.{ltb}
use lib.IntN.{ℤ, pos}
use lib.Signed.{le_z}
use Rattle.numbers.specs.Whole.{plus, minus, within_ℤ}
use Rattle.numbers.specs.Tests.{every}
use Rattle.numbers.proofs.Tests.{true_false, or_false_left, or_false_right}
use Rattle.numbers.proofs.Every.{head_holds, rest_hold, holds_with, none_left}
use Rattle.numbers.proofs.Parts.{zarith, one_is_zero, within_parts}
use Rattle.definitions.specs.Limits.{table_length, nodes, last_node, rate_at, class, client, fixed, stated, root, last_class_level, whole_share, greatest_depth, greatest_rate, share_limit, port_limit, greatest_count, most_waiting}
use Rattle.definitions.specs.Places.{put, count, balance, waiting}
use Rattle.definitions.specs.Tree.{tree_of, there, is_class, is_client, childless, sum_under}
use Rattle.definitions.specs.Rates.{fixed_sum}
use Rattle.definitions.specs.Cost.{cost}
use Rattle.definitions.specs.Order.{in_order}
use Rattle.definitions.specs.Calls.{shares_above, depths_above, stated_wrong, open_limits, open_refusal, joined, join_limits, sum_causes, join_refusal, leave_refusal, reshared, change_share_limits, change_share_refusal, change_rate_refusal, request_limits, request_refusal}
use Rattle.definitions.proofs.Facts.{Stated, facts, stated_of}
use Rattle.definitions.proofs.Refusals.{none_first}

-- The first tests: the table is in order, and a number is that of a node.
pub long : (t : List ℤ) → in_order t ≡ true → length t ≡ table_length
long t h = (facts t h).long

pub below : (low : ℕ) (z : ℤ) → within_ℤ low last_node z ≡ true → plus z < nodes
below low z h = omega (arith, within_parts low last_node z h)

-- Open.
pub record OpenPassed (rate depth : ℤ) : Type 0 where
  pub rates : within_ℤ 1 greatest_rate rate ≡ true
  pub depths : within_ℤ 1 greatest_depth depth ≡ true

pub open_passed : (t : List ℤ) (rate depth : ℤ) → open_refusal t rate depth ≡ 0 → OpenPassed rate depth
unfolding open_refusal open_limits
open_passed t rate depth h =
    let p1 = none_first 1 _ _ (omega arith) h in
    let p2 = none_first 2 _ _ (omega arith) p1.1 in
    let limits = not-false _ p2.0 in
    record { rates = head_holds _ _ limits; depths = head_holds _ _ (rest_hold _ _ limits) }

-- Join, of node k under class c.
pub record JoinPassed (t : List ℤ) (k c : ℕ) (sort kind share depth port : ℤ) : Type 0 where
  pub order : in_order t ≡ true
  pub node : k < nodes
  pub below : k ≡ 0 → ⊥
  pub parent : c < nodes
  pub sorts : within_ℤ class client sort ≡ true
  pub kinds : within_ℤ fixed stated kind ≡ true
  pub within : within_ℤ 1 (share_limit (plus kind)) share ≡ true
  pub deep : within_ℤ 1 greatest_depth depth ≡ true
  pub ports : within_ℤ 0 (port_limit (plus sort)) port ≡ true
  pub unused : there (tree_of t) k ≡ false
  pub there : there (tree_of t) c ≡ true
  pub no_client : is_client (tree_of t) c ≡ false
  pub levels : plus sort ≡ class → (tree_of t).level c ≡ last_class_level → ⊥
  pub shares : fixed_sum (tree_of (joined t k c sort kind share depth port)) c ≤ whole_share
  pub depths : sum_under (tree_of (joined t k c sort kind share depth port)) c (tree_of (joined t k c sort kind share depth port)).depth ≤ (tree_of (joined t k c sort kind share depth port)).depth c
  pub stated : Stated (joined t k c sort kind share depth port)

pub join_passed : (t : List ℤ) (node parent sort kind share depth port : ℤ) → join_refusal t node parent sort kind share depth port ≡ 0 → JoinPassed t (plus node) (plus parent) sort kind share depth port
unfolding join_refusal join_limits sum_causes shares_above depths_above stated_wrong
join_passed t node parent sort kind share depth port h =
    let p1 = none_first 1 _ _ (omega arith) h in
    let p2 = none_first 2 _ _ (omega arith) p1.1 in
    let p3 = none_first 3 _ _ (omega arith) p2.1 in
    let p4 = none_first 4 _ _ (omega arith) p3.1 in
    let p5 = none_first 5 _ _ (omega arith) p4.1 in
    let p6 = none_first 6 _ _ (omega arith) p5.1 in
    let p7 = none_first 7 _ _ (omega arith) p6.1 in
    let p8 = none_first 8 _ _ (omega arith) p7.1 in
    let p16 = none_first 16 _ _ (omega arith) p8.1 in
    let l1 = not-false _ p2.0 in
    let l2 = rest_hold _ _ l1 in
    let l3 = rest_hold _ _ l2 in
    let l4 = rest_hold _ _ l3 in
    let l5 = rest_hold _ _ l4 in
    let l6 = rest_hold _ _ l5 in
    record {
      order = not-false _ p1.0;
      node = omega (arith, zarith, head_holds _ _ l1);
      below = λ e. omega (arith, zarith, head_holds _ _ l1);
      parent = omega (arith, zarith, head_holds _ _ l2);
      sorts = head_holds _ _ l3;
      kinds = head_holds _ _ l4;
      within = head_holds _ _ l5;
      deep = head_holds _ _ l6;
      ports = head_holds _ _ (rest_hold _ _ l6);
      unused = p4.0;
      there = not-false _ p3.0;
      no_client = p5.0;
      levels = λ class last. true_false (holds_with _ _ (eq-eqb (plus sort) 1 class) (holds_with _ _ (eq-eqb ((tree_of t).level (plus parent)) last_class_level last) none_left)) p6.0;
      shares = ltb-false whole_share _ p7.0;
      depths = ltb-false _ _ p8.0;
      stated = stated_of _ (not-false _ p16.0);
    }

-- Of two tests that do not both hold, the second fails where the first holds.
second_fails : (a b : Bool) → every (a ∷ b ∷ []) ≡ false → a ≡ true → b ≡ false
unfolding every
second_fails true true h e = h
second_fails true false h e = refl
second_fails false b h e = absurd (true_false e refl)

-- Leave, of node k.
pub record LeavePassed (t : List ℤ) (k : ℕ) : Type 0 where
  pub order : in_order t ≡ true
  pub node : k < nodes
  pub there : there (tree_of t) k ≡ true
  pub below : k ≡ 0 → ⊥
  pub childless : childless (tree_of t) k ≡ true
  pub idle : waiting t k ≡ 0
  pub no_debt : is_class (tree_of t) k ≡ true → minus (balance t k) ≡ 0

pub leave_passed : (t : List ℤ) (node : ℤ) → leave_refusal t node ≡ 0 → LeavePassed t (plus node)
unfolding leave_refusal plus minus
leave_passed t node h =
    let p1 = none_first 1 _ _ (omega arith) h in
    let p2 = none_first 2 _ _ (omega arith) p1.1 in
    let p3 = none_first 3 _ _ (omega arith) p2.1 in
    let p5 = none_first 5 _ _ (omega arith) p3.1 in
    let p9 = none_first 9 _ _ (omega arith) p5.1 in
    let p10 = none_first 10 _ _ (omega arith) p9.1 in
    let inside : within_ℤ 0 last_node node ≡ true = not-false _ p2.0 in
    record {
      order = not-false _ p1.0;
      node = omega (arith, zarith);
      there = not-false _ p3.0;
      below = eqb-false (plus node) 0 p5.0;
      childless = not-false _ (or_false_left (not (childless (tree_of t) (plus node))) (ltb 0 (waiting t (plus node))) p9.0);
      idle = omega (arith, ltb-false 0 (waiting t (plus node)) (or_false_right (not (childless (tree_of t) (plus node))) (ltb 0 (waiting t (plus node))) p9.0));
      no_debt = λ class.
          let not_low = second_fails _ _ p10.0 class in
          omega (arith, zarith, one_is_zero (balance t (plus node)));
    }

-- Change share, of node k.
pub record ChangeSharePassed (t : List ℤ) (k : ℕ) (kind share : ℤ) : Type 0 where
  pub order : in_order t ≡ true
  pub node : k < nodes
  pub kinds : within_ℤ fixed stated kind ≡ true
  pub within : within_ℤ 1 (share_limit (plus kind)) share ≡ true
  pub there : there (tree_of t) k ≡ true
  pub below : k ≡ 0 → ⊥
  pub shares : fixed_sum (tree_of (reshared t k kind share)) ((tree_of t).parent k) ≤ whole_share
  pub stated : Stated (reshared t k kind share)

pub change_share_passed : (t : List ℤ) (node kind share : ℤ) → change_share_refusal t node kind share ≡ 0 → ChangeSharePassed t (plus node) kind share
unfolding change_share_refusal change_share_limits shares_above stated_wrong
change_share_passed t node kind share h =
    let p1 = none_first 1 _ _ (omega arith) h in
    let p2 = none_first 2 _ _ (omega arith) p1.1 in
    let p3 = none_first 3 _ _ (omega arith) p2.1 in
    let p5 = none_first 5 _ _ (omega arith) p3.1 in
    let p7 = none_first 7 _ _ (omega arith) p5.1 in
    let p16 = none_first 16 _ _ (omega arith) p7.1 in
    let limits = not-false _ p2.0 in
    let limits' = rest_hold _ _ limits in
    record {
      order = not-false _ p1.0;
      node = omega (arith, zarith, head_holds _ _ limits);
      kinds = head_holds _ _ limits';
      within = head_holds _ _ (rest_hold _ _ limits');
      there = not-false _ p3.0;
      below = eqb-false (plus node) 0 p5.0;
      shares = ltb-false whole_share _ p7.0;
      stated = stated_of _ (not-false _ p16.0);
    }

-- Change rate.
pub record ChangeRatePassed (t : List ℤ) (rate : ℤ) : Type 0 where
  pub order : in_order t ≡ true
  pub within : within_ℤ 1 greatest_rate rate ≡ true
  pub stated : Stated (put t root rate_at rate)

pub change_rate_passed : (t : List ℤ) (rate : ℤ) → change_rate_refusal t rate ≡ 0 → ChangeRatePassed t rate
unfolding change_rate_refusal stated_wrong
change_rate_passed t rate h =
    let p1 = none_first 1 _ _ (omega arith) h in
    let p2 = none_first 2 _ _ (omega arith) p1.1 in
    let p16 = none_first 16 _ _ (omega arith) p2.1 in
    record { order = not-false _ p1.0; within = not-false _ p2.0; stated = stated_of _ (not-false _ p16.0) }

-- Request, of client k.
pub record RequestPassed (t : List ℤ) (k : ℕ) (size : ℤ) : Type 0 where
  pub order : in_order t ≡ true
  pub node : k < nodes
  pub least : le_z (pos 1) size ≡ true
  pub there : there (tree_of t) k ≡ true
  pub no_class : is_class (tree_of t) k ≡ false
  pub cost : cost (plus size) ≤ (tree_of t).depth k
  pub room : waiting t k ≡ most_waiting → ⊥
  pub numbers : count t ≡ greatest_count → ⊥

pub request_passed : (t : List ℤ) (node tag size : ℤ) → request_refusal t node tag size ≡ 0 → RequestPassed t (plus node) size
unfolding request_refusal request_limits
request_passed t node tag size h =
    let p1 = none_first 1 _ _ (omega arith) h in
    let p2 = none_first 2 _ _ (omega arith) p1.1 in
    let p3 = none_first 3 _ _ (omega arith) p2.1 in
    let p5 = none_first 5 _ _ (omega arith) p3.1 in
    let p8 = none_first 8 _ _ (omega arith) p5.1 in
    let p11 = none_first 11 _ _ (omega arith) p8.1 in
    let p12 = none_first 12 _ _ (omega arith) p11.1 in
    let limits : request_limits node size ≡ true = not-false _ p2.0 in
    record {
      order = not-false _ p1.0;
      node = omega (arith, zarith, head_holds _ _ limits);
      least = head_holds _ _ (rest_hold _ _ limits);
      there = not-false _ p3.0;
      no_class = p5.0;
      cost = omega (arith, ltb-false ((tree_of t).depth (plus node)) _ p8.0);
      room = eqb-false (waiting t (plus node)) most_waiting p11.0;
      numbers = eqb-false (count t) greatest_count p12.0;
    }
