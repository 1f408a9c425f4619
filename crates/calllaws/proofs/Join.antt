-- Join keeps a table in order: the new node was unused, so it was nobody's parent, and it comes with balance 0. It adds only
-- to the sums under its parent, which causes 7, 8 and 16 tested on the table as the call leaves it.
use Prim.Native.Nat.{ℕ, suc, ◌+◌, ◌≤◌, ◌<◌}
use mathlib.Core.Path.{◌≡◌, sym, ap, ◌∙◌}
use mathlib.Core.Bool.{true, false, not}
use mathlib.Core.List.{List}
use native.Mathlib.Omega.{arith}
use native.Mathlib.Decide.{ℕ_discrete}
use borrow.Author.Tests.{eqb-true, ne_eqb}
use lib.IntN.{ℤ, pos}
use Rattle.numbers.specs.Whole.{plus, minus}
use Rattle.numbers.proofs.Tests.{true_false}
use Rattle.numbers.proofs.Parts.{zarith, plus_pos, minus_pos}
use Rattle.definitions.specs.Limits.{record_length, nodes, sort_at, parent_at, level_at, kind_at, share_at, depth_at, rate_at, balance_at, waiting_at, port_at, arrival_at, class, last_class_level}
use Rattle.definitions.specs.Places.{queue_place, place, balance, waiting, arrival}
use Rattle.definitions.specs.Tree.{tree_of, there, is_class, child_of}
use Rattle.definitions.specs.Rates.{renewed}
use Rattle.definitions.specs.Order.{in_order}
use Rattle.definitions.specs.Calls.{joined, join_refusal, join_table}
use Rattle.definitions.proofs.Facts.{Limits, Child, Class, facts}
use Rattle.definitions.proofs.Passed.{JoinPassed, join_passed}
use Rattle.treelaws.proofs.Children.{ChildOf, class_there, uncounted}
use Rattle.definitions.proofs.Edits.{Edited, SameNode, NodeIs, joined_place, joined_edit, joined_node, joined_others, joined_rest}
use Rattle.treelaws.specs.Renewal.{RenewsAll}
use Rattle.calllaws.proofs.Nodes.{Ready, ready, Sums, there_same, class_same, child_kept, most_waiting_law, client_or_class}
use Rattle.calllaws.proofs.OneNode.{no_child, count_zero, balances_changed, sums_fall, edited_ready}
use Rattle.calllaws.proofs.OneChild.{ways_before, renews_below}
use Rattle.calllaws.proofs.Fresh.{fresh_node}
use Rattle.calllaws.proofs.Ready.{ready_renewed, kept_in_order}

-- Node k joins under class c.
module _ (t : List ℤ) (k c : ℕ) (sort kind share depth port : ℤ) (passed : JoinPassed t k c sort kind share depth port) (r : Ready t) where
  edited : Edited t (joined t k c sort kind share depth port) k (joined_place t k c sort kind share depth port)
  edited = joined_edit t k c sort kind share depth port r.long passed.node

  rest : (j p : ℕ) → p < record_length → rate_at ≤ p → (p ≡ port_at → ⊥) → place (joined t k c sort kind share depth port) j p ≡ place t j p
  rest = joined_rest t k c sort kind share depth port r.long passed.node

  here : NodeIs (tree_of (joined t k c sort kind share depth port)) k (plus sort) c (suc ((tree_of t).level c)) (plus kind) (plus share) (plus depth)
  here = joined_node t k c sort kind share depth port r.long passed.node

  others : (j : ℕ) → (j ≡ k → ⊥) → SameNode (tree_of (joined t k c sort kind share depth port)) (tree_of t) j
  others = joined_others t k c sort kind share depth port r.long passed.node

  -- A class is not the new node.
  class_other : (j : ℕ) → is_class (tree_of t) j ≡ true → j ≡ k → ⊥
  class_other j class e = true_false (class_there (tree_of t) j class) (rw e passed.unused)

  parent_class : is_class (tree_of t) c ≡ true
  parent_class = client_or_class t c (r.node c passed.parent) passed.there passed.no_client

  parent_level : (tree_of t).level c ≤ last_class_level
  parent_level = ((r.node c passed.parent).class parent_class).level

  parent_same : SameNode (tree_of (joined t k c sort kind share depth port)) (tree_of t) c
  parent_same = others c (class_other c parent_class)

  -- The new node was unused, so it was no child and its places were zero.
  zeros : (p : ℕ) → p < record_length → rate_at ≤ p → (p ≡ port_at → ⊥) → place (joined t k c sort kind share depth port) k p ≡ pos 0
  zeros p hp low other = rest k p hp low other ∙ (r.node k passed.node).empty passed.unused p hp

  was_no_child : (a : ℕ) → child_of (tree_of t) a k ≡ false
  was_no_child a = no_child (tree_of t) a k (λ child. true_false child.there passed.unused)

  -- It has no children.
  childless : (j : ℕ) → j < nodes → ChildOf (tree_of (joined t k c sort kind share depth port)) k j → ⊥
  childless j hj child =
      elim (ℕ_discrete j k) [
        | yes e ↦ class_other c parent_class (sym here.parent ∙ ap (tree_of (joined t k c sort kind share depth port)).parent (sym e) ∙ child.parent)
        | no ne ↦
            class_other ((tree_of t).parent j)
            ((r.node j hj).child (sym (there_same (tree_of (joined t k c sort kind share depth port)) (tree_of t) j (others j ne).sort) ∙ child.there) child.below).class
            (sym (others j ne).parent ∙ child.parent)
      ]

  new_limits : Limits (joined t k c sort kind share depth port) k
  new_limits =
      record {
        sort = rw (edited.here sort_at (omega arith)) passed.sorts;
        parent = rw (edited.here parent_at (omega arith)) (omega (arith, zarith, passed.parent, plus_pos c, minus_pos c));
        level = rw (edited.here level_at (omega arith)) (omega (arith, zarith, parent_level, plus_pos (suc ((tree_of t).level c)), minus_pos (suc ((tree_of t).level c))));
        kind = rw (edited.here kind_at (omega arith)) passed.kinds;
        share = rw (edited.here kind_at (omega arith), edited.here share_at (omega arith)) passed.within;
        depth = rw (edited.here depth_at (omega arith)) passed.deep;
        waiting = rw (zeros waiting_at (omega arith) (omega arith) (λ e. omega arith)) (omega (arith, zarith, plus_pos 0, minus_pos 0));
        port = rw (edited.here sort_at (omega arith), edited.here port_at (omega arith)) passed.ports;
      }

  new_child : Child (tree_of (joined t k c sort kind share depth port)) k
  new_child =
      record {
        class = rw here.parent (class_same (tree_of (joined t k c sort kind share depth port)) (tree_of t) c parent_same.sort ∙ parent_class);
        level = rw (here.level, here.parent, parent_same.level);
      }

  new_there : there (tree_of (joined t k c sort kind share depth port)) k ≡ true
  unfolding there
  new_there = ap not (ne_eqb ((tree_of (joined t k c sort kind share depth port)).sort k) 0 (λ e. omega (arith, zarith, passed.sorts, here.sort)))

  new_level : is_class (tree_of (joined t k c sort kind share depth port)) k ≡ true → (tree_of (joined t k c sort kind share depth port)).level k ≤ last_class_level
  unfolding is_class
  new_level e =
      let class : plus sort ≡ class = sym here.sort ∙ eqb-true ((tree_of (joined t k c sort kind share depth port)).sort k) class e in
      let room : (tree_of t).level c ≡ last_class_level → ⊥ = passed.levels class in
      omega (arith, here.level, parent_level)

  -- The sums under the parent are as tested; those under another class stay.
  parent_sums : Sums t (joined t k c sort kind share depth port) c
  unfolding balance
  parent_sums =
      record {
        shares = passed.shares;
        depths = omega (arith, passed.depths, parent_same.depth);
        balances =
            balances_changed t _ k _ passed.node edited c
            (omega (
              arith,
              count_zero (child_of (tree_of (joined t k c sort kind share depth port)) c k) (λ j. plus (balance (joined t k c sort kind share depth port) j)) k (λ e. ap plus (zeros balance_at (omega arith) (omega arith) (λ e. omega arith)) ∙ plus_pos 0),
              uncounted (child_of (tree_of t) c k) (λ j. minus (balance t j)) k (was_no_child c),
            ));
      }

  other_sums : (a : ℕ) → (a ≡ c → ⊥) → Class t a → Sums t (joined t k c sort kind share depth port) a
  other_sums a ne =
      sums_fall t _ k _ passed.node edited a
      (no_child (tree_of (joined t k c sort kind share depth port)) a k (λ child. ne (sym child.parent ∙ here.parent)))
      (λ e. absurd (true_false e (was_no_child a)))

  joined_ready : Ready (joined t k c sort kind share depth port)
  unfolding waiting arrival
  joined_ready =
      edited_ready t _ k _ passed.node edited passed.below
      (ap plus (rest k waiting_at (omega arith) (omega arith) (λ e. omega arith)))
      (λ i hi. ap plus (rest k (queue_place i + arrival_at) (omega (arith, most_waiting_law t k (r.node k passed.node))) (omega arith) (λ e. omega arith)))
      (λ j hj ne e below child.
      let above = others ((tree_of t).parent j) (class_other ((tree_of t).parent j) child.class) in
      child_kept (tree_of (joined t k c sort kind share depth port)) (tree_of t) j (others j ne).parent (others j ne).level above.sort above.level child)
      (λ a ha ne e. elim (ℕ_discrete a c) [ yes same ↦ rw same parent_sums | no other ↦ other_sums a other ((r.node a ha).class e) ])
      (fresh_node _ k (λ p hp low other. zeros p hp (omega arith) other) childless new_there new_limits (λ ne. new_child) new_level)
      passed.stated
      r

entered : (t : List ℤ) (node parent sort kind share depth port : ℤ) → join_refusal t node parent sort kind share depth port ≡ 0 → in_order (renewed (joined t (plus node) (plus parent) sort kind share depth port)) ≡ true
entered t node parent sort kind share depth port h =
    let passed = join_passed t node parent sort kind share depth port h in
    ready_renewed _ (joined_ready t (plus node) (plus parent) sort kind share depth port passed (ready t (facts t passed.order)))

-- Renewing below the parent renews everything.
pub join_renews_below : (t : List ℤ) (node parent sort kind share depth port : ℤ) → join_refusal t node parent sort kind share depth port ≡ 0 → RenewsAll (joined t (plus node) (plus parent) sort kind share depth port) (plus parent)
join_renews_below t node parent sort kind share depth port h =
    let passed = join_passed t node parent sort kind share depth port h in
    let order = facts t passed.order in
    let r = ready t order in
    renews_below t _ (plus node) (plus parent) _ passed.node (edited t _ _ sort kind share depth port passed r) passed.below order
    (ways_before _ (entered t node parent sort kind share depth port h))
    (λ e. absurd (true_false e passed.unused))
    (λ e. (here t _ _ sort kind share depth port passed r).parent)
    passed.parent
    (λ same. true_false passed.there (rw same passed.unused))
    passed.there

-- Accepted or not, and accepted.
pub join_keeps_order : (t : List ℤ) (node parent sort kind share depth port : ℤ) → in_order t ≡ true → in_order (join_table t node parent sort kind share depth port) ≡ true
unfolding join_table
join_keeps_order t node parent sort kind share depth port =
    kept_in_order (join_refusal t node parent sort kind share depth port) (renewed (joined t (plus node) (plus parent) sort kind share depth port)) t (entered t node parent sort kind share depth port)

pub join_keeps : (t : List ℤ) (node parent sort kind share depth port : ℤ) → join_refusal t node parent sort kind share depth port ≡ 0 → in_order (join_table t node parent sort kind share depth port) ≡ true
join_keeps t node parent sort kind share depth port h =
    join_keeps_order t node parent sort kind share depth port (join_passed t node parent sort kind share depth port h).order
