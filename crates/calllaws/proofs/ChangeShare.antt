-- Change share keeps a table in order: it writes a node's kind and share, which are within their limits by cause 2. Only the
-- shares under the node's parent change: the fixed ones are within 10,000 by cause 7, and the stated rates are in order by
-- cause 16.
use Prim.Native.Nat.{ℕ, ◌+◌, ◌≤◌, ◌<◌}
use mathlib.Core.Path.{◌≡◌, sym, ap, ◌∙◌}
use mathlib.Core.Bool.{true}
use mathlib.Core.List.{List}
use native.Mathlib.Omega.{arith}
use native.Mathlib.Decide.{ℕ_discrete}
use lib.IntN.{ℤ}
use Rattle.numbers.specs.Whole.{plus, minus, within_ℤ}
use Rattle.numbers.proofs.Tests.{true_false}
use Rattle.definitions.specs.Limits.{record_length, nodes, sort_at, parent_at, level_at, kind_at, share_at, depth_at, balance_at, waiting_at, port_at, arrival_at, fixed, stated, whole_share, share_limit}
use Rattle.definitions.specs.Places.{queue_place, place, count, balance, waiting, arrival}
use Rattle.definitions.specs.Tree.{tree_of, there, child_of, count_if}
use Rattle.definitions.specs.Rates.{fixed_sum, renewed}
use Rattle.definitions.specs.Order.{in_order}
use Rattle.definitions.specs.Calls.{reshared, change_share_refusal, change_share_table}
use Rattle.definitions.proofs.Facts.{Child, Class, Stated, facts}
use Rattle.definitions.proofs.Edits.{Edited, reshared_edit, reshared_node, reshared_rest}
use Rattle.definitions.proofs.Passed.{change_share_passed}
use Rattle.treelaws.specs.Renewal.{RenewsAll}
use Rattle.calllaws.proofs.Nodes.{Ready, ready, Sums, node_limited, child_kept, most_waiting_law}
use Rattle.calllaws.proofs.OneNode.{child_same, no_child, count_same, kinds_fall, depths_changed, balances_changed, edited_ready}
use Rattle.calllaws.proofs.OneChild.{ways_before, renews_below_parent}
use Rattle.calllaws.proofs.Ready.{ready_renewed, kept_in_order}

-- A table that differs in the kind and share of node k.
module _ (t u : List ℤ) (k : ℕ) (f : ℕ → ℤ) (hk : k < nodes) (edited : Edited t u k f) (rest : (j p : ℕ) → p < record_length → (p ≡ kind_at → ⊥) → (p ≡ share_at → ⊥) → place u j p ≡ place t j p) where
  -- Sorts, parents and levels stay.
  stays : (j p : ℕ) → p < kind_at → plus (place u j p) ≡ plus (place t j p)
  stays j p hp = ap plus (rest j p (omega arith) (omega arith) (omega arith))

  same_child : (j : ℕ) → Child (tree_of t) j → Child (tree_of u) j
  unfolding tree_of
  same_child j = child_kept (tree_of u) (tree_of t) j (stays j parent_at (omega arith)) (stays j level_at (omega arith)) (stays _ sort_at (omega arith)) (stays _ level_at (omega arith))

  same_children : (c : ℕ) → child_of (tree_of u) c k ≡ child_of (tree_of t) c k
  unfolding tree_of
  same_children c = child_same (tree_of u) (tree_of t) c k (stays k sort_at (omega arith)) (stays k parent_at (omega arith))

  same_part : (part : ℤ → ℕ) (c : ℕ) → count_if (child_of (tree_of u) c k) (λ j. part (balance u j)) k ≡ count_if (child_of (tree_of t) c k) (λ j. part (balance t j)) k
  unfolding balance
  same_part part c = count_same _ _ (λ j. part (balance u j)) (λ j. part (balance t j)) k (same_children c) (ap part (rest k balance_at (omega arith) (omega arith) (omega arith)))

  same_depth : (c : ℕ) → count_if (child_of (tree_of u) c k) (tree_of u).depth k ≡ count_if (child_of (tree_of t) c k) (tree_of t).depth k
  unfolding tree_of
  same_depth c = count_same _ _ (tree_of u).depth (tree_of t).depth k (same_children c) (ap plus (rest k depth_at (omega arith) (omega arith) (omega arith)))

  -- Under another class than the parent nothing changes.
  other_shares : (c : ℕ) → (c ≡ (tree_of t).parent k → ⊥) → Class t c → fixed_sum (tree_of u) c ≤ whole_share
  other_shares c ne class =
      let none = no_child (tree_of t) c k (λ child. ne (sym child.parent)) in
      omega (arith, class.shares, kinds_fall t u k f hk edited fixed c (same_children c ∙ none))

  share_sums_law : fixed_sum (tree_of u) ((tree_of t).parent k) ≤ whole_share → (c : ℕ) → Class t c → Sums t u c
  share_sums_law within c class =
      record {
        shares = elim (ℕ_discrete c ((tree_of t).parent k)) [ yes e ↦ rw e within | no ne ↦ other_shares c ne class ];
        depths = omega (arith, class.depths, depths_changed t u k f hk edited c, same_depth c);
        balances = balances_changed t u k f hk edited c (omega (arith, same_part plus c, same_part minus c));
      }

  share_ready : (k ≡ 0 → ⊥) → there (tree_of t) k ≡ true → within_ℤ fixed stated (place u k kind_at) ≡ true → within_ℤ 1 (share_limit (plus (place u k kind_at))) (place u k share_at) ≡ true → fixed_sum (tree_of u) ((tree_of t).parent k) ≤ whole_share → Stated u → Ready t → Ready u
  unfolding count waiting arrival
  share_ready below here kind share within rates r =
      edited_ready t u k f hk edited below
      (ap plus (rest k waiting_at (omega arith) (omega arith) (omega arith)))
      (λ i hi. ap plus (rest k (queue_place i + arrival_at) (omega (arith, most_waiting_law t k (r.node k hk))) (omega arith) (omega arith)))
      (λ j hj ne e root. same_child j)
      (λ c hc ne e. share_sums_law within c ((r.node c hc).class e))
      (node_limited t u k (omega (arith, ap plus (edited.heading 0 (omega arith))))
      (λ p hp ne3 ne4 ne6. rest k p hp ne3 ne4)
      (λ e. absurd (true_false here e))
      (λ e.
      let old = (r.node k hk).limits e in
      record {
        sort = rw (rest k sort_at (omega arith) (omega arith) (omega arith)) old.sort;
        parent = rw (rest k parent_at (omega arith) (omega arith) (omega arith)) old.parent;
        level = rw (rest k level_at (omega arith) (omega arith) (omega arith)) old.level;
        kind = kind;
        share = share;
        depth = rw (rest k depth_at (omega arith) (omega arith) (omega arith)) old.depth;
        waiting = rw (rest k waiting_at (omega arith) (omega arith) (omega arith)) old.waiting;
        port = rw (rest k sort_at (omega arith) (omega arith) (omega arith), rest k port_at (omega arith) (omega arith) (omega arith)) old.port;
      })
      (λ e root. same_child k)
      (λ e. share_sums_law within k ((r.node k hk).class e))
      (r.node k hk))
      rates
      r

changed : (t : List ℤ) (node kind share : ℤ) → change_share_refusal t node kind share ≡ 0 → in_order (renewed (reshared t (plus node) kind share)) ≡ true
changed t node kind share h =
    let passed = change_share_passed t node kind share h in
    let r = ready t (facts t passed.order) in
    let e = reshared_edit t (plus node) kind share r.long passed.node in
    ready_renewed (reshared t (plus node) kind share)
    (share_ready t _ (plus node) _ passed.node e (reshared_rest t (plus node) kind share r.long passed.node) passed.below passed.there
    (rw (e.here kind_at (omega arith)) passed.kinds)
    (rw (e.here kind_at (omega arith), e.here share_at (omega arith)) passed.within)
    passed.shares
    passed.stated
    r)

-- Renewing below the parent renews everything.
pub change_share_renews_below : (t : List ℤ) (node kind share : ℤ) → change_share_refusal t node kind share ≡ 0 → RenewsAll (reshared t (plus node) kind share) ((tree_of t).parent (plus node))
change_share_renews_below t node kind share h =
    let passed = change_share_passed t node kind share h in
    let order = facts t passed.order in
    renews_below_parent t _ (plus node) _ passed.node (reshared_edit t (plus node) kind share order.long passed.node) passed.below order
    (ways_before _ (changed t node kind share h))
    passed.there
    (λ e. (reshared_node t (plus node) kind share order.long passed.node).parent)

-- Accepted or not, and accepted.
pub change_share_keeps_order : (t : List ℤ) (node kind share : ℤ) → in_order t ≡ true → in_order (change_share_table t node kind share) ≡ true
unfolding change_share_table
change_share_keeps_order t node kind share =
    kept_in_order (change_share_refusal t node kind share) (renewed (reshared t (plus node) kind share)) t (changed t node kind share)

pub change_share_keeps : (t : List ℤ) (node kind share : ℤ) → change_share_refusal t node kind share ≡ 0 → in_order (change_share_table t node kind share) ≡ true
change_share_keeps t node kind share h = change_share_keeps_order t node kind share (change_share_passed t node kind share h).order
