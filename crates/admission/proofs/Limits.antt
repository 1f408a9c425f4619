-- Arguments within their limits are the natural numbers that they are read as.
use mathlib.Core.Path.{◌≡◌, ap, ◌∙◌}
use mathlib.Core.Bool.{true}
use mathlib.Core.List.{List}
use native.Mathlib.Omega.{arith}
use borrow.Author.Tests.{not-false}
use lib.IntN.{ℤ, pos}
use Rattle.numbers.specs.Whole.{plus, within_ℤ}
use Rattle.numbers.proofs.Every.{head_holds, rest_hold}
use Rattle.numbers.proofs.Parts.{zarith, pos_of_within}
use Rattle.definitions.specs.Limits.{last_node, balance_at, class, client, fixed, stated, greatest_depth, share_limit, port_limit}
use Rattle.definitions.specs.Order.{in_order}
use Rattle.definitions.specs.Tree.{tree_of}
use Rattle.definitions.specs.Calls.{join_limits, join_refusal}
use Rattle.definitions.proofs.Facts.{facts}
use Rattle.definitions.proofs.Refusals.{none_first}
use Rattle.definitions.proofs.ShareKinds.{limit_le}
use Rattle.definitions.proofs.Ports.{limit_second}
use Rattle.definitions.proofs.Passed.{long, join_passed}
use Rattle.treelaws.specs.Joins.{Join, limits_of, refusal_of}
use Rattle.admission.specs.declared.NewNode.{NewNode}
use Rattle.admission.specs.NewNodes.{Natural, join_of, Limited, Judged, Writable}

-- Each limit by itself.
record Within (j : Join) : Type 0 where
  node : within_ℤ 1 last_node j.node ≡ true
  parent : within_ℤ 0 last_node j.parent ≡ true
  sort : within_ℤ class client j.sort ≡ true
  kind : within_ℤ fixed stated j.kind ≡ true
  share : within_ℤ 1 (share_limit (plus j.kind)) j.share ≡ true
  depth : within_ℤ 1 greatest_depth j.depth ≡ true
  port : within_ℤ 0 (port_limit (plus j.sort)) j.port ≡ true

within : (j : Join) → limits_of j ≡ true → Within j
unfolding limits_of join_limits
within j l1 =
    let l2 = rest_hold _ _ l1 in
    let l3 = rest_hold _ _ l2 in
    let l4 = rest_hold _ _ l3 in
    let l5 = rest_hold _ _ l4 in
    let l6 = rest_hold _ _ l5 in
    record {
      node = head_holds _ _ l1;
      parent = head_holds _ _ l2;
      sort = head_holds _ _ l3;
      kind = head_holds _ _ l4;
      share = head_holds _ _ l5;
      depth = head_holds _ _ l6;
      port = head_holds _ _ (rest_hold _ _ l6);
    }

limited : (n : NewNode) (j : Join) → Natural n j → limits_of j ≡ true → Limited n
limited n j same h = let w = within j h in omega (arith, zarith, limit_le (plus j.kind), limit_second (plus j.sort))

pub as_asked : (n : NewNode) (j : Join) → Natural n j → limits_of j ≡ true → join_of n ≡ j
unfolding join_of
as_asked n j same h =
    let w = within j h in
    rw (
      ap pos same.node ∙ pos_of_within _ _ j.node w.node,
      ap pos same.parent ∙ pos_of_within _ _ j.parent w.parent,
      ap pos same.sort ∙ pos_of_within _ _ j.sort w.sort,
      ap pos same.kind ∙ pos_of_within _ _ j.kind w.kind,
      ap pos same.share ∙ pos_of_within _ _ j.share w.share,
      ap pos same.depth ∙ pos_of_within _ _ j.depth w.depth,
      ap pos same.port ∙ pos_of_within _ _ j.port w.port,
    )

pub judged : (t : List ℤ) (n : NewNode) (j : Join) → Natural n j → in_order t ≡ true → limits_of j ≡ true → Judged t n
judged t n j same o h =
    record { order = o; long = long t o; within = ap limits_of (as_asked n j same h) ∙ h; limits = limited n j same h }

-- An accepted join asks for a node whose record can be written.
pub accepted_limits : (t : List ℤ) (j : Join) → refusal_of t j ≡ 0 → limits_of j ≡ true
unfolding refusal_of join_refusal limits_of
accepted_limits t j h =
    let p1 = none_first 1 _ _ (omega arith) h in
    not-false _ (none_first 2 _ _ (omega arith) p1.1).0

pub writable : (t : List ℤ) (n : NewNode) (j : Join) → Natural n j → refusal_of t j ≡ 0 → Writable t n
unfolding refusal_of tree_of
writable t n j same h =
    let p = join_passed t _ _ _ _ _ _ _ h in
    let f = facts t p.order in
    let level = (f.limits _ p.parent p.there).level in
    record {
      long = f.long;
      limits = limited n j same (accepted_limits t j h);
      level = rw same.parent (omega (arith, zarith));
      balance = rw same.node (f.empty _ p.node p.unused balance_at (omega arith));
    }
