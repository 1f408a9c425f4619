-- Change rate keeps a table in order: it writes the root's rate, which is within its limits by cause 2, and no less than the
-- stated rates by cause 16.
use mathlib.Core.Path.{◌≡◌, sym, ap, ◌∙◌}
use mathlib.Core.Bool.{true, not}
use mathlib.Core.List.{List}
use native.Mathlib.Omega.{arith}
use borrow.Author.Tests.{ltb-true, ltb-false, not-true}
use lib.Dec.{ltb}
use lib.IntN.{ℤ}
use Rattle.numbers.specs.Whole.{plus, within_ℤ}
use Rattle.numbers.proofs.Tests.{by_test, same_truth, true_false}
use Rattle.numbers.proofs.Parts.{zarith, pos_of_within}
use Rattle.definitions.specs.Limits.{rate_at, root, greatest_rate}
use Rattle.definitions.specs.Places.{put, rate as rate_of}
use Rattle.definitions.specs.Tree.{Tree, tree_of, there}
use Rattle.definitions.specs.Rates.{stated_sum, renewed}
use Rattle.definitions.specs.Order.{stated_in_order, in_order}
use Rattle.definitions.specs.Calls.{stated_wrong, change_rate_refusal, change_rate_table}
use Rattle.definitions.proofs.Facts.{InOrder, Stated, facts, of_stated_law, stated_of}
use Rattle.definitions.proofs.Places.{length_put, header_put, place_put_same, place_put_node, place_put_place}
use Rattle.treelaws.proofs.Renewed.{same_tree_law}
use Rattle.treelaws.specs.Renewal.{RenewsAll}
use Rattle.treelaws.proofs.Below.{renewed_by_root}
use Rattle.definitions.proofs.Passed.{change_rate_passed}
use Rattle.calllaws.proofs.Nodes.{Ready, ready, root_kept}
use Rattle.calllaws.proofs.Ready.{ready_but_rates, ready_renewed, root_there, kept_in_order}
use Rattle.calllaws.proofs.OneChild.{ways_before}

-- The tree stays.
pub rerated_tree : (t : List ℤ) (rate : ℤ) → tree_of (put t root rate_at rate) ≡ tree_of t
rerated_tree t rate = same_tree_law (put t root rate_at rate) t (λ k p hp. place_put_place t root rate_at rate k p (omega arith) (omega arith) (omega arith))

rerated_ready : (t : List ℤ) (rate : ℤ) → Ready t → within_ℤ 1 greatest_rate rate ≡ true → Stated (put t root rate_at rate) → Ready (put t root rate_at rate)
rerated_ready t rate f within stated =
    ready_but_rates t (put t root rate_at rate) f (length_put t root rate_at rate ∙ f.long) (header_put t root rate_at rate)
    (λ j.
    record {
      places = λ p hp ne. place_put_place t root rate_at rate j p (omega arith) hp ne;
      unused = λ e. place_put_node t root rate_at rate j rate_at (omega arith) (omega arith) (λ same. true_false (root_there t f.root) (rw same at e));
    })
    (rerated_tree t rate)
    (root_kept t (put t root rate_at rate) (λ p hp. place_put_place t root rate_at rate 0 p (omega arith) (omega arith) (omega arith))
    (rw (place_put_same t root rate_at rate f.long (omega arith) (omega arith)) within) f.root)
    stated

-- Cause 16 from the table as it came: the stated rates stay.
pub stated_rerated : (t : List ℤ) (rate : ℤ) → InOrder t → stated_wrong (put t root rate_at rate) ≡ ltb (plus rate) (stated_sum (tree_of t) root)
unfolding stated_wrong rate_of
stated_rerated t rate o =
    let tree = rerated_tree t rate in
    let disk : rate_of (put t root rate_at rate) root ≡ plus rate = ap plus (place_put_same t root rate_at rate o.long (omega arith) (omega arith)) in
    let sum : stated_sum (tree_of (put t root rate_at rate)) root ≡ stated_sum (tree_of t) root = ap (λ (tree : Tree). stated_sum tree root) tree in
    same_truth _ _
    (λ h.
    by_test (ltb (plus rate) (stated_sum (tree_of t) root)) (λ y. y)
    (λ n. absurd (true_false (of_stated_law _ (record { under = rw tree o.stated.under; fits = omega (arith, ltb-false (plus rate) _ n, sum, disk) })) (not-true _ h))))
    (λ h.
    by_test (stated_in_order (put t root rate_at rate))
    (λ e. absurd (omega (arith, ltb-true (plus rate) (stated_sum (tree_of t) root) h, (stated_of _ e).fits, sum, disk)))
    (λ e. ap not e))

changed : (t : List ℤ) (rate : ℤ) → change_rate_refusal t rate ≡ 0 → in_order (renewed (put t root rate_at rate)) ≡ true
changed t rate h =
    let passed = change_rate_passed t rate h in
    ready_renewed (put t root rate_at rate) (rerated_ready t rate (ready t (facts t passed.order)) passed.within passed.stated)

-- Renewing below the root renews everything.
pub change_rate_renews_below : (t : List ℤ) (rate : ℤ) → change_rate_refusal t rate ≡ 0 → RenewsAll (put t root rate_at rate) root
unfolding rate_of
change_rate_renews_below t rate h =
    let passed = change_rate_passed t rate h in
    let order = facts t passed.order in
    let written = place_put_same t root rate_at rate order.long (omega arith) (omega arith) in
    let here : there (tree_of (put t root rate_at rate)) root ≡ true = rw (rerated_tree t rate) (root_there t order.root) in
    record {
      low = omega arith;
      there = here;
      small = omega (arith, zarith, ap plus written, passed.within);
      all =
          renewed_by_root (put t root rate_at rate) (length_put t root rate_at rate ∙ order.long) (ways_before _ (changed t rate h)) here
          (rw written (sym (pos_of_within 1 greatest_rate rate passed.within)));
    }

-- Accepted or not, and accepted.
pub change_rate_keeps_order : (t : List ℤ) (rate : ℤ) → in_order t ≡ true → in_order (change_rate_table t rate) ≡ true
unfolding change_rate_table
change_rate_keeps_order t rate = kept_in_order (change_rate_refusal t rate) (renewed (put t root rate_at rate)) t (changed t rate)

pub change_rate_keeps : (t : List ℤ) (rate : ℤ) → change_rate_refusal t rate ≡ 0 → in_order (change_rate_table t rate) ≡ true
change_rate_keeps t rate h = change_rate_keeps_order t rate (change_rate_passed t rate h).order
