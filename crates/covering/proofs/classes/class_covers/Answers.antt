use Rattle.std.proofs.Common.{◌≡◌, ◌<◌, ℕ, ℤ, ◌+◌, Bool, true, List, leb, sym, ap, ap₂, ◌∙◌, arith}
use Rattle.numbers.proofs.Every.{joined_as, same_tests, last_test}
use Rattle.definitions.specs.Limits.{whole_share, nodes}
use Rattle.definitions.specs.Places.{balance}
use Rattle.definitions.specs.Tree.{tree_of, is_class}
use Rattle.treelaws.proofs.Children.{class_there}
use Rattle.records.specs.Record.{records_in_order}
use Rattle.records.proofs.Joined.{test_here, test_past}
use Rattle.records.proofs.Nodes.{node_at}
use Rattle.covering.specs.Cover.{class_covers}
use Rattle.covering.proofs.Small.{Small, small}
use Rattle.covering.proofs.classes.class_covers.Goals as goal

-- Past the first test the node is a class, and its numbers are small.
small_class : (t : List ℤ) (c : ℕ) {b : Bool} → records_in_order t ≡ true → c < nodes → b ≡ is_class (tree_of t) c → b ≡ true → Small t c
small_class t c h hc e class = small t c (node_at t h c hc (class_there _ _ (sym e ∙ class)))

pub returns-then-not-is_class : goal.returns-then-not-is_class
returns-then-not-is_class c = sym (test_past _ _ _ (sym c.is_class.ensures ∙ c.if-not-is_class.true))

pub overflow_add-needed : goal.overflow_add-needed
overflow_add-needed c =
    omega (arith, small_class _ _ c.requires.1 c.requires.0 c.is_class.ensures c.if-not-is_class.false)

pub overflow_add-covered : goal.overflow_add-covered
overflow_add-covered c =
    omega (arith, small_class _ _ c.requires.1 c.requires.0 c.is_class.ensures c.if-not-is_class.false)

pub depth_grains-requires : goal.depth_grains-requires
depth_grains-requires c =
    omega (arith, small_class _ _ c.requires.1 c.requires.0 c.is_class.ensures c.if-not-is_class.false)

pub overflow_add-covered-2 : goal.overflow_add-covered-2
overflow_add-covered-2 c =
    omega (arith, small_class _ _ c.requires.1 c.requires.0 c.is_class.ensures c.if-not-is_class.false)

pub returns : goal.returns
unfolding tree_of class_covers balance
returns c =
    let sums = c.requires.2 in
    let needed = ap₂ ◌+◌ sums.credits c.negative.ensures in
    let covered = ap₂ ◌+◌ (ap₂ ◌+◌ sums.debts c.natural.ensures) c.depth_grains.ensures in
    joined_as
    (same_tests (ap (λ (n : ℕ). leb n whole_share) sums.fixed)
    (same_tests (ap₂ leb sums.depths c.natural-depth.ensures)
    (same_tests (ap₂ leb needed covered)
    (last_test (ap₂ leb sums.stated c.stated_limit.ensures)))))
    ∙ sym (test_here _ (class_covers c.args.table.now) _ (sym c.is_class.ensures ∙ c.if-not-is_class.false))
