use Rattle.std.proofs.Common.{ℕ, Bool, not, ◌||◌, eqb, leb, sym, ap, ap₂, ◌∙◌}
use Rattle.numbers.proofs.Every.{joined_as, same_tests, last_test}
use Rattle.definitions.specs.Limits.{last_class_level}
use Rattle.definitions.specs.Places.{waiting}
use Rattle.definitions.specs.Tree.{tree_of, is_class}
use Rattle.records.specs.Record.{class_placed}
use Rattle.records.proofs.Joined.{test_or}
use Rattle.records.proofs.class_placed.Goals as goal

pub returns : goal.returns
unfolding tree_of class_placed waiting
returns c =
    let t = c.args.table.now in
    let k = c.args.k in
    let level = ap (λ (n : ℕ). leb n last_class_level) c.natural-level.ensures in
    let idle = ap (λ (n : ℕ). eqb n 0) c.natural-idle.ensures in
    ap₂ (λ (b d : Bool). not b || d) c.is_class-class.ensures (joined_as (same_tests level (last_test idle)))
    ∙ sym (test_or (is_class (tree_of t) k) (class_placed t) k)
