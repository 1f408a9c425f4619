use Rattle.std.proofs.Common.{ℕ, suc, Bool, ◌||◌, eqb, ap, ap₂, ◌∙◌}
use Rattle.numbers.specs.Whole.{plus}
use Rattle.numbers.proofs.Every.{joined_as, same_tests, last_test}
use Rattle.definitions.specs.Limits.{level_at}
use Rattle.definitions.specs.Places.{place}
use Rattle.definitions.specs.Tree.{tree_of, is_class}
use Rattle.definitions.specs.Order.{parent_in_order}
use Rattle.records.proofs.parent_in_order.Goals as goal

pub returns : goal.returns
unfolding parent_in_order tree_of
returns c =
    let t = c.args.table.now in
    let parent = c.natural-parent.ensures in
    let above = c.natural-2.ensures ∙ ap (λ (p : ℕ). plus (place t p level_at)) parent in
    let class = c.is_class-class.ensures ∙ ap (is_class (tree_of t)) parent in
    let level = c.follows-level.ensures ∙ ap₂ (λ (n m : ℕ). eqb n (suc m)) c.natural.ensures above in
    ap (λ (b : Bool). eqb c.args.k 0 || b) (joined_as (same_tests class (last_test level)))
