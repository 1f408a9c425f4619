-- The node of the entry, and its level.
use Rattle.std.proofs.Common.{◌≡◌, ℕ, ap, ◌∙◌, arith}
use Rattle.definitions.specs.Tree.{tree_of}
use Rattle.planformat.specs.Format.{plan_in}
use Rattle.planlaws.specs.Reading.{standing}
use Rattle.entering.proofs.standing_of.Goals as goal

level : (c : goal.After-natural-level) → c.natural-level.result ≡ (tree_of c.args.table.now).level ((plan_in c.args.view.bytes.now).entry c.args.i).node
unfolding tree_of plan_in
level c = c.natural-level.ensures ∙ ap (λ (k : ℕ). (tree_of c.args.table.now).level k) c.entry-k.ensures.told.node

pub natural-level-requires : goal.natural-level-requires
unfolding plan_in
natural-level-requires c = (omega (arith, c.entry-k.ensures.told.node, c.requires.1), omega arith)

pub overflow_mul-result : goal.overflow_mul-result
overflow_mul-result c = omega (arith, level c)

pub overflow_add-result : goal.overflow_add-result
overflow_add-result c = omega (arith, level c, c.entry-k.ensures.small)

pub returns : goal.returns
unfolding standing plan_in
returns c = omega (arith, level c, c.entry-k.ensures.told.node)
