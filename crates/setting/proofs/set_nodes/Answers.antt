use Rattle.std.proofs.Common.{◌≡◌, ap, ◌∙◌, ℕ, pos, arith}
use Rattle.numbers.specs.Below.{for_below}
use Rattle.numbers.proofs.Steps.{for_first, turned}
use Rattle.definitions.specs.Limits.{nodes}
use Rattle.definitions.specs.Tree.{tree_of}
use Rattle.definitions.specs.Calls.{reshared}
use Rattle.hourlaws.specs.Windows.{share_in, tree_at}
use Rattle.hourlaws.specs.SetMinute.{reshared_as}
use Rattle.setting.proofs.set_nodes.Goals as goal

pub loop-k-init : goal.loop-k-init
loop-k-init c = (c.shares_at.ensures, for_first _ _)

pub loop-k-preserved : goal.loop-k-preserved
loop-k-preserved c =
    let at = c.loop-k in
    let tree = tree_of c.args.plan.now in
    let share = at.invariant.0 at.k (omega arith) in (
      at.invariant.0,
      turned at.k (λ j u. reshared u j (pos (tree.kind j)) (pos (share_in tree c.args.windows.now c.args.m j))) c.args.table.now _ _ at.invariant.1
          (c.set_node.ensures ∙ ap (λ (n : ℕ). reshared at.table at.k (pos (tree.kind at.k)) (pos n)) share),
    )

pub returns : goal.returns
unfolding reshared_as tree_at
returns c =
    let tree = tree_of c.args.plan.now in
    let end : c.loop-k.k ≡ nodes = omega arith in
    c.loop-k.invariant.1
    ∙ ap (λ (n : ℕ). for_below n (λ j u. reshared u j (pos (tree.kind j)) (pos (share_in tree c.args.windows.now c.args.m j))) c.args.table.now) end
