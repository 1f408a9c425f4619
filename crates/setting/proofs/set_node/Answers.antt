use Rattle.std.proofs.Common.{ap, ◌∙◌, ℕ, ℤ, List, pos, get_or, arith}
use Rattle.definitions.specs.Limits.{kind_at, share_at}
use Rattle.definitions.specs.Places.{put}
use Rattle.definitions.specs.Tree.{tree_of}
use Rattle.definitions.specs.Calls.{reshared}
use Rattle.setting.proofs.set_node.Goals as goal

pub put_natural-requires : goal.put_natural-requires
unfolding tree_of
put_natural-requires c = (c.requires.0, omega arith, omega (arith, c.natural-kind.ensures))

pub returns : goal.returns
unfolding reshared tree_of
returns c =
    let k = c.args.k in
    let share : ℤ = pos (get_or c.args.shares.now k 0) in
    c.put_natural-2.ensures
    ∙ ap (λ (u : List ℤ). put u k share_at share) c.put_natural.ensures
    ∙ ap (λ (n : ℕ). put (put c.args.table.now k kind_at (pos n)) k share_at share) c.natural-kind.ensures
