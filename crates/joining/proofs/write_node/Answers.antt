-- Writing balance 0 changes nothing, since it is 0 already; then seven places.
use Rattle.std.proofs.Common.{◌≡◌, ◌∙◌, ℕ, ℤ, List, suc, refl, sym, ap, add-one, arith}
use lib.IntN.{pos}
use Rattle.numbers.specs.Whole.{plus}
use Rattle.definitions.specs.Limits.{sort_at, parent_at, level_at, kind_at, share_at, depth_at, port_at, balance_at}
use Rattle.definitions.specs.Places.{place, put}
use Rattle.definitions.specs.Tree.{tree_of}
use Rattle.definitions.specs.Calls.{joined}
use Rattle.definitions.proofs.Places.{put_then, put_same}
use Rattle.treelaws.specs.Joins.{joined_by}
use Rattle.admission.specs.NewNodes.{join_of}
use Rattle.joining.proofs.write_node.Goals as goal

-- What stands there already is written.
unwritten : (k p : ℕ) {s u : List ℤ} {v : ℤ} → s ≡ put u k p v → place u k p ≡ v → s ≡ u
unwritten k p {u = u} e h = e ∙ ap (put u k p) (sym h) ∙ put_same u k p

pub overflow_add-level : goal.overflow_add-level
unfolding tree_of
overflow_add-level c = omega arith

pub put_natural-requires-4 : goal.put_natural-requires-4
unfolding tree_of
put_natural-requires-4 c = omega arith

pub returns : goal.returns
unfolding joined_by joined join_of tree_of plus
returns c =
    let k = c.args.new.node in
    put_then k port_at c.put_natural-8.ensures refl
    (put_then k depth_at c.put_natural-7.ensures refl
    (put_then k share_at c.put_natural-6.ensures refl
    (put_then k kind_at c.put_natural-5.ensures refl
    (put_then k level_at c.put_natural-4.ensures (ap pos (add-one _ ∙ ap suc c.natural-level.ensures))
    (put_then k parent_at c.put_natural-3.ensures refl
    (put_then k sort_at c.put_natural-2.ensures refl
    (unwritten k balance_at c.put_natural.ensures c.requires.balance)))))))
