use Rattle.std.proofs.Common.{◌≡◌, suc, ltb}
use Rattle.numbers.specs.Below.{all_below}
use Rattle.definitions.specs.Tree.{tree_of}
use Rattle.planformat.specs.Format.{plan_in}
use Rattle.planlaws.specs.Reading.{standing}
use Rattle.entering.proofs.rising.Given as goal

-- Whether the entries so far rise.
abbrev pub invariant-loop-i : goal.invariant-loop-i
invariant-loop-i l =
    l.ok ≡ all_below l.i (λ i. ltb (standing (tree_of l.table) ((plan_in l.view.bytes.now).entry i).node) (standing (tree_of l.table) ((plan_in l.view.bytes.now).entry (suc i)).node))
