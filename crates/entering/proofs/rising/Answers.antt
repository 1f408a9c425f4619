use Rattle.std.proofs.Common.{◌≡◌, ℕ, suc, ◌-◌, ltb, ap, ap₂, ◌∙◌, arith}
use native.Mathlib.Numerals.{add-one}
use Rattle.numbers.specs.Below.{all_below}
use Rattle.numbers.proofs.All.{all_grows}
use Rattle.definitions.specs.Tree.{tree_of}
use Rattle.planformat.specs.Format.{count_in, entry_in, plan_in}
use Rattle.planlaws.specs.Reading.{standing, rising}
use Rattle.entering.proofs.rising.Goals as goal

pub loop-i-preserved : goal.loop-i-preserved
loop-i-preserved c =
    let next = ap (λ (i : ℕ). standing (tree_of c.args.table.now) ((plan_in c.args.view.bytes.now).entry i).node) (add-one c.loop-i.i) in
    all_grows c.loop-i.i _ _ _ c.loop-i.invariant (ap₂ ltb c.standing_of-here.ensures (c.standing_of.ensures ∙ next))

pub returns : goal.returns
unfolding rising plan_in
returns c =
    let end : c.loop-i.i ≡ count_in c.args.view.bytes.now - 1 = omega (arith, c.args.view.views.counted, c.saturating_sub-i-end.ensures) in
    c.loop-i.invariant
    ∙ ap
    (λ (n : ℕ). all_below n (λ i. ltb (standing (tree_of c.args.table.now) (entry_in c.args.view.bytes.now i).node) (standing (tree_of c.args.table.now) (entry_in c.args.view.bytes.now (suc i)).node)))
    end
