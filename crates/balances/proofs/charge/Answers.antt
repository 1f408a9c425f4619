use Rattle.std.proofs.Common.{◌≡◌, ◌+◌, ◌-◌, arith, sym, ap, ◌∙◌}
use Rattle.definitions.specs.Tree.{tree_of}
use Rattle.definitions.specs.Tick.{charge}
use Rattle.balances.proofs.Charged.{chargeable_first, chargeable_next, chargeable_parent, charge_last, charge_above}
use Rattle.balances.proofs.charge.Goals as goal

pub loop-init : goal.loop-init
unfolding tree_of
loop-init c = record {
  low = c.requires.1;
  able = chargeable_first _ c.requires.0 _ _ c.requires.2 (omega (arith, c.requires.0.level _ c.requires.1));
  left = ap (λ l. charge c.args.table.now c.args.amount l c.args.s) (omega arith);
}

pub loop-preserved : goal.loop-preserved
unfolding tree_of
loop-preserved c =
    let more : c.natural-level.result - c.loop.counter ≡ c.natural-level.result - (c.loop.counter + 1) + 1 = omega arith in
    record {
      low = omega (arith, chargeable_parent _ _ _ _ c.requires.0 c.loop.invariant.able _ c.loop.invariant.low);
      able = rw c.lower.ensures (chargeable_next _ _ _ _ _ c.loop.invariant.able more _ c.loop.invariant.low);
      left = rw (c.lower.ensures, c.natural-parent.ensures) (sym (charge_above _ _ _ _ _ more) ∙ c.loop.invariant.left);
    }

pub returns : goal.returns
returns c =
    c.lower-2.ensures ∙ sym (charge_last c.loop.table _ (c.natural-level.result - c.loop.counter) c.loop.node (omega arith)) ∙ c.loop.invariant.left
