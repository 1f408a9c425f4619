use Rattle.std.proofs.Common.{sym, ◌∙◌, arith}
use Rattle.numbers.proofs.Every.{head_fails, joined_as, same_tests, last_test}
use Rattle.records.specs.Record.{node_in_order}
use Rattle.records.proofs.Bounds.{bounds}
use Rattle.records.proofs.Joined.{every_past}
use Rattle.records.proofs.node_in_order.Goals as goal

pub returns-then-not-limits_kept : goal.returns-then-not-limits_kept
unfolding node_in_order
returns-then-not-limits_kept c = sym (head_fails _ _ (sym c.limits_kept.ensures ∙ c.if-not-limits_kept.true))

pub spare_in_order-spare-requires : goal.spare_in_order-spare-requires
spare_in_order-spare-requires c = omega (arith, bounds _ _ (sym c.limits_kept.ensures ∙ c.if-not-limits_kept.false))

pub parent_in_order-parent-requires : goal.parent_in_order-parent-requires
parent_in_order-parent-requires c = omega (arith, bounds _ _ (sym c.limits_kept.ensures ∙ c.if-not-limits_kept.false))

pub balance_within-balance-requires : goal.balance_within-balance-requires
balance_within-balance-requires c = omega (arith, bounds _ _ (sym c.limits_kept.ensures ∙ c.if-not-limits_kept.false))

pub returns : goal.returns
unfolding node_in_order
returns c =
    joined_as
    (same_tests c.spare_in_order-spare.ensures
    (same_tests c.parent_in_order-parent.ensures
    (same_tests c.class_placed-class.ensures
    (same_tests c.balance_within-balance.ensures
    (last_test c.place_within-rate.ensures)))))
    ∙ sym (every_past _ _ (sym c.limits_kept.ensures ∙ c.if-not-limits_kept.false))
