-- A client by the first test, a class by the sum of its children's rates. That sum is at most the class's rate, so the difference
-- is an i64.
use Rattle.std.proofs.Common.{◌≡◌, ◌≤◌, ◌<◌, ℕ, ℤ, pos, ◌-ℤ◌, List, true, sym, ap, ap₂, ◌∙◌, arith}
use borrow.Author.Rules.{sfits_of}
use mir.Syntax.{w64}
use mir.ValLaws.{to_z-of_z}
use Rattle.numbers.specs.Whole.{minus}
use Rattle.numbers.proofs.Tests.{cond_true, cond_false}
use Rattle.definitions.specs.Limits.{nodes, rate_at, greatest_rate}
use Rattle.definitions.specs.Places.{place, rate}
use Rattle.definitions.specs.Tree.{tree_of, is_class, sum_under}
use Rattle.definitions.specs.Order.{in_order}
use Rattle.definitions.specs.Calls.{lost_grains}
use Rattle.definitions.proofs.Facts.{facts}
use Rattle.treelaws.proofs.Children.{class_there}
use Rattle.treelaws.proofs.Rounding.{fair_rates, rate_natural, rate_small}
use Rattle.sums.specs.Sums.{term}
use Rattle.sums.proofs.Summable.{in_order_summable}
use Rattle.looking.proofs.lost_grains.Goals as goal

-- A class's rate is no negative number, and its children's rates sum to at most the greatest rate.
small : (t : List ℤ) (k : ℕ) → in_order t ≡ true → k < nodes → is_class (tree_of t) k ≡ true → (minus (place t k rate_at) ≡ 0) × (sum_under (tree_of t) k (rate t) ≤ greatest_rate)
small t k order hk class =
    let f = facts t order in
    (rate_natural t f k hk (class_there (tree_of t) k class), omega (arith, fair_rates t f k hk class, rate_small t f k hk))

pub returns-then-not-is_class : goal.returns-then-not-is_class
unfolding lost_grains
returns-then-not-is_class c = sym (cond_false _ _ _ (sym c.is_class.ensures ∙ c.if-not-is_class.true))

pub sum_under-given-requires : goal.sum_under-given-requires
sum_under-given-requires c = in_order_summable _ _ (facts _ c.args.ordered.in_order)

pub lowered-requires : goal.lowered-requires
unfolding term
lowered-requires c =
    let stored = to_z-of_z w64 _ (sfits_of c.get.type_inv) ∙ c.get.ensures in
    omega (arith, ap minus stored, c.sum_under-given.ensures, small _ _ c.args.ordered.in_order c.requires (sym c.is_class.ensures ∙ c.if-not-is_class.false))

pub returns : goal.returns
unfolding lost_grains term
returns c =
    let stored = to_z-of_z w64 _ (sfits_of c.get.type_inv) ∙ c.get.ensures in
    to_z-of_z w64 _ (sfits_of c.lowered.type_inv)
    ∙ c.lowered.ensures
    ∙ ap₂ ◌-ℤ◌ stored (ap pos c.sum_under-given.ensures)
    ∙ sym (cond_true _ _ _ (sym c.is_class.ensures ∙ c.if-not-is_class.false))
