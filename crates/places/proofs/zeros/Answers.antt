use Rattle.std.proofs.Common.{rules, ◌≡◌, ℕ, ℤ, List, pos, arith, refl, true, ap, ◌∙◌, ◌+◌, ◌-◌, get_or, take, drop}
use borrow.Author.Rules.{sfits_of}
use mir.Syntax.{w64}
use mir.ValLaws.{to_z-of_z}
use Rattle.std.proofs.lemmas.List.{get_or-drop, get_or-take, length-take, length-drop}
use Rattle.numbers.specs.Below.{all_below}
use Rattle.numbers.proofs.All.{all_first, all_grows, all_upto, all_cong}
use Rattle.definitions.specs.Order.{is_zero}
use Rattle.numbers.specs.Whole.{same_ℤ}
use Rattle.places.specs.Zeros.{zeros}
use Rattle.places.proofs.zeros.Goals as goal

zero : is_zero (pos 0) ≡ true
unfolding is_zero same_ℤ
zero = refl

-- The numbers of a part of the list, and those of the list behind its start.
part : (t : List ℤ) (first n : ℕ) → all_below n (λ p. is_zero (get_or (take (first + n - first) (drop first t)) p (pos 0))) ≡ zeros t first n
unfolding zeros
part t first n =
    all_cong n _ _
    (λ p l. ap is_zero (get_or-take (first + n - first) (drop first t) p (pos 0) (omega arith) ∙ get_or-drop first t p (pos 0)))

pub loop-z-init : goal.loop-z-init
loop-z-init c = zero ∙ all_first _

pub loop-z-preserved : goal.loop-z-preserved
loop-z-preserved c =
    ap is_zero (to_z-of_z w64 _ (sfits_of c.either-bits.type_inv)) ∙ c.either-bits.ensures
    ∙ all_grows _ _ _ _ c.loop-z.invariant (ap is_zero (to_z-of_z w64 _ (search rules)))

pub returns : goal.returns
unfolding is_zero
returns c = c.equal.ensures ∙ all_upto _ c.args.n _ _ c.loop-z.invariant (omega (arith, length-take {A = ℤ}, length-drop {A = ℤ})) (omega (arith, length-take {A = ℤ}, length-drop {A = ℤ})) ∙ part c.args.table.now c.args.first c.args.n
