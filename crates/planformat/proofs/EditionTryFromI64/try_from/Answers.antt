-- The two numbers of editions, and every other.
use Rattle.std.proofs.Common.{◌≡◌, refl, false, zero, suc, arith, ℤ, pos, rules}
use lib.IntN.{negsuc}
use mir.Syntax.{w64}
use mir.ValLaws.{to_z-of_z}
use Rattle.std.proofs.lemmas.Int.{ints}
use Rattle.numbers.specs.Whole.{plus, minus, within_ℤ}
use Rattle.numbers.proofs.Parts.{gap_not_within}
use Rattle.planformat.specs.Format.{first_edition, second_edition, edition_of}
use Rattle.planformat.proofs.EditionTryFromI64.try_from.Goals as goal

neither : (z : ℤ) → (z ≡ pos first_edition → ⊥) → (z ≡ pos second_edition → ⊥) → within_ℤ first_edition second_edition z ≡ false
unfolding plus minus within_ℤ
neither (pos zero) first second = refl
neither (pos (suc zero)) first second = absurd (first refl)
neither (pos (suc (suc zero))) first second = absurd (second refl)
neither (pos (suc (suc (suc n)))) first second = gap_not_within first_edition second_edition (pos (suc (suc (suc n)))) (omega arith)
neither (negsuc n) first second = refl

pub returns-in-1 : goal.returns-in-1
unfolding plus within_ℤ edition_of
returns-in-1 c =
    let e : c.args.number ≡ pos first_edition = search rules in
    rw e (record { within = refl; edition = refl })

pub returns-in-2 : goal.returns-in-2
unfolding plus within_ℤ edition_of
returns-in-2 c =
    let e : c.args.number ≡ pos second_edition = search rules in
    rw e (record { within = refl; edition = refl })

pub returns-in_default : goal.returns-in_default
returns-in_default c =
    (to_z-of_z w64 _ c.ranges.number, neither c.args.number (search (rules, ints)) (search (rules, ints)))
