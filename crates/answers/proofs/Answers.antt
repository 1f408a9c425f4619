-- Calls that are refused by `?`: what they tell and leave is what the number of the refusal says.
use Prim.Native.Nat.{ℕ, ◌≤◌}
use native.Mathlib.Omega.{arith}
use mathlib.Core.Path.{◌≡◌, refl, sym, ap, ◌∙◌}
use mathlib.Core.List.{List, [], ◌∷◌}
use lib.IntN.{ℤ}
use Rattle.std.specs.Prelude.{Result, Ok, Err}
use Rattle.definitions.specs.Refusals.{outcome, kept}
use Rattle.definitions.proofs.Refusals.{outcome_accepted, outcome_refused, kept_new, kept_old}
use Rattle.answers.specs.declared.Refusal.{Refusal}
use Rattle.answers.specs.declared.Refusal.TheVariants.{NotInOrder, OutsideLimits, NotThere, InUse, WrongNode, LevelTooLow, SharesAbove, DepthAbove, NotEmpty, InDebt, QueueFull, CountAtEnd, BufferShort, PlanWrong, PlanOutOfOrder, StatedWrong, TimetableWrong}
use Rattle.answers.specs.Answers.{number_of, number_in, told}

-- A refusal has a number above 0.
pub numbered : (why : Refusal) → 1 ≤ number_of why
numbered NotInOrder = omega arith
numbered OutsideLimits = omega arith
numbered NotThere = omega arith
numbered InUse = omega arith
numbered WrongNode = omega arith
numbered LevelTooLow = omega arith
numbered SharesAbove = omega arith
numbered DepthAbove = omega arith
numbered NotEmpty = omega arith
numbered InDebt = omega arith
numbered QueueFull = omega arith
numbered CountAtEnd = omega arith
numbered BufferShort = omega arith
numbered PlanWrong = omega arith
numbered PlanOutOfOrder = omega arith
numbered StatedWrong = omega arith
numbered TimetableWrong = omega arith

pub number_ok : {T : Type 0} (value : T) → number_in {T = T} (Ok value) ≡ 0
unfolding number_in
number_ok value = refl

pub number_err : (T : Type 0) (why : Refusal) → number_in {T = T} (Err why) ≡ number_of why
unfolding number_in
number_err T why = refl

-- What a search for a cause answered, in its two cases.
pub err_number : {T : Type 0} {r : Result T Refusal} {n : ℕ} (why : Refusal) → number_in r ≡ n → r ≡ Err why → n ≡ number_of why
err_number {T} why is e = sym is ∙ ap number_in e ∙ number_err T why

pub ok_number : {T : Type 0} {r : Result T Refusal} {n : ℕ} (value : T) → number_in r ≡ n → r ≡ Ok value → n ≡ 0
ok_number value is e = sym is ∙ ap number_in e ∙ number_ok value

-- What a refused call tells and leaves, by the number n of its first cause.
pub refused_tells : (why : Refusal) (n : ℕ) (values : List ℤ) → n ≡ number_of why → told (Err why) ≡ outcome n values
unfolding told
refused_tells why n values e = sym (rw e (outcome_refused (number_of why) values (λ z. absurd (omega (arith, numbered why)))))

pub refused_keeps : (why : Refusal) (n : ℕ) (new old : List ℤ) → n ≡ number_of why → old ≡ kept n new old
refused_keeps why n new old e = sym (kept_old n new old (λ z. absurd (omega (arith, numbered why))))

-- What an accepted call tells and leaves.
pub accepted_tells : (n : ℕ) (value : ℤ) → n ≡ 0 → told (Ok value) ≡ outcome n (value ∷ [])
unfolding told
accepted_tells n value e = sym (outcome_accepted n (value ∷ []) e)

pub accepted_leaves : (n : ℕ) (new old : List ℤ) → n ≡ 0 → new ≡ kept n new old
accepted_leaves n new old e = sym (kept_new n new old e)
