-- The numbers and values of documents 01 and 02 for every case of the answers.
use Rattle.std.specs.Prelude.{◌≡◌, ℕ, Bool, true, false, [], ◌∷◌, ℤ, pos, Result, Ok, Err, MatchResult}
use Rattle.definitions.specs.Refusals.{Outcome, accepted, refused}
use Rattle.answers.specs.declared.Refusal.{Refusal}
use Rattle.answers.specs.declared.Refusal.TheVariants.{NotInOrder, OutsideLimits, NotThere, InUse, WrongNode, LevelTooLow, SharesAbove, DepthAbove, NotEmpty, InDebt, QueueFull, CountAtEnd, BufferShort, PlanWrong, PlanOutOfOrder, StatedWrong, TimetableWrong}
use Rattle.answers.specs.declared.NoRefusal.{NoRefusal}
use Rattle.answers.specs.declared.Dispatched.{Dispatched}
use Rattle.answers.specs.declared.Seen.{Seen}

-- The number of a refusal.
abbrev pub number_of : Refusal → ℕ
number_of NotInOrder = 1
number_of OutsideLimits = 2
number_of NotThere = 3
number_of InUse = 4
number_of WrongNode = 5
number_of LevelTooLow = 6
number_of SharesAbove = 7
number_of DepthAbove = 8
number_of NotEmpty = 9
number_of InDebt = 10
number_of QueueFull = 11
number_of CountAtEnd = 12
number_of BufferShort = 13
number_of PlanWrong = 14
number_of PlanOutOfOrder = 15
number_of StatedWrong = 16
number_of TimetableWrong = 17

-- The number of the refusal in an answer, and 0 where there is none.
unfoldable pub number_in : {T : Type 0} → Result T Refusal → ℕ
number_in (Ok value) = 0
number_in (Err why) = number_of why

-- What a call tells its caller.
unfoldable pub told : Result ℤ Refusal → Outcome
told (Ok value) = accepted (value ∷ [])
told (Err why) = refused (number_of why)

-- What tick tells: how many were dispatched to the first port and to the second.
unfoldable pub told_ticked : Result Dispatched Refusal → Outcome
told_ticked (Ok counts) = accepted (counts.first ∷ counts.second ∷ [])
told_ticked (Err why) = refused (number_of why)

-- What look tells: rate, balance, waiting count and lost grains.
unfoldable pub told_seen : Result Seen Refusal → Outcome
told_seen (Ok seen) = accepted (seen.rate ∷ seen.balance ∷ seen.waiting ∷ seen.lost ∷ [])
told_seen (Err why) = refused (number_of why)

-- What same tells: 1 for yes, 0 for no.
unfoldable pub told_compared : Result Bool Refusal → Outcome
told_compared (Ok true) = accepted (pos 1 ∷ [])
told_compared (Ok false) = accepted (pos 0 ∷ [])
told_compared (Err why) = refused (number_of why)

-- A number turned into a refusal: the refusal that has it; or no refusal has it.
abbrev pub Numbered : ℕ → Result Refusal NoRefusal → Type 0
Numbered n r = MatchResult r (λ why. number_of why ≡ n) (λ e. (e.0 ≡ n) × ((why : Refusal) → number_of why ≡ n → ⊥))
