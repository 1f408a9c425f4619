-- The number of the refusal in what a call answers is the one that it tells.
use Rattle.std.proofs.Common.{◌≡◌, ℕ, List, ℤ, Result, Ok, Err, ap, ◌∙◌}
use Rattle.definitions.specs.Refusals.{outcome, number_told}
use Rattle.definitions.proofs.Refusals.{number_outcome}
use Rattle.answers.specs.declared.Refusal.{Refusal}
use Rattle.answers.specs.Answers.{number_in, told}

pub number_of_told : (r : Result ℤ Refusal) (n : ℕ) (values : List ℤ) → told r ≡ outcome n values → number_in r ≡ n
unfolding number_in told number_told
number_of_told (Ok value) n values e = ap number_told e ∙ number_outcome n values
number_of_told (Err why) n values e = ap number_told e ∙ number_outcome n values
