-- The invariant: whatever test the answers are of, the numbers so far pass it or not, as joined.
use Rattle.std.proofs.Common.{◌≡◌, ◌<◌, ℕ, Bool}
use Rattle.numbers.specs.Below.{all_below}
use Rattle.numbers.proofs.all_below.Given as goal

abbrev pub invariant-loop-k : goal.invariant-loop-k
invariant-loop-k g l = (p : ℕ → Bool) → ((k : ℕ) (b : Bool) → k < l.n → goal.F-post g l.test k b → b ≡ p k) → l.ok ≡ all_below l.k p
