use Rattle.std.proofs.Common.{ℕ, ◌*◌, Bool, ◌||◌, eqb, leb, ap₂}
use Rattle.numbers.proofs.Every.{joined_as, same_tests, last_test}
use Rattle.definitions.specs.Limits.{last_level}
use Rattle.definitions.specs.Places.{balance}
use Rattle.records.specs.Record.{balance_within}
use Rattle.records.proofs.balance_within.Goals as goal

pub returns : goal.returns
unfolding balance_within balance
returns c =
    let grains = c.depth_grains-grains.ensures in
    let below = c.negative-below.ensures in
    joined_as
    (same_tests (ap₂ leb c.natural.ensures grains)
    (same_tests (ap₂ (λ (n m : ℕ). leb n (last_level * m)) below grains)
    (last_test (ap₂ (λ (b : Bool) (n : ℕ). b || eqb n 0) c.is_class-class.ensures below))))
