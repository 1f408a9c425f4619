use Rattle.std.proofs.Common.{refl, ap, ℕ, ◌/◌, eqb}
use Rattle.numbers.proofs.Every.{joined_as, same_tests, last_test}
use Rattle.definitions.specs.Limits.{nodes}
use Rattle.definitions.specs.Tree.{tree_of}
use Rattle.planlaws.specs.Writing.{stands}
use Rattle.listing.proofs.stands.Goals as goal

pub returns : goal.returns
unfolding stands tree_of
returns c =
    joined_as (same_tests c.there-there.ensures (same_tests refl (last_test (ap (λ (n : ℕ). eqb n (c.args.m / nodes)) c.natural.ensures))))
