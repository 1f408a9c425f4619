use Rattle.std.proofs.Common.{◌≡◌, refl, Bool, true, false, ◌||◌, not, ℕ}
use Rattle.definitions.specs.Tree.{test_if}
use Rattle.listing.proofs.unstated.Goals as goal

-- A test that is asked for only where it counts.
asked : (b x : Bool) (f : ℕ → Bool) (k : ℕ) → not x ≡ f k → (not b || not x) ≡ test_if b f k
unfolding test_if
asked true x f k h = h
asked false x f k h = refl

pub returns : goal.returns
returns c = rw (c.there.ensures, c.is_stated.ensures) (asked _ _ _ _ refl)
