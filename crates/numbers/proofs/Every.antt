-- Every test of a list holds exactly when its first does and every other does.
use mathlib.Core.Path.{◌≡◌, refl, sym, ap, ◌∙◌}
use mathlib.Core.Bool.{Bool, true, false, ◌&&◌, and-true as and-with-true}
use mathlib.Core.List.{List, [], ◌∷◌}
use Rattle.numbers.specs.Tests.{every}
use Rattle.numbers.proofs.Tests.{and_true, and_left, and_right}

pub head_holds : (b : Bool) (bs : List Bool) → every (b ∷ bs) ≡ true → b ≡ true
unfolding every
head_holds b bs h = and_left b (every bs) h

pub rest_hold : (b : Bool) (bs : List Bool) → every (b ∷ bs) ≡ true → every bs ≡ true
unfolding every
rest_hold b bs h = and_right b (every bs) h

pub none_left : every [] ≡ true
unfolding every
none_left = refl

pub holds_with : (b : Bool) (bs : List Bool) → b ≡ true → every bs ≡ true → every (b ∷ bs) ≡ true
unfolding every
holds_with b bs h hs = and_true b (every bs) h hs

pub every_two : (a b : Bool) → every (a ∷ b ∷ []) ≡ (a && b)
unfolding every
every_two true b = and-with-true b
every_two false b = refl

pub every_next : (a b : Bool) (bs : List Bool) → every (a ∷ b ∷ bs) ≡ every ((a && b) ∷ bs)
unfolding every
every_next true b bs = refl
every_next false b bs = refl

pub head_fails : (b : Bool) (bs : List Bool) → b ≡ false → every (b ∷ bs) ≡ false
unfolding every
head_fails b bs h = ap (λ (x : Bool). x && every bs) h

pub rest_fail : (b : Bool) (bs : List Bool) → every bs ≡ false → every (b ∷ bs) ≡ false
unfolding every
rest_fail true bs h = h
rest_fail false bs h = refl

-- Tests joined from the left, as code joins them by `&`.
abbrev pub joined : Bool → List Bool → Bool
joined a [] = a
joined a (b ∷ bs) = joined (a && b) bs

pub joined_every : (a : Bool) (bs : List Bool) → joined a bs ≡ every (a ∷ bs)
unfolding every
joined_every a [] = sym (and-with-true a)
joined_every a (b ∷ bs) = joined_every (a && b) bs ∙ sym (every_next a b bs)

-- Tests that the code made one by one, each known by its own equation.
pub same_tests : {a b : Bool} {r s : List Bool} → a ≡ b → r ≡ s → (a ∷ r) ≡ (b ∷ s)
same_tests {b = b} {r = r} e es = ap (λ (x : Bool). x ∷ r) e ∙ ap (λ (xs : List Bool). b ∷ xs) es

pub last_test : {a b : Bool} → a ≡ b → (a ∷ []) ≡ (b ∷ [])
last_test e = ap (λ (x : Bool). x ∷ []) e

pub joined_as : {a : Bool} {r s : List Bool} → (a ∷ r) ≡ s → joined a r ≡ every s
joined_as {a = a} {r = r} e = joined_every a r ∙ ap every e

-- Tests that code joins by `&`: what `search` needs of them.
pub ruleset tests = (joined_as, same_tests, last_test)
