-- The first cause that is there: a call is accepted exactly when no cause is there, and then it leaves the new contents
-- and its values; refused, it leaves the contents as they came and the number only.
use Prim.Native.Nat.{ℕ, ◌≤◌, ◌<◌}
use mathlib.Core.Path.{◌≡◌, refl, sym, ap, ap₂, ◌∙◌}
use mathlib.Core.Bool.{Bool, true, false, not, ◌&&◌, and-true}
use mathlib.Core.List.{List, [], ◌∷◌}
use native.Mathlib.Decide.{ℕ_discrete}
use native.Mathlib.Omega.{arith}
use borrow.Author.Tests.{lt-ltb, le-ltb, eq-eqb, ne_eqb, not-false}
use lib.Dec.{eqb, ltb}
use lib.IntN.{ℤ, pos}
use lib.Signed.{le_z}
use mir.Syntax.{w64}
use mir.Val.{SFits, to_z, of_z}
use mir.Facts.{to_z-of_z}
use Rattle.numbers.specs.Whole.{plus, minus, within_ℤ}
use Rattle.numbers.specs.Tests.{every}
use Rattle.numbers.proofs.Parts.{zarith, one_is_zero, pos_plus, pos_of_within}
use Rattle.numbers.proofs.Tests.{by_test, cond_true, cond_false}
use Rattle.definitions.specs.Limits.{share_limit, port_limit}
use Rattle.definitions.specs.Refusals.{Cause, cause, first, accepted, refused, outcome, number_told, kept}

pub first_here : (n : ℕ) (b : Bool) (cs : List Cause) → b ≡ true → first (cause n b ∷ cs) ≡ n
unfolding first
first_here n b cs h = cond_true b n (first cs) h

pub first_past : (n : ℕ) (b : Bool) (cs : List Cause) → b ≡ false → first (cause n b ∷ cs) ≡ first cs
unfolding first
first_past n b cs h = cond_false b n (first cs) h

pub first_end : first [] ≡ 0
unfolding first
first_end = refl

-- Where none is first, no cause of the list is there.
pub none_first : (n : ℕ) (b : Bool) (cs : List Cause) → (n ≡ 0 → ⊥) → first (cause n b ∷ cs) ≡ 0 → (b ≡ false) × (first cs ≡ 0)
none_first n b cs ne h =
    by_test b
    (λ t. absurd (ne (sym (first_here n b cs t) ∙ h)))
    (λ f. (f, sym (first_past n b cs f) ∙ h))

pub first_none : (n : ℕ) (b : Bool) (cs : List Cause) → b ≡ false → first cs ≡ 0 → first (cause n b ∷ cs) ≡ 0
first_none n b cs h hs = first_past n b cs h ∙ hs

pub kept_new : (refusal : ℕ) (new old : List ℤ) → refusal ≡ 0 → kept refusal new old ≡ new
unfolding kept
kept_new refusal new old h = cond_true (eqb refusal 0) new old (eq-eqb refusal 0 h)

pub kept_old : (refusal : ℕ) (new old : List ℤ) → (refusal ≡ 0 → ⊥) → kept refusal new old ≡ old
unfolding kept
kept_old refusal new old h = cond_false (eqb refusal 0) new old (ne_eqb refusal 0 h)

pub outcome_accepted : (refusal : ℕ) (values : List ℤ) → refusal ≡ 0 → outcome refusal values ≡ accepted values
unfolding outcome
outcome_accepted refusal values h = cond_true (eqb refusal 0) (accepted values) (refused refusal) (eq-eqb refusal 0 h)

pub outcome_refused : (refusal : ℕ) (values : List ℤ) → (refusal ≡ 0 → ⊥) → outcome refusal values ≡ refused refusal
unfolding outcome
outcome_refused refusal values h = cond_false (eqb refusal 0) (accepted values) (refused refusal) (ne_eqb refusal 0 h)

pub number_outcome : (n : ℕ) (values : List ℤ) → number_told (outcome n values) ≡ n
unfolding number_told
number_outcome n values =
    elim (ℕ_discrete n 0) [ yes e ↦ ap number_told (outcome_accepted n values e) ∙ sym e | no ne ↦ ap number_told (outcome_refused n values ne) ]

-- Code goes through a list of causes by tests of its own. A Boolean r is what code has of a cause's test b, a number k what it
-- has of a number i that is compared. `search causes` finds the way through them from what is known at a return. The rest of
-- the causes may be another function's matter.
pub data Finds : List Cause → ℕ → Type 0 where
  here : {n : ℕ} {r b : Bool} {cs : List Cause} → r ≡ b → r ≡ true → Finds (cause n b ∷ cs) n
  here_not : {n : ℕ} {r b : Bool} {cs : List Cause} → r ≡ b → not r ≡ true → Finds (cause n (not b) ∷ cs) n
  here_below : (i j : ℕ) {k n : ℕ} {cs : List Cause} → k ≡ i → k < j → Finds (cause n (ltb i j) ∷ cs) n
  here_equal : (i j : ℕ) {k n : ℕ} {cs : List Cause} → k ≡ i → k ≡ j → Finds (cause n (eqb i j) ∷ cs) n
  here_is : (i j : ℕ) {n : ℕ} {cs : List Cause} → i ≡ j → Finds (cause n (eqb i j) ∷ cs) n
  past : {m n : ℕ} {r b : Bool} {cs : List Cause} → r ≡ b → r ≡ false → Finds cs m → Finds (cause n b ∷ cs) m
  past_not : {m n : ℕ} {r b : Bool} {cs : List Cause} → r ≡ b → not r ≡ false → Finds cs m → Finds (cause n (not b) ∷ cs) m
  past_below : (i j : ℕ) {k m n : ℕ} {cs : List Cause} → k ≡ i → j ≤ k → Finds cs m → Finds (cause n (ltb i j) ∷ cs) m
  past_equal : (i j : ℕ) {k m n : ℕ} {cs : List Cause} → k ≡ i → (k ≡ j → ⊥) → Finds cs m → Finds (cause n (eqb i j) ∷ cs) m
  past_is : (i j : ℕ) {m n : ℕ} {cs : List Cause} → (i ≡ j → ⊥) → Finds cs m → Finds (cause n (eqb i j) ∷ cs) m
  past_known : {m n : ℕ} {b : Bool} {cs : List Cause} → b ≡ true → Finds cs m → Finds (cause n (not b) ∷ cs) m
  none : Finds [] 0
  handed_on : {m : ℕ} {cs : List Cause} → m ≡ first cs → Finds cs m

pub ruleset causes =
    (here, here_not, here_below, here_equal, here_is, past, past_not, past_below, past_equal, past_is, past_known, none)

pub found : (cs : List Cause) (m : ℕ) → Finds cs m → m ≡ first cs
found cs m (here e h) = sym (first_here _ _ _ (sym e ∙ h))
found cs m (here_not e h) = sym (first_here _ _ _ (ap not (sym e) ∙ h))
found cs m (here_below i j e h) = sym (first_here _ _ _ (lt-ltb i j (omega arith)))
found cs m (here_equal i j e h) = sym (first_here _ _ _ (eq-eqb i j (sym e ∙ h)))
found cs m (here_is i j h) = sym (first_here _ _ _ (eq-eqb i j h))
found cs m (past e h f) = found _ _ f ∙ sym (first_past _ _ _ (sym e ∙ h))
found cs m (past_not e h f) = found _ _ f ∙ sym (first_past _ _ _ (ap not (sym e) ∙ h))
found cs m (past_below i j e h f) = found _ _ f ∙ sym (first_past _ _ _ (le-ltb i j (omega arith)))
found cs m (past_equal i j e h f) = found _ _ f ∙ sym (first_past _ _ _ (ne_eqb i j (λ q. h (e ∙ q))))
found cs m (past_is i j h f) = found _ _ f ∙ sym (first_past _ _ _ (ne_eqb i j h))
found cs m (past_known h f) = found _ _ f ∙ sym (first_past _ _ _ (ap not h))
found cs m none = sym first_end
found cs m (handed_on e) = e

-- What such a test says of the cause.
pub holds : {r b : Bool} → r ≡ b → not r ≡ false → b ≡ true
holds {r} e h = sym e ∙ not-false r h

pub fails : {r b : Bool} → r ≡ b → r ≡ false → b ≡ false
fails e h = sym e ∙ h

-- Limits of arguments, tested by code and joined from the left by `&`: after the test a, those of the list give r. `search limits`
-- goes through them.
pub data Tested : Bool → List Bool → Bool → Type 0 where
  within : (low high : ℕ) (z : ℤ) {a b r : Bool} {bs : List Bool} → b ≡ within_ℤ low high (to_z w64 (of_z w64 z)) → SFits w64 z → Tested (a && b) bs r → Tested a (within_ℤ low high z ∷ bs) r
  least : (low : ℕ) (z : ℤ) {a b r : Bool} {bs : List Bool} → b ≡ le_z (pos low) (to_z w64 (of_z w64 z)) → SFits w64 z → Tested (a && b) bs r → Tested a (le_z (pos low) z ∷ bs) r
  by_kind : (low : ℕ) (kind z : ℤ) {a b r : Bool} {bs : List Bool} {n most : ℕ} → n ≡ plus (to_z w64 (of_z w64 kind)) → SFits w64 kind → most ≡ share_limit n → b ≡ within_ℤ low most (to_z w64 (of_z w64 z)) → SFits w64 z → Tested (a && b) bs r → Tested a (within_ℤ low (share_limit (plus kind)) z ∷ bs) r
  by_sort : (low : ℕ) (sort z : ℤ) {a b r : Bool} {bs : List Bool} {n most : ℕ} → n ≡ plus (to_z w64 (of_z w64 sort)) → SFits w64 sort → most ≡ port_limit n → b ≡ within_ℤ low most (to_z w64 (of_z w64 z)) → SFits w64 z → Tested (a && b) bs r → Tested a (within_ℤ low (port_limit (plus sort)) z ∷ bs) r
  last : {a : Bool} → Tested a [] a

pub ruleset limits = (within, least, by_kind, by_sort, last)

next_test : (a b c : Bool) (bs : List Bool) → b ≡ c → (a && b && every bs) ≡ (a && every (c ∷ bs))
unfolding every
next_test true b c bs e = ap (λ (x : Bool). x && every bs) e
next_test false b c bs e = refl

-- A limit that another argument sets.
limited : (limit : ℕ → ℕ) (low : ℕ) (y z : ℤ) {n most : ℕ} {b : Bool} → n ≡ plus (to_z w64 (of_z w64 y)) → SFits w64 y → most ≡ limit n → b ≡ within_ℤ low most (to_z w64 (of_z w64 z)) → SFits w64 z → b ≡ within_ℤ low (limit (plus y)) z
limited limit low y z e f l w g = w ∙ ap₂ (within_ℤ low) (l ∙ ap limit (e ∙ ap plus (to_z-of_z f))) (to_z-of_z g)

tested_after : (a : Bool) (bs : List Bool) (r : Bool) → Tested a bs r → r ≡ (a && every bs)
unfolding every
tested_after a bs r (within low high z {b = b} {bs = rest} e f t) = tested_after _ _ _ t ∙ next_test a b _ rest (e ∙ ap (within_ℤ low high) (to_z-of_z f))
tested_after a bs r (least low z {b = b} {bs = rest} e f t) = tested_after _ _ _ t ∙ next_test a b _ rest (e ∙ ap (le_z (pos low)) (to_z-of_z f))
tested_after a bs r (by_kind low kind z {b = b} {bs = rest} e f l w g t) =
    tested_after _ _ _ t ∙ next_test a b _ rest (limited share_limit low kind z e f l w g)
tested_after a bs r (by_sort low sort z {b = b} {bs = rest} e f l w g t) =
    tested_after _ _ _ t ∙ next_test a b _ rest (limited port_limit low sort z e f l w g)
tested_after a bs r last = sym (and-true a)

pub tested : (bs : List Bool) (r : Bool) → Tested true bs r → r ≡ every bs
tested bs r t = tested_after true bs r t

-- An argument that was passed on as it came: its natural part, which is the argument itself where it is within limits.
pub natural_of : {n : ℕ} {z : ℤ} → n ≡ plus (to_z w64 (of_z w64 z)) → SFits w64 z → n ≡ plus z
natural_of e f = e ∙ ap plus (to_z-of_z f)

pub number_of_law : (low high : ℕ) {n : ℕ} {z : ℤ} → n ≡ plus (to_z w64 (of_z w64 z)) → SFits w64 z → within_ℤ low high z ≡ true → pos n ≡ z
number_of_law low high {z = z} e f h = ap pos (natural_of e f) ∙ pos_of_within low high z h

pub least_of : (low : ℕ) {n : ℕ} {z : ℤ} → n ≡ plus (to_z w64 (of_z w64 z)) → SFits w64 z → le_z (pos low) z ≡ true → pos n ≡ z
unfolding plus minus
least_of low {z = z} e f h = ap pos (natural_of e f) ∙ pos_plus z (omega (arith, zarith, one_is_zero z))
