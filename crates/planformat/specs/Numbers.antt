-- The numbers of editions and of kinds, and what turning them into numbers and back gives.
use Rattle.std.specs.Prelude.{ℕ, ◌≡◌, ◌≤◌, ◌<◌, true, false, ℤ, pos, Result, MatchResult}
use Rattle.numbers.specs.Whole.{plus, within_ℤ}
use Rattle.planformat.specs.declared.Edition.{Edition}
use Rattle.planformat.specs.declared.NoEdition.{NoEdition}
use Rattle.planformat.specs.declared.Kind.{Kind}
use Rattle.planformat.specs.declared.Kind.TheVariants.{ClassFixed, ClassWeighted, ClientFixed, ClientWeighted, ClassStated, ClientStated}
use Rattle.planformat.specs.declared.NoKind.{NoKind}
use Rattle.planformat.specs.Kinds.{class_fixed, class_weighted, client_fixed, client_weighted, class_stated, client_stated}
use Rattle.planformat.specs.Format.{first_edition, second_edition, edition_number, edition_of}

-- An edition turned into a number: its number, 1 or 2.
pub record EditionGives (e : Edition) (z : ℤ) : Type 0 where
  pub number : z ≡ pos (edition_number e)
  pub small : edition_number e ≤ second_edition

-- A number turned into an edition: the edition that it stands for, where it is 1 or 2; and else no edition.
pub record EditionFound (z : ℤ) (e : Edition) : Type 0 where
  pub within : within_ℤ first_edition second_edition z ≡ true
  pub edition : edition_of (plus z) ≡ e

abbrev pub EditionGiven : ℤ → Result Edition NoEdition → Type 0
EditionGiven z r = MatchResult r (EditionFound z) (λ wrong. (wrong.0 ≡ z) × (within_ℤ first_edition second_edition z ≡ false))

-- The number of a kind.
abbrev pub kind_number : Kind → ℕ
kind_number ClassFixed = class_fixed
kind_number ClassWeighted = class_weighted
kind_number ClientFixed = client_fixed
kind_number ClientWeighted = client_weighted
kind_number ClassStated = class_stated
kind_number ClientStated = client_stated

-- A number turned into a kind: the kind that has it; or it is above every kind's.
abbrev pub KindGiven : ℕ → Result Kind NoKind → Type 0
KindGiven n r = MatchResult r (λ kind. kind_number kind ≡ n) (λ wrong. (wrong.0 ≡ n) × (client_stated < n))
