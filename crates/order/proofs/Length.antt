-- A table of another length is not in order, and that is the first cause of every call.
use mathlib.Core.Path.{◌≡◌, sym, ap}
use mathlib.Core.Bool.{false, not}
use mathlib.Core.List.{List, ◌∷◌}
use borrow.Author.Tests.{ne_eqb}
use lib.ListN.{length}
use lib.IntN.{ℤ}
use Rattle.numbers.proofs.Every.{head_fails}
use Rattle.definitions.specs.Limits.{table_length}
use Rattle.definitions.specs.Order.{in_order}
use Rattle.definitions.specs.Refusals.{Cause, cause, first}
use Rattle.definitions.proofs.Refusals.{first_here}

pub other_length : (t : List ℤ) → (length t ≡ table_length → ⊥) → false ≡ in_order t
unfolding in_order
other_length t h = sym (head_fails _ _ (ne_eqb (length t) table_length h))

pub length_first : (t : List ℤ) (cs : List Cause) → (length t ≡ table_length → ⊥) → first (cause 1 (not (in_order t)) ∷ cs) ≡ 1
length_first t cs h = first_here 1 _ cs (ap not (sym (other_length t h)))
