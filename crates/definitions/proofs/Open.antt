-- An accepted open has a table of the right length.
use mathlib.Core.Path.{◌≡◌}
use mathlib.Core.List.{List}
use native.Mathlib.Omega.{arith}
use borrow.Author.Tests.{eqb-true, not-false}
use lib.ListN.{length}
use lib.IntN.{ℤ}
use Rattle.definitions.specs.Limits.{table_length}
use Rattle.definitions.specs.Calls.{open_refusal}
use Rattle.definitions.proofs.Refusals.{none_first}

pub open_long : (t : List ℤ) (rate depth : ℤ) → open_refusal t rate depth ≡ 0 → length t ≡ table_length
unfolding open_refusal
open_long t rate depth h = eqb-true (length t) table_length (not-false _ (none_first 1 _ _ (λ e. omega arith) h).0)
