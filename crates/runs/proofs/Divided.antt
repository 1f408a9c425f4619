-- A list of calls may be divided anywhere: the table after the whole is the table after the rest on the table after the first part.
use mathlib.Core.Path.{◌≡◌, refl}
use mathlib.Core.List.{List, [], ◌∷◌, ◌++◌}
use lib.IntN.{ℤ}
use Rattle.runs.specs.Runs.{Call, after, table_after_all}

pub table_divided : (t : List ℤ) (calls rest : List Call) → table_after_all t (calls ++ rest) ≡ table_after_all (table_after_all t calls) rest
unfolding table_after_all
table_divided t [] rest = refl
table_divided t (c ∷ calls) rest = table_divided (after t c).table calls rest
