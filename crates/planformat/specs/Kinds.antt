-- The plan's kinds. Document 01, "Same tree, and the plan file": kind 0 class fixed, 1 class weighted, 2 client fixed,
-- 3 client weighted; document 02, (f): 4 class stated, 5 client stated.
use Rattle.std.specs.Prelude.{ℕ, cond, ◌||◌, eqb}
use Rattle.definitions.specs.Limits.{class, client, fixed, weighted, stated}

abbrev pub class_fixed : ℕ
class_fixed = 0

abbrev pub class_weighted : ℕ
class_weighted = 1

abbrev pub client_fixed : ℕ
client_fixed = 2

abbrev pub client_weighted : ℕ
client_weighted = 3

abbrev pub class_stated : ℕ
class_stated = 4

abbrev pub client_stated : ℕ
client_stated = 5

-- The kind of a node of this sort and share kind.
unfoldable pub kind_of : ℕ → ℕ → ℕ
kind_of sort share_kind =
    cond (eqb sort class)
    (cond (eqb share_kind fixed) class_fixed (cond (eqb share_kind stated) class_stated class_weighted))
    (cond (eqb share_kind fixed) client_fixed (cond (eqb share_kind stated) client_stated client_weighted))

-- The sort and the share kind that a kind stands for.
unfoldable pub sort_of : ℕ → ℕ
sort_of kind = cond (eqb kind class_fixed || eqb kind class_weighted || eqb kind class_stated) class client

unfoldable pub share_kind_of : ℕ → ℕ
share_kind_of kind =
    cond (eqb kind class_fixed || eqb kind client_fixed) fixed (cond (eqb kind class_stated || eqb kind client_stated) stated weighted)
