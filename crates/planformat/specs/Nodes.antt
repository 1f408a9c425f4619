-- What a node of the code stands for: the entry of a plan. A node is a class or a client, and either one holds a share
-- that is fixed, weighted or stated.
use Rattle.std.specs.Prelude.{ℕ}
use Rattle.definitions.specs.Limits.{class, client, fixed, weighted, stated}
use Rattle.planformat.specs.declared.Share.{Share}
use Rattle.planformat.specs.declared.Share.TheVariants.{Fixed, Weighted, Stated}
use Rattle.planformat.specs.declared.Sort.{Sort}
use Rattle.planformat.specs.declared.Sort.TheVariants.{Class, Client}
use Rattle.planformat.specs.declared.Node.{Node}
use Rattle.planformat.specs.Kinds.{kind_of}
use Rattle.planformat.specs.Format.{Entry}

-- A share's number, and the table's number of its kind.
unfoldable pub share_in : Share → ℕ
share_in (Fixed n) = n
share_in (Weighted n) = n
share_in (Stated n) = n

unfoldable pub share_kind_in : Share → ℕ
share_kind_in (Fixed n) = fixed
share_kind_in (Weighted n) = weighted
share_kind_in (Stated n) = stated

-- The share that a sort holds.
unfoldable pub held_by : Sort → Share
held_by (Class s) = s
held_by (Client s) = s

-- The table's number of a sort.
unfoldable pub sort_in : Sort → ℕ
sort_in (Class s) = class
sort_in (Client s) = client

-- The plan's kind of a sort.
unfoldable pub kind_in : Sort → ℕ
kind_in s = kind_of (sort_in s) (share_kind_in (held_by s))

-- The entry that a node stands for.
unfoldable pub entry_by : Node → Entry
entry_by n =
    record {
      node = n.number;
      parent = n.parent;
      kind = kind_in n.sort;
      share = share_in (held_by n.sort);
      depth = n.depth;
    }
