-- The plan file: what a plan says, where its bytes stand in each edition, and when they are well formed. Document 01, "Same
-- tree, and the plan file", and document 02, (f).
use Rattle.std.specs.Prelude.{ℕ, ◌+◌, ◌*◌, Bool, cond, List, [], ◌∷◌, ◌++◌, length, eqb, leb}
use Rattle.numbers.specs.Tests.{every}
use Rattle.numbers.specs.Below.{all_below}
use Rattle.planformat.specs.Kinds.{client_weighted, client_stated}
use Rattle.definitions.specs.Limits.{last_node}
use Rattle.planformat.specs.declared.Edition.{Edition}
use Rattle.planformat.specs.declared.Edition.TheVariants.{First, Second}
use Rattle.planformat.specs.Bytes.{pair_values, four_values, byte_at, le2, le4, bytes2, bytes4, bytes_below}

-- What a plan says of one node: its entry's node and parent, and its body's kind, share and depth.
pub record Entry : Type 0 where
  pub node : ℕ
  pub parent : ℕ
  pub kind : ℕ
  pub share : ℕ
  pub depth : ℕ

-- What a plan says: the disk's rate, the root's depth, and the entries 0 to count - 1.
pub record Plan : Type 0 where
  pub rate : ℕ
  pub depth : ℕ
  pub count : ℕ
  pub entry : ℕ → Entry

-- The number of an edition, 1 or 2, and the edition of such a number.
abbrev pub first_edition : ℕ
first_edition = 1

abbrev pub second_edition : ℕ
second_edition = 2

unfoldable pub edition_number : Edition → ℕ
edition_number First = first_edition
edition_number Second = second_edition

unfoldable pub edition_of : ℕ → Edition
edition_of number = cond (eqb number first_edition) First Second

-- What stands before the head: in the second edition four bytes FF.
abbrev pub mark_byte : ℕ
mark_byte = 0xFF

abbrev pub mark_length : ℕ
mark_length = 4

unfoldable pub mark_bytes : Edition → List ℕ
mark_bytes First = []
mark_bytes Second = mark_byte ∷ mark_byte ∷ mark_byte ∷ mark_byte ∷ []

-- Where the head begins.
unfoldable pub start_of : Edition → ℕ
start_of First = 0
start_of Second = mark_length

-- Bytes of the head, of an entry, of a short and a long share and of a depth.
abbrev pub head_length : ℕ
head_length = 9

abbrev pub entry_length : ℕ
entry_length = 4

abbrev pub short_share : ℕ
short_share = 2

abbrev pub long_share : ℕ
long_share = 4

abbrev pub depth_length : ℕ
depth_length = 4

-- A share is short in the first edition and long in the second.
unfoldable pub share_length : Edition → ℕ
share_length First = short_share
share_length Second = long_share

-- The greatest count and the greatest kind.
abbrev pub last_count : ℕ
last_count = last_node

unfoldable pub last_kind : Edition → ℕ
last_kind First = client_weighted
last_kind Second = client_stated

-- Where the head has the disk's rate, the root's depth and the count.
abbrev pub disk_rate_at : ℕ
disk_rate_at = 0

abbrev pub root_depth_at : ℕ
root_depth_at = 4

abbrev pub count_at : ℕ
count_at = 8

-- Where an entry, which begins with its node, has the parent and the offset.
abbrev pub entry_parent_at : ℕ
entry_parent_at = 1

abbrev pub entry_offset_at : ℕ
entry_offset_at = 2

-- Where a body, which begins with its kind, has the share and the depth, and its length.
abbrev pub body_share_at : ℕ
body_share_at = 1

abbrev pub body_depth_at : Edition → ℕ
body_depth_at e = body_share_at + share_length e

abbrev pub body_length : Edition → ℕ
body_length e = body_depth_at e + depth_length

-- Where entry i stands, and body i of a plan of n entries, from the plan's first byte.
abbrev pub entry_at : Edition → ℕ → ℕ
entry_at e i = start_of e + head_length + entry_length * i

abbrev pub body_at : Edition → ℕ → ℕ → ℕ
body_at e n i = entry_at e n + body_length e * i

-- The length of a plan of n entries.
abbrev pub plan_length : Edition → ℕ → ℕ
plan_length e n = start_of e + head_length + (entry_length + body_length e) * n

-- The mark, and the head of 9 bytes: disk rate 4, root depth 4, count 1.
unfoldable pub head_bytes : Edition → Plan → List ℕ
head_bytes e p = mark_bytes e ++ (bytes4 p.rate ++ bytes4 p.depth ++ (p.count ∷ []))

-- Entry i of 4 bytes: node 1, parent 1, offset of its body 2.
unfoldable pub entry_bytes : Edition → Plan → ℕ → List ℕ
entry_bytes e p i = (p.entry i).node ∷ (p.entry i).parent ∷ bytes2 (body_at e p.count i)

-- A share in 2 bytes, and in the second edition in 4.
unfoldable pub share_bytes : Edition → ℕ → List ℕ
share_bytes First n = bytes2 n
share_bytes Second n = bytes4 n

-- How many values a share has.
unfoldable pub share_values : Edition → ℕ
share_values First = pair_values
share_values Second = four_values

-- Body i of 7 bytes, and in the second edition of 9: kind 1, share, depth 4.
unfoldable pub body_bytes : Edition → Plan → ℕ → List ℕ
body_bytes e p i = (p.entry i).kind ∷ share_bytes e (p.entry i).share ++ bytes4 (p.entry i).depth

-- The bytes of a plan: the head, the entries, then the bodies in the same order without gaps.
unfoldable pub bytes_of : Edition → Plan → List ℕ
bytes_of e p = head_bytes e p ++ bytes_below p.count (entry_bytes e p) ++ bytes_below p.count (body_bytes e p)

-- The edition of plan bytes: those of the second begin with four bytes FF, all others are of the first.
unfoldable pub edition_in : List ℕ → Edition
edition_in s = cond (all_below mark_length (λ i. eqb (byte_at s i) mark_byte)) Second First

-- What stands in the bytes of a plan.
unfoldable pub count_in : List ℕ → ℕ
count_in s = byte_at s (start_of (edition_in s) + count_at)

unfoldable pub share_from : Edition → List ℕ → ℕ → ℕ
share_from First s i = le2 s i
share_from Second s i = le4 s i

unfoldable pub entry_in : List ℕ → ℕ → Entry
entry_in s i =
    record {
      node = byte_at s (entry_at (edition_in s) i);
      parent = byte_at s (entry_at (edition_in s) i + entry_parent_at);
      kind = byte_at s (body_at (edition_in s) (count_in s) i);
      share = share_from (edition_in s) s (body_at (edition_in s) (count_in s) i + body_share_at);
      depth = le4 s (body_at (edition_in s) (count_in s) i + body_depth_at (edition_in s));
    }

unfoldable pub plan_in : List ℕ → Plan
plan_in s =
    record {
      rate = le4 s (start_of (edition_in s) + disk_rate_at);
      depth = le4 s (start_of (edition_in s) + root_depth_at);
      count = count_in s;
      entry = entry_in s;
    }

-- Whether the offset and the kind of entry i are right.
unfoldable pub entry_formed : List ℕ → ℕ → Bool
entry_formed s i =
    every
    (eqb (le2 s (entry_at (edition_in s) i + entry_offset_at)) (body_at (edition_in s) (count_in s) i)
    ∷ leb (entry_in s i).kind (last_kind (edition_in s))
    ∷ [])

-- Whether the length, the count, every offset and every kind are right.
unfoldable pub formed : List ℕ → Bool
formed s =
    every
    (leb (count_in s) last_count
    ∷ eqb (length s) (plan_length (edition_in s) (count_in s))
    ∷ all_below (count_in s) (entry_formed s)
    ∷ [])
