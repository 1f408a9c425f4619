-- Two plans in bytes whose nodes are worked by hand, one of each edition. The first: disk 1000, root depth 40; class 1 has weight
-- 2 and depth 20; client 2 in it has the fixed half of its rate and depth 10. Its kinds are 1 and 2, so it tells the two apart.
use Prim.Native.Nat.{ℕ}
use mathlib.Core.Path.{◌≡◌, refl}
use mathlib.Core.Bool.{true, false}
use mathlib.Core.List.{List, [], ◌∷◌}
use Rattle.numbers.specs.Tests.{every}
use Rattle.numbers.specs.Below.{all_below}
use Rattle.definitions.specs.Limits.{class, client, fixed, weighted, stated}
use Rattle.planformat.specs.declared.Edition.TheVariants.{First, Second}
use Rattle.planformat.specs.Bytes.{byte_at, le2, le4, bytes2, bytes4, bytes_below}
use Rattle.planformat.specs.Kinds.{kind_of, sort_of, share_kind_of}
use Rattle.planformat.specs.Format.{edition_number, mark_bytes, start_of, share_length, last_kind, head_bytes, entry_bytes, share_bytes, body_bytes, bytes_of, edition_in, count_in, share_from, entry_in, plan_in, entry_formed, formed}

abbrev pub mixed : List ℕ
mixed =
    0xE8 ∷ 0x03 ∷ 0x00 ∷ 0x00 ∷ 0x28 ∷ 0x00 ∷ 0x00 ∷ 0x00 ∷ 0x02 ∷ 0x01 ∷ 0x00 ∷ 0x11 ∷ 0x00 ∷ 0x02 ∷ 0x01 ∷ 0x18 ∷ 0x00 ∷ 0x01 ∷ 0x02 ∷ 0x00 ∷ 0x14 ∷ 0x00 ∷ 0x00 ∷ 0x00 ∷ 0x02 ∷ 0x88 ∷ 0x13 ∷ 0x0A ∷ 0x00 ∷ 0x00 ∷ 0x00 ∷ []

pub mixed_formed : formed mixed ≡ true
unfolding formed every all_below entry_formed entry_in count_in le4 le2 byte_at start_of edition_in share_length last_kind
mixed_formed = refl

-- What the plan says of its two nodes.
pub mixed_class : (plan_in mixed).entry 0 ≡ record { node = 1; parent = 0; kind = kind_of class weighted; share = 2; depth = 20 }
unfolding plan_in entry_in count_in le4 le2 byte_at kind_of start_of share_from edition_in all_below share_length
mixed_class = refl

pub mixed_client : (plan_in mixed).entry 1 ≡ record { node = 2; parent = 1; kind = kind_of client fixed; share = 5000; depth = 10 }
unfolding plan_in entry_in count_in le4 le2 byte_at kind_of start_of share_from edition_in all_below share_length
mixed_client = refl

-- Their sorts and share kinds, as reading takes them.
pub class_weighted_law : (sort_of ((plan_in mixed).entry 0).kind ≡ class) × (share_kind_of ((plan_in mixed).entry 0).kind ≡ weighted)
unfolding plan_in entry_in count_in le4 le2 byte_at sort_of share_kind_of start_of edition_in all_below share_length
class_weighted_law = (refl, refl)

pub client_fixed_law : (sort_of ((plan_in mixed).entry 1).kind ≡ client) × (share_kind_of ((plan_in mixed).entry 1).kind ≡ fixed)
unfolding plan_in entry_in count_in le4 le2 byte_at sort_of share_kind_of start_of edition_in all_below share_length
client_fixed_law = (refl, refl)

-- Written in the first edition, which it is of, it is the same bytes. The edition's number is 1.
pub mixed_edition : (edition_in mixed ≡ First) × (edition_number (edition_in mixed) ≡ 1)
unfolding edition_in edition_number all_below byte_at
mixed_edition = (refl, refl)

pub mixed_bytes : bytes_of First (plan_in mixed) ≡ mixed
unfolding plan_in entry_in count_in le4 le2 byte_at start_of share_from edition_in all_below share_length bytes_of head_bytes mark_bytes entry_bytes share_bytes body_bytes bytes_below bytes2 bytes4
mixed_bytes = refl

-- A plan of the second edition: disk 1000, root depth 40; class 1 has the stated rate 300 and depth 20; client 2 in it has
-- weight 1 and depth 10. Offsets count from the first FF: the bodies begin at 4 + 9 + 2 x 4 = 21 and at 30.
abbrev pub stated_plan : List ℕ
stated_plan =
    0xFF ∷ 0xFF ∷ 0xFF ∷ 0xFF ∷ 0xE8 ∷ 0x03 ∷ 0x00 ∷ 0x00 ∷ 0x28 ∷ 0x00 ∷ 0x00 ∷ 0x00 ∷ 0x02 ∷ 0x01 ∷ 0x00 ∷ 0x15 ∷ 0x00 ∷ 0x02 ∷ 0x01 ∷ 0x1E ∷ 0x00 ∷ 0x04 ∷ 0x2C ∷ 0x01 ∷ 0x00 ∷ 0x00 ∷ 0x14 ∷ 0x00 ∷ 0x00 ∷ 0x00 ∷ 0x03 ∷ 0x01 ∷ 0x00 ∷ 0x00 ∷ 0x00 ∷ 0x0A ∷ 0x00 ∷ 0x00 ∷ 0x00 ∷ []

pub stated_edition : (edition_in stated_plan ≡ Second) × (edition_number (edition_in stated_plan) ≡ 2)
unfolding edition_in edition_number all_below byte_at
stated_edition = (refl, refl)

pub stated_formed : formed stated_plan ≡ true
unfolding formed every all_below entry_formed entry_in count_in le4 le2 byte_at start_of edition_in share_length last_kind
stated_formed = refl

pub stated_class_law : (plan_in stated_plan).entry 0 ≡ record { node = 1; parent = 0; kind = kind_of class stated; share = 300; depth = 20 }
unfolding plan_in entry_in count_in le4 le2 byte_at kind_of start_of share_from edition_in all_below share_length
stated_class_law = refl

pub weighted_client : (plan_in stated_plan).entry 1 ≡ record { node = 2; parent = 1; kind = kind_of client weighted; share = 1; depth = 10 }
unfolding plan_in entry_in count_in le4 le2 byte_at kind_of start_of share_from edition_in all_below share_length
weighted_client = refl

pub stated_bytes : bytes_of Second (plan_in stated_plan) ≡ stated_plan
unfolding plan_in entry_in count_in le4 le2 byte_at start_of share_from edition_in all_below share_length bytes_of head_bytes mark_bytes entry_bytes share_bytes body_bytes bytes_below bytes2 bytes4
stated_bytes = refl

-- Its kind 4 is wrong in the first edition: the same plan written there is not well formed.
pub stated_not_first : formed (bytes_of First (plan_in stated_plan)) ≡ false
unfolding formed every all_below entry_formed plan_in entry_in count_in le4 le2 byte_at start_of share_from edition_in share_length last_kind bytes_of head_bytes mark_bytes entry_bytes share_bytes body_bytes bytes_below bytes2 bytes4
stated_not_first = refl
