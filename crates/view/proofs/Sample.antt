-- The plan of document 01 lists one node, 5: a client of weight 4 and depth 16. The plan of the second edition lists two:
-- class 1 of the stated rate 300 and depth 20, and client 2 of weight 1 and depth 10.
use Prim.Native.Nat.{ℕ}
use mathlib.Core.Path.{◌≡◌, refl}
use mathlib.Core.List.{List, [], ◌∷◌}
use lib.IntN.{pos}
use Rattle.numbers.specs.Tests.{every}
use Rattle.numbers.specs.Below.{all_below}
use Rattle.definitions.specs.Refusals.{accepted, refused}
use Rattle.planformat.specs.Bytes.{byte_at, le2, le4}
use Rattle.planformat.specs.Format.{start_of, share_length, last_kind, edition_in, count_in, share_from, entry_in, entry_formed, formed}
use Rattle.planformat.proofs.Example.{stated_plan}
use Rattle.view.specs.Answer.{body_values, listed_from, body_answer}

abbrev pub sample : List ℕ
sample = 232 ∷ 3 ∷ 0 ∷ 0 ∷ 40 ∷ 0 ∷ 0 ∷ 0 ∷ 1 ∷ 5 ∷ 0 ∷ 13 ∷ 0 ∷ 3 ∷ 4 ∷ 0 ∷ 16 ∷ 0 ∷ 0 ∷ 0 ∷ []

pub sample_listed : body_answer sample 5 ≡ accepted (pos 3 ∷ pos 4 ∷ pos 16 ∷ [])
unfolding body_answer listed_from body_values formed entry_formed entry_in count_in byte_at le2 le4 every all_below start_of edition_in share_length last_kind share_from
sample_listed = refl

pub sample_not_listed : body_answer sample 6 ≡ accepted []
unfolding body_answer listed_from body_values formed entry_formed entry_in count_in byte_at le2 le4 every all_below start_of edition_in share_length last_kind share_from
sample_not_listed = refl

pub stated_listed : body_answer stated_plan 1 ≡ accepted (pos 4 ∷ pos 300 ∷ pos 20 ∷ [])
unfolding body_answer listed_from body_values formed entry_formed entry_in count_in byte_at le2 le4 every all_below start_of edition_in share_length last_kind share_from
stated_listed = refl

pub weighted_listed : body_answer stated_plan 2 ≡ accepted (pos 3 ∷ pos 1 ∷ pos 10 ∷ [])
unfolding body_answer listed_from body_values formed entry_formed entry_in count_in byte_at le2 le4 every all_below start_of edition_in share_length last_kind share_from
weighted_listed = refl

pub stated_not_listed : body_answer stated_plan 3 ≡ accepted []
unfolding body_answer listed_from body_values formed entry_formed entry_in count_in byte_at le2 le4 every all_below start_of edition_in share_length last_kind share_from
stated_not_listed = refl

pub no_plan : body_answer [] 5 ≡ refused 14
unfolding body_answer formed count_in byte_at every start_of edition_in all_below share_length
no_plan = refl
