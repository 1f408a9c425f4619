-- What is printed for document 01's plan and for empty input. Whether the table is in order before the join is known by a
-- law; all else is computed on the real table of 2,568 numbers.
use Prim.Native.Nat.{ℕ}
use mathlib.Core.Path.{◌≡◌, refl, sym, ap, ◌∙◌}
use mathlib.Core.Bool.{true, not}
use mathlib.Core.List.{List, [], ◌∷◌}
use lib.ListN.{length, length-replicate}
use lib.IntN.{ℤ, pos}
use Rattle.numbers.specs.Whole.{plus, within_ℤ}
use Rattle.numbers.specs.Tests.{every}
use Rattle.numbers.specs.Below.{sum_below, all_below}
use Rattle.definitions.specs.Limits.{table_length, nodes, root, share_limit, port_limit}
use Rattle.definitions.specs.Places.{place, put, rate}
use Rattle.definitions.specs.Order.{stated_placed, stated_in_order, in_order}
use Rattle.definitions.specs.Refusals.{first}
use Rattle.definitions.specs.Tree.{tree_of, there, is_class, is_client, is_fixed, is_stated, child_of, count_if, test_if, sum_under, each_node}
use Rattle.definitions.specs.Rates.{kind_share, kind_sum, fixed_rate, left_rate, weighted_rate, divided_rate, unstated_rate, child_rate, rate_at_level, rate_in, renewed}
use Rattle.definitions.specs.Calls.{blank, opened, open_limits, open_refusal, joined, join_limits, sum_causes, join_refusal, shares_above, depths_above, stated_wrong}
use Rattle.definitions.proofs.Refusals.{first_none, first_end}
use Rattle.treelaws.specs.Joins.{Join, refusal_of, joined_by}
use Rattle.treelaws.proofs.Joined.{after_join_law}
use Rattle.calllaws.proofs.Open.{opened_in_order}
use Rattle.planformat.specs.Bytes.{byte_at, le2, le4, bytes_below}
use Rattle.planformat.specs.Kinds.{sort_of, share_kind_of}
use Rattle.planformat.specs.Format.{start_of, share_length, last_kind, edition_in, count_in, share_from, entry_in, plan_in, entry_formed, formed}
use Rattle.planlaws.specs.Reading.{join_of, entry_refusal, after_entry, after_entries, entries_refusal, opened_for, joined_for, rising, plan_refusal, plan_table, check_answer}
use Rattle.planlaws.proofs.Accepted.{after_none, after_suc, entries_none, entries_suc, accepted_plan, plan_table_law, opened_for_law}
use Rattle.text.specs.Text.{ascii, decimal_within, decimal, refused_line}
use Rattle.report.specs.Text.{sort_text, node_line, lines_of, report_of}
use Rattle.report.proofs.Texts.{accepted_report}
use Rattle.report.proofs.Renewed.{line_in, lines_renewed}

-- Empty input.
pub empty_input : report_of [] ≡ ascii "refused 14\n"
unfolding report_of refused_line decimal decimal_within ascii check_answer plan_refusal formed every count_in byte_at first blank start_of edition_in all_below share_length
empty_input = refl

-- Document 01's plan: disk 1000, root depth 40, client 5 alone, weight 4, depth 16.
abbrev pub sample : List ℕ
sample = 0xE8 ∷ 0x03 ∷ 0x00 ∷ 0x00 ∷ 0x28 ∷ 0x00 ∷ 0x00 ∷ 0x00 ∷ 0x01 ∷ 0x05 ∷ 0x00 ∷ 0x0D ∷ 0x00 ∷ 0x03 ∷ 0x04 ∷ 0x00 ∷ 0x10 ∷ 0x00 ∷ 0x00 ∷ 0x00 ∷ []

-- Its join, and the tables before and after it, where the rates are not yet renewed.
five : Join
five = record { node = pos 5; parent = pos 0; sort = pos 2; kind = pos 1; share = pos 4; depth = pos 16; port = pos 0 }

before : List ℤ
before = opened (pos 1000) (pos 40)

after : List ℤ
after = joined_by before five

join_is : join_of ((plan_in sample).entry 0) ≡ five
unfolding five join_of sort_of share_kind_of plan_in entry_in count_in le4 le2 byte_at start_of share_from edition_in all_below share_length
join_is = refl

-- Open is accepted, and the join.
open_accepted : open_refusal blank (pos (plan_in sample).rate) (pos (plan_in sample).depth) ≡ 0
unfolding plan_in le4 le2 byte_at open_refusal open_limits first every within_ℤ plus blank start_of edition_in all_below
open_accepted = refl

opened_is : opened_for blank (plan_in sample) ≡ before
unfolding before plan_in le4 le2 byte_at start_of edition_in all_below
opened_is = opened_for_law blank (plan_in sample) open_accepted

in_order_law : in_order before ≡ true
unfolding before within_ℤ plus
in_order_law = opened_in_order (pos 1000) (pos 40) (record { rates = refl; depths = refl })

no_cause : join_refusal before (pos 5) (pos 0) (pos 2) (pos 1) (pos 4) (pos 16) (pos 0) ≡ 0
unfolding before join_refusal join_limits sum_causes shares_above depths_above stated_wrong stated_in_order stated_placed each_node test_if all_below joined opened blank share_limit port_limit kind_sum kind_share sum_under child_of count_if there is_client is_stated rate tree_of place put sum_below every plus within_ℤ
no_cause =
    first_none 1 _ _ (ap not in_order_law)
    (first_none 2 _ _ refl
    (first_none 3 _ _ refl
    (first_none 4 _ _ refl
    (first_none 5 _ _ refl (first_none 6 _ _ refl (first_none 7 _ _ refl (first_none 8 _ _ refl (first_none 16 _ _ refl first_end))))))))

join_accepted : refusal_of before five ≡ 0
unfolding five refusal_of
join_accepted = no_cause

first_join : after_entries (opened_for blank (plan_in sample)) (plan_in sample) 0 ≡ before
first_join = after_none _ _ ∙ opened_is

joins_accepted : entries_refusal (opened_for blank (plan_in sample)) (plan_in sample) 1 ≡ 0
unfolding entry_refusal
joins_accepted = entries_suc _ _ 0 (entries_none _ _) ∙ rw (first_join, join_is) join_accepted

accepted : check_answer sample ≡ 0
unfolding check_answer plan_in entry_in count_in le4 le2 byte_at formed entry_formed every all_below rising blank start_of edition_in share_length last_kind
accepted =
    accepted_plan blank sample
    (record { long = length-replicate table_length (pos 0); formed = refl; opening = open_accepted; joining = joins_accepted; rising = refl })

-- The table that it makes.
all_joined : joined_for blank (plan_in sample) ≡ after_entries (opened_for blank (plan_in sample)) (plan_in sample) 1
unfolding joined_for plan_in count_in byte_at start_of edition_in all_below
all_joined = refl

table_is : plan_table blank sample ≡ renewed after
unfolding check_answer after_entry after
table_is =
    plan_table_law blank sample accepted
    ∙ all_joined
    ∙ after_suc (opened_for blank (plan_in sample)) (plan_in sample) 0
    ∙ rw (first_join, join_is) (after_join_law before five join_accepted)

-- Its lines.
lines : bytes_below nodes (line_in (tree_of after) (rate after root)) ≡ ascii "0 class 1000\n5 client 1000\n"
unfolding after before five joined_by joined opened blank line_in node_line sort_text decimal decimal_within ascii bytes_below there is_class is_fixed is_stated child_of count_if sum_under sum_below every rate tree_of place put plus kind_share kind_sum divided_rate unstated_rate fixed_rate left_rate weighted_rate child_rate rate_at_level rate_in
lines = refl

long : length after ≡ table_length
unfolding after before five joined_by joined opened blank put plus
long = refl

pub one_client : report_of sample ≡ ascii "0 class 1000\n5 client 1000\n"
one_client = sym (accepted_report sample accepted) ∙ ap lines_of table_is ∙ lines_renewed after long ∙ lines
