-- A scenario passes where the short forms of its steps, computed in turn on the real table of 2,568 numbers, say so.
use Prim.Native.Nat.{ℕ, zero, suc}
use mathlib.Core.Path.{◌≡◌, refl, sym, ap, ◌∙◌}
use mathlib.Core.Bool.{Bool, true, false, ◌&&◌, true≢false}
use mathlib.Core.List.{List, [], ◌∷◌, map}
use lib.ListN.{get_or}
use lib.Dec.{T}
use lib.IntN.{ℤ}
use Rattle.numbers.specs.Whole.{plus, same_ℤ, within_ℤ}
use Rattle.numbers.specs.Tests.{every}
use Rattle.numbers.specs.Below.{sum_below, sum_ℤ_below, all_below, for_below}
use Rattle.numbers.proofs.Every.{head_holds, rest_hold}
use Rattle.definitions.specs.Limits.{share_limit, port_limit}
use Rattle.definitions.specs.Places.{place, put, header, put_header, count, tag, size, arrival}
use Rattle.definitions.specs.Tree.{tree_of, there, is_class, is_client, is_fixed, is_stated, child_of, childless, count_if, test_if, sum_under, each_node, each_class, each_client}
use Rattle.definitions.specs.Rates.{kind_share, kind_sum, fixed_rate, left_rate, weighted_rate, divided_rate, unstated_rate, child_rate, rate_at_level, rate_in, write_rates}
use Rattle.definitions.specs.Cost.{cost, size_within}
use Rattle.definitions.specs.Order.{is_zero, header_in_order, root_in_order, parent_in_order, request_in_order, queue_in_order, differs_at, stated_placed}
use Rattle.definitions.specs.Refusals.{first, outcome, kept}
use Rattle.definitions.specs.Calls.{blank, opened, open_limits, open_refusal, open_table, open_answer, joined, join_limits, cleared, reshared, change_share_limits, requested, request_limits}
use Rattle.definitions.specs.Tick.{grains, enough, supplier_from, supply, is_found, node_found, steps_found, supplier, steps_above, lower, charge, taken_out, dispatched, ready, served, supplied, better, goes_before, choice, of_port, listed}
use Rattle.planformat.specs.Bytes.{byte_at, le2, le4}
use Rattle.planformat.specs.Kinds.{sort_of, share_kind_of}
use Rattle.planformat.specs.Format.{start_of, share_length, last_kind, edition_in, count_in, share_from, entry_in, plan_in, entry_formed, formed}
use Rattle.planlaws.specs.Reading.{opened_for, refusing, standing, rising}
use Rattle.hourlaws.specs.Windows.{whole_windows, window_number, covers, value_by, share_in, tree_at, window_formed, overlap, apart, timetable, share_fits, shares_fit}
use Rattle.hourlaws.specs.SetMinute.{same_node}
use Rattle.scenarios.specs.Scenario.{Scenario, first_lent, second_lent, entries, kept_after, after, sevens, Passes}
use Rattle.scenarios.proofs.Judge.{same_list, same_outcome, holds, run, run_hold}
use Rattle.scenarios.proofs.Near.{zeros, zero_from, record_on, place_near, put_near, tree_near, bound, near_nodes, sum_near, each_near, unused_at, unused_near, next_near, lent_near}
use Rattle.scenarios.proofs.Week.{at_minute, at_turns, minute_sum, parents_below, near_classes, within_near, week_near, windows_below, near_shares, shares_at, reshared_near, nodes_near}
use Rattle.scenarios.proofs.Short.{Ordered, by, with, by_if, with_if, each, short_child_rate, rate_near, rates_near, short_limits, short_spare, short_class, short_rate, short_child, short_balance, short_arrivals, short_stated, short_in_order, order_near, short_join_refusal, short_leave_refusal, short_change_share_refusal, short_change_rate_refusal, short_request_refusal, short_look_refusal, short_same_refusal, short_rates, short_lost, short_waiting, short_all_waiting, short_ports, short_port_waiting, short_tick_refusal, short_grown, short_served, short_cut, short_step_two, short_step_three, short_ticked}
use Rattle.scenarios.proofs.Plan.{short_entry, next_entry, entries_near, opens, short_entries, short_plan, short_timetable_refusal, short_set_minute_refusal, short_reshared, short_minute_table}
use Rattle.scenarios.proofs.Step.{Known, same_bytes, once, read_again, nothing, short_step, known_after, ordered_after}

-- A scenario run by the short forms of its steps. The line under the signature names what antt unfolds to compute it.
unfoldable pub short_run : Scenario → (kept t : List ℤ) → Known → Bool
unfolding plus same_ℤ within_ℤ every sum_below sum_ℤ_below all_below for_below share_limit port_limit place put header put_header count tag size arrival tree_of there is_class is_client is_fixed is_stated child_of childless count_if test_if sum_under each_node each_class each_client kind_share kind_sum fixed_rate left_rate weighted_rate divided_rate unstated_rate child_rate rate_at_level rate_in write_rates is_zero header_in_order root_in_order parent_in_order cost size_within request_in_order queue_in_order differs_at stated_placed first outcome kept blank opened open_limits open_refusal open_table open_answer joined join_limits cleared reshared change_share_limits requested request_limits grains enough supplier_from supply is_found node_found steps_found supplier steps_above lower charge taken_out dispatched ready served supplied better goes_before choice of_port listed first_lent second_lent entries same_list same_outcome byte_at le2 le4 sort_of share_kind_of start_of share_length last_kind edition_in count_in share_from entry_in plan_in entry_formed formed opened_for refusing standing rising whole_windows window_number covers value_by share_in tree_at window_formed overlap apart timetable share_fits shares_fit same_node zeros zero_from record_on place_near put_near tree_near bound near_nodes sum_near each_near unused_at unused_near next_near lent_near at_minute at_turns minute_sum parents_below near_classes within_near week_near windows_below near_shares shares_at reshared_near nodes_near by with by_if with_if each short_child_rate rate_near rates_near short_limits short_spare short_class short_rate short_child short_balance short_arrivals short_stated short_in_order order_near short_join_refusal short_leave_refusal short_change_share_refusal short_change_rate_refusal short_request_refusal short_look_refusal short_same_refusal short_rates short_lost short_waiting short_all_waiting short_ports short_port_waiting short_tick_refusal short_grown short_served short_cut short_step_two short_step_three short_ticked short_entry next_entry entries_near opens short_entries short_plan short_timetable_refusal short_set_minute_refusal short_reshared short_minute_table same_bytes once read_again nothing short_step
short_run [] = λ kept t known. true
short_run (step ∷ steps) = λ kept t known. (short_step step (short_run steps) kept t known).value

run_is : (steps : Scenario) (kept t : List ℤ) (known : Known) → Ordered t known.ordered → run steps kept t ≡ short_run steps kept t known
unfolding run short_run
run_is [] kept t known order = refl
run_is (step ∷ steps) kept t known order =
    ap (λ (b : Bool). holds step kept t && b)
    (run_is steps (kept_after step kept t) (after step t) (known_after step t known) (ordered_after step t known order))
    ∙ (short_step step (short_run steps) kept t known).same order

-- The test of a scenario.
unfoldable pub passes : Scenario → Bool
unfolding short_run sevens
passes steps = short_run steps sevens sevens nothing

passed : (steps : Scenario) → passes steps ≡ true → Passes steps
unfolding Passes passes nothing
passed steps h = run_hold steps sevens sevens (run_is steps sevens sevens nothing (λ e. absurd (true≢false (sym e))) ∙ h)

-- Whether every one of these scenarios passes.
unfoldable pub all_pass : List Scenario → Bool
all_pass scenarios = every (map passes scenarios)

no_steps : passes [] ≡ true
unfolding passes short_run
no_steps = refl

passed_at : (scenarios : List Scenario) → all_pass scenarios ≡ true → (k : ℕ) → Passes (get_or scenarios k [])
unfolding all_pass
passed_at [] h k = passed [] no_steps
passed_at (steps ∷ scenarios) h zero = passed steps (head_holds (passes steps) (map passes scenarios) h)
passed_at (steps ∷ scenarios) h (suc k) = passed_at scenarios (rest_hold (passes steps) (map passes scenarios) h) k

truth : (b : Bool) → T b → b ≡ true
truth true h = refl
truth false h = absurd h

-- Where antt has computed that all do, each passes, by its place in the list.
pub at : (scenarios : List Scenario) → T (all_pass scenarios) → (k : ℕ) → Passes (get_or scenarios k [])
at scenarios h = passed_at scenarios (truth (all_pass scenarios) h)
