-- The table that an accepted open leaves agrees with the observer at the start: both show the root alone.
use Prim.Native.Nat.{ℕ, ◌+◌, ◌*◌, ◌≤◌, ◌<◌}
use mathlib.Core.Path.{◌≡◌, ap, ◌∙◌}
use mathlib.Core.List.{List}
use native.Mathlib.Omega.{arith}
use native.Mathlib.Decide.{dec_lt, ℕ_discrete}
use lib.ListN.{length, length-replicate, get_or-eq_default}
use lib.IntN.{ℤ, pos}
use Rattle.numbers.specs.Whole.{plus}
use Rattle.numbers.proofs.Parts.{plus_pos}
use Rattle.definitions.specs.Limits.{table_length, header_length, record_length, nodes, sort_at, parent_at, level_at, kind_at, share_at, depth_at, rate_at, waiting_at, whole_share}
use Rattle.definitions.specs.Places.{place, rate as rate_of, waiting}
use Rattle.definitions.specs.Tree.{tree_of}
use Rattle.definitions.specs.Calls.{blank, opened, open_refusal, open_table}
use Rattle.definitions.proofs.Refusals.{kept_new}
use Rattle.definitions.proofs.Edits.{opened_edit, opened_node, opened_place_law, blank_place}
use Rattle.definitions.proofs.Passed.{open_passed}
use Rattle.calllaws.proofs.Open.{opened_in_order}
use Rattle.bounds.specs.Observer.{start}
use Rattle.bounds.proofs.Simulation.{Agrees}
use Rattle.bounds.proofs.Trees.{set_column, same_column}

-- A table of zeros shows zeros, also beyond its end.
blank_beyond : (j p : ℕ) → nodes ≤ j → place blank j p ≡ pos 0
unfolding place blank
blank_beyond j p far =
    let past : length blank ≤ header_length + record_length * j + p = omega (arith, length-replicate table_length (pos 0)) in
    get_or-eq_default blank (pos 0) past

blank_everywhere : (j p : ℕ) → p < record_length → place blank j p ≡ pos 0
blank_everywhere j p hp = elim (dec_lt j nodes) [ yes l ↦ blank_place j p l hp | no l ↦ blank_beyond j p (omega arith) ]

opened_zero : (rate depth : ℤ) (p : ℕ) → p < record_length → (j : ℕ) → (j ≡ 0 → ⊥) → plus (place (opened rate depth) j p) ≡ 0
opened_zero rate depth p hp j ne = ap plus ((opened_edit rate depth).others j p ne hp ∙ blank_everywhere j p hp) ∙ plus_pos 0

opened_tree : (rate depth : ℤ) → tree_of (opened rate depth) ≡ (start rate depth).tree
unfolding tree_of start
opened_tree rate depth =
    let here = opened_node rate depth in
    λ i.
    record {
      sort = set_column 0 1 (λ k. 0) (λ k. plus (place (opened rate depth) k sort_at)) here.sort (opened_zero rate depth sort_at (omega arith)) i;
      parent = same_column 0 (λ k. 0) (λ k. plus (place (opened rate depth) k parent_at)) here.parent (opened_zero rate depth parent_at (omega arith)) i;
      level = same_column 0 (λ k. 0) (λ k. plus (place (opened rate depth) k level_at)) here.level (opened_zero rate depth level_at (omega arith)) i;
      kind = same_column 0 (λ k. 0) (λ k. plus (place (opened rate depth) k kind_at)) here.kind (opened_zero rate depth kind_at (omega arith)) i;
      share = set_column 0 whole_share (λ k. 0) (λ k. plus (place (opened rate depth) k share_at)) here.share (opened_zero rate depth share_at (omega arith)) i;
      depth = set_column 0 (plus depth) (λ k. 0) (λ k. plus (place (opened rate depth) k depth_at)) here.depth (opened_zero rate depth depth_at (omega arith)) i;
    }

opened_idle : (rate depth : ℤ) (k : ℕ) → waiting (opened rate depth) k ≡ 0
unfolding waiting
opened_idle rate depth k =
    elim (ℕ_discrete k 0) [
      | yes e ↦ rw e (ap plus (opened_place_law rate depth waiting_at (omega arith) (omega arith) (omega arith) (omega arith) (omega arith)) ∙ plus_pos 0)
      | no ne ↦ opened_zero rate depth waiting_at (omega arith) k ne
    ]

pub opened_agrees : (t : List ℤ) (rate depth : ℤ) → open_refusal t rate depth ≡ 0 → Agrees (open_table t rate depth) (start rate depth)
unfolding open_table rate_of start
opened_agrees t rate depth h =
    rw (kept_new (open_refusal t rate depth) (opened rate depth) t h)
    (record {
      order = opened_in_order rate depth (open_passed t rate depth h);
      tree = opened_tree rate depth;
      disk = ap plus ((opened_edit rate depth).here rate_at (omega arith));
      queue = λ k e. omega (arith, opened_idle rate depth k);
    })
