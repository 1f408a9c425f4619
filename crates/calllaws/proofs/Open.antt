-- Open leaves a table in order: the root alone is there, a class without children.
use Prim.Native.Nat.{ℕ, suc, ◌≤◌, ◌<◌}
use mathlib.Core.Path.{◌≡◌, refl, sym, ap, ◌∙◌}
use mathlib.Core.Bool.{true, false}
use mathlib.Core.List.{List}
use native.Mathlib.Omega.{arith}
use native.Mathlib.Decide.{ℕ_discrete}
use lib.IntN.{ℤ, pos}
use Rattle.numbers.specs.Whole.{plus}
use Rattle.numbers.proofs.Tests.{true_false}
use Rattle.numbers.proofs.Parts.{zarith, pos_of_within, plus_pos, minus_pos}
use Rattle.definitions.specs.Limits.{record_length, nodes, sort_at, parent_at, level_at, kind_at, share_at, depth_at, rate_at, balance_at, waiting_at, port_at, fixed, stated, root, whole_share, greatest_rate}
use Rattle.definitions.specs.Places.{place, rate as rate_of, waiting}
use Rattle.definitions.specs.Tree.{tree_of, there}
use Rattle.definitions.specs.Rates.{kind_share, kind_sum, rate_in}
use Rattle.definitions.specs.Order.{in_order}
use Rattle.definitions.specs.Calls.{opened, open_refusal, open_table}
use Rattle.definitions.proofs.Facts.{Limits, Root, Stated, root_unstated, from_facts}
use Rattle.definitions.proofs.ShareKinds.{limit_unstated}
use Rattle.definitions.proofs.Refusals.{kept_new}
use Rattle.treelaws.proofs.Renewed.{rate_at_root}
use Rattle.treelaws.proofs.Children.{under_zero}
use Rattle.definitions.proofs.Edits.{opened_edit, opened_place_law, opened_others, blank_header}
use Rattle.definitions.proofs.Passed.{OpenPassed, open_passed}
use Rattle.calllaws.proofs.Nodes.{Node, Ready, ready_in_order}
use Rattle.calllaws.proofs.Fresh.{zero_unused, unused_node, fresh_node}
use Rattle.calllaws.proofs.Ready.{root_there, root_level, kept_in_order}

module _ (rate depth : ℤ) (passed : OpenPassed rate depth) where
  opened_root : Root (opened rate depth)
  opened_root =
      record {
        sort = (opened_edit rate depth).here sort_at (omega arith);
        parent = opened_place_law rate depth parent_at (omega arith) (omega arith) (omega arith) (omega arith) (omega arith);
        level = opened_place_law rate depth level_at (omega arith) (omega arith) (omega arith) (omega arith) (omega arith);
        kind = opened_place_law rate depth kind_at (omega arith) (omega arith) (omega arith) (omega arith) (omega arith);
        share = (opened_edit rate depth).here share_at (omega arith);
        rate = rw ((opened_edit rate depth).here rate_at (omega arith)) passed.rates;
      }

  -- No other node is there.
  opened_unused : (j : ℕ) → j < nodes → (j ≡ 0 → ⊥) → there (tree_of (opened rate depth)) j ≡ false
  opened_unused j hj ne = zero_unused (opened rate depth) j (opened_others rate depth j 0 hj ne (omega arith))

  opened_limits : Limits (opened rate depth) 0
  opened_limits =
      record {
        sort = rw opened_root.sort (omega (arith, zarith, plus_pos 1, minus_pos 1));
        parent = rw opened_root.parent (omega (arith, zarith, plus_pos 0, minus_pos 0));
        level = rw opened_root.level (omega (arith, zarith, plus_pos 0, minus_pos 0));
        kind = rw opened_root.kind (omega (arith, zarith, plus_pos 0, minus_pos 0));
        share = rw (opened_root.kind, opened_root.share, plus_pos fixed, limit_unstated fixed (omega arith)) (omega (arith, zarith, plus_pos whole_share, minus_pos whole_share));
        depth = rw ((opened_edit rate depth).here depth_at (omega arith)) passed.depths;
        waiting = rw (opened_place_law rate depth waiting_at (omega arith) (omega arith) (omega arith) (omega arith) (omega arith)) (omega (arith, zarith, plus_pos 0, minus_pos 0));
        port = rw (opened_place_law rate depth port_at (omega arith) (omega arith) (omega arith) (omega arith) (omega arith)) (omega (arith, zarith, plus_pos 0, minus_pos 0));
      }

  opened_zeros : (p : ℕ) → p < record_length → balance_at ≤ p → place (opened rate depth) 0 p ≡ pos 0
  opened_zeros p hp low = opened_place_law rate depth p hp (omega arith) (omega arith) (omega arith) (omega arith)

  opened_nodes : (k : ℕ) → k < nodes → Node (opened rate depth) k
  opened_nodes k hk =
      elim (ℕ_discrete k 0) [
        | yes e ↦
            rw e
            (fresh_node (opened rate depth) 0 (λ p hp low other. opened_zeros p hp low)
            (λ j hj child. true_false child.there (opened_unused j hj child.below))
            (root_there (opened rate depth) opened_root)
            opened_limits
            (λ ne. absurd (ne refl))
            (λ c. omega (arith, root_level (opened rate depth) opened_root)))
        | no ne ↦ unused_node (opened rate depth) k (λ p hp. opened_others rate depth k p hk ne hp)
      ]

  opened_waiting : (k : ℕ) → k < nodes → waiting (opened rate depth) k ≡ 0
  unfolding waiting
  opened_waiting k hk =
      elim (ℕ_discrete k 0) [
        | yes e ↦ rw e (ap plus (opened_zeros waiting_at (omega arith) (omega arith)) ∙ plus_pos 0)
        | no ne ↦ ap plus (opened_others rate depth k waiting_at hk ne (omega arith)) ∙ plus_pos 0
      ]

  -- No node is stated.
  opened_stated : Stated (opened rate depth)
  unfolding kind_sum
  opened_stated =
      record {
        under = λ k hk e s.
            elim (ℕ_discrete k root) [
              | yes same ↦ absurd (true_false (rw same at s) (root_unstated (opened rate depth) opened_root))
              | no ne ↦ absurd (true_false e (opened_unused k hk ne))
            ];
        fits =
            omega (
              arith,
              under_zero (tree_of (opened rate depth)) root (kind_share (tree_of (opened rate depth)) stated) (λ j hj child. absurd (true_false child.there (opened_unused j hj child.below))),
            );
      }

  opened_ready : Ready (opened rate depth)
  opened_ready =
      record {
        long = (opened_edit rate depth).long;
        counted = rw ((opened_edit rate depth).heading 0 (omega arith), blank_header 0 (omega arith)) (omega (arith, zarith, plus_pos 0, minus_pos 0));
        heading = λ p hp. (opened_edit rate depth).heading (suc p) (omega arith) ∙ blank_header (suc p) (omega arith);
        root = opened_root;
        node = opened_nodes;
        differ = λ k hk i hi j hj l hl e. omega (arith, opened_waiting k hk);
        stated = opened_stated;
      }

  -- The root has the disk's rate.
  opened_rates : (k : ℕ) → k < nodes → there (tree_of (opened rate depth)) k ≡ true → place (opened rate depth) k rate_at ≡ pos (rate_in (tree_of (opened rate depth)) (rate_of (opened rate depth) 0) k)
  unfolding rate_of
  opened_rates k hk e =
      elim (ℕ_discrete k 0) [
        | yes same ↦
            rw (same, rate_at_root (tree_of (opened rate depth)) (plus (place (opened rate depth) root rate_at)) 0 (root_level (opened rate depth) opened_root))
            (sym (pos_of_within 1 greatest_rate (place (opened rate depth) root rate_at) opened_root.rate))
        | no ne ↦ absurd (true_false e (opened_unused k hk ne))
      ]

  pub opened_in_order : in_order (opened rate depth) ≡ true
  opened_in_order = from_facts _ (ready_in_order _ opened_ready opened_rates)

-- Accepted, and accepted or not.
pub open_keeps : (t : List ℤ) (rate depth : ℤ) → open_refusal t rate depth ≡ 0 → in_order (open_table t rate depth) ≡ true
unfolding open_table
open_keeps t rate depth h = ap in_order (kept_new (open_refusal t rate depth) (opened rate depth) t h) ∙ opened_in_order rate depth (open_passed t rate depth h)

pub open_keeps_order : (t : List ℤ) (rate depth : ℤ) → in_order t ≡ true → in_order (open_table t rate depth) ≡ true
unfolding open_table
open_keeps_order t rate depth = kept_in_order (open_refusal t rate depth) (opened rate depth) t (λ h. opened_in_order rate depth (open_passed t rate depth h))
