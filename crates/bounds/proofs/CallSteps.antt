-- The laws of one call that is no accepted tick: there are no entries and no rate counts, so a class that stays and a client that
-- waits have the balance and the depth they had. A refused call, whichever it is, leaves the table and the observer as they were.
use Prim.Native.Nat.{ℕ}
use mathlib.Core.Path.{◌≡◌, refl, sym, ap, ◌∙◌}
use mathlib.Core.Bool.{Bool, true, false, cond, ◌&&◌, and-true}
use mathlib.Core.Logic.{inl}
use mathlib.Core.List.{List, [], ◌∷◌}
use native.Mathlib.Omega.{arith}
use lib.IntN.{ℤ}
use Rattle.numbers.specs.Whole.{plus, minus}
use Rattle.numbers.specs.Tests.{every}
use Rattle.numbers.proofs.Tests.{true_false, cond_false}
use Rattle.numbers.proofs.Every.{every_two, head_fails, rest_fail}
use Rattle.definitions.specs.Tree.{is_class, is_client}
use Rattle.definitions.specs.Refusals.{Outcome, accepted, refused, outcome, kept}
use Rattle.definitions.proofs.Refusals.{kept_new, outcome_accepted}
use Rattle.calllaws.proofs.Nodes.{class_same, client_same}
use Rattle.runs.specs.Runs.{Call, without_lists, after, is_tick, leaves, accepts, event_of}
use Rattle.runs.proofs.Refused.{accepted_none, refused_keeps}
use Rattle.bounds.specs.Observer.{Observer, Entry, dispatched_by, entries, after_accepted, after_answer, observed}
use Rattle.bounds.specs.Counts.{accepted_tick, rate_at, grains_to_node, sum_over, waits, takes_out}
use Rattle.bounds.proofs.Simulation.{Agrees, ClassStep, ClientStep, Step}
use Rattle.bounds.proofs.Changes.{Change, unchanged}

none_dispatched : (ticks : Bool) (answer : Outcome) (first second : List ℤ) → every (ticks ∷ accepts answer ∷ []) ≡ false → cond ticks (dispatched_by answer first second) [] ≡ []
unfolding every accepts dispatched_by
none_dispatched true (accepted values) first second h = absurd (true_false refl h)
none_dispatched true (refused number) first second h = refl
none_dispatched false answer first second h = refl

-- By what the call changes; `out c` says whether it takes class c out.
module _ (t : List ℤ) (o : Observer) (call : Call) (idle : accepted_tick (event_of t call) ≡ false) (out : ℕ → Bool) (outs : (c : ℕ) → takes_out c (event_of t call) ≡ out c) (d : Change t (after t call).table o (observed o (event_of t call)) out) where
  no_entries : entries (event_of t call) ≡ []
  unfolding accepted_tick entries event_of
  no_entries = none_dispatched (is_tick call) (after t call).answer (after t call).first (after t call).second idle

  no_rate : (k : ℕ) → rate_at o k (event_of t call) ≡ 0
  unfolding rate_at
  no_rate k = cond_false (accepted_tick (event_of t call)) _ 0 idle

  idle_class : (c : ℕ) → is_class o.tree c ≡ true → takes_out c (event_of t call) ≡ false → ClassStep t o call c
  unfolding sum_over
  idle_class c e stays =
      let same = d.class c e (sym (outs c) ∙ stays) in
      record {
        class = class_same (observed o (event_of t call)).tree o.tree c same.sort ∙ e;
        level = same.level;
        depth = same.depth;
        line =
            omega (
              arith,
              ap plus same.balance,
              ap minus same.balance,
              ap (sum_over (grains_to_node o.tree c)) no_entries,
              no_rate c,
            );
      }

  idle_client : (k : ℕ) → is_client (observed o (event_of t call)).tree k ≡ true → waits (observed o (event_of t call)) k ≡ true → ClientStep t o call k
  idle_client k e busy =
      let same = d.client k e busy in
      record {
        client = sym (client_same (observed o (event_of t call)).tree o.tree k same.sort) ∙ e;
        depth = same.depth;
        line = omega (arith, ap plus same.balance, no_rate k);
        end = inl (no_rate k, ap plus same.balance);
      }

  idle_step : Step t o call
  unfolding sum_over
  idle_step = record { agrees = d.agrees; stays = outs _ ∙ d.root; all = rw no_entries; class = idle_class; client = idle_client }

-- An accepted call other than a tick leaves the new contents.
pub quiet_step :
    (t : List ℤ) (o : Observer) (call : Call) (refusal : ℕ) (new values : List ℤ) → is_tick call ≡ false
    → after t call ≡ without_lists (kept refusal new t) (outcome refusal values) → accepts (after t call).answer ≡ true
    → (refusal ≡ 0 → Change t new o (after_accepted o call []) (λ c. leaves c call)) → Step t o call
unfolding accepted_tick takes_out entries event_of observed after_answer
quiet_step t o call refusal new values quiet made h change =
    let e = accepted_none refusal values (rw made at h) in
    idle_step t o call (head_fails _ _ quiet) (λ c. leaves c call)
    (λ c. every_two (leaves c call) (accepts (after t call).answer) ∙ ap (λ (b : Bool). leaves c call && b) h ∙ and-true (leaves c call))
    (rw (made, quiet, kept_new refusal new t e, outcome_accepted refusal values e) (change e))

-- A refused call.
refused_observed : (o : Observer) (call : Call) (answer : Outcome) (list : List Entry) → accepts answer ≡ false → after_answer o call answer list ≡ o
unfolding accepts after_answer
refused_observed o call (accepted values) list h = absurd (true_false refl h)
refused_observed o call (refused number) list h = refl

pub refused_step : (t : List ℤ) (o : Observer) (call : Call) → Agrees t o → accepts (after t call).answer ≡ false → Step t o call
unfolding accepted_tick takes_out event_of observed
refused_step t o call a h =
    let fails : every (accepts (after t call).answer ∷ []) ≡ false = head_fails _ _ h in
    idle_step t o call (rest_fail _ _ fails) (λ c. false) (λ c. rest_fail _ _ fails)
    (rw (refused_keeps t call h, refused_observed o call (after t call).answer (entries (event_of t call)) h) (unchanged t o a))
