-- An accepted set minute: balances and requests stay, and each node of the observer's tree gets the kind and share of the tree at
-- the minute.
use Prim.Native.Nat.{ℕ, ◌+◌, ◌≤◌}
use mathlib.Core.Path.{◌≡◌, refl, sym, ap, ◌∙◌, fun_ext}
use mathlib.Core.Bool.{true, false, not, cond}
use mathlib.Core.List.{List, []}
use native.Mathlib.Omega.{arith}
use native.Mathlib.Decide.{dec_lt}
use lib.Dec.{eqb}
use lib.ListN.{length}
use lib.IntN.{ℤ}
use Rattle.numbers.specs.Whole.{plus}
use Rattle.numbers.proofs.Tests.{by_test, true_false, cond_true, cond_false}
use Rattle.numbers.proofs.Parts.{plus_pos}
use Rattle.definitions.specs.Limits.{table_length, nodes, sort_at, kind_at, share_at, rate_at, balance_at, waiting_at, root}
use Rattle.definitions.specs.Places.{place, rate as rate_of, balance, waiting}
use Rattle.definitions.specs.Tree.{Tree, tree_of, there, is_client}
use Rattle.definitions.specs.Rates.{renewed}
use Rattle.definitions.specs.Order.{in_order}
use Rattle.definitions.proofs.Facts.{InOrder, facts}
use Rattle.treelaws.proofs.Renewed.{beyond}
use Rattle.hourlaws.specs.Windows.{tree_at}
use Rattle.hourlaws.specs.SetMinute.{planned, set_minute_refusal, reshared_as, minute_table}
use Rattle.hourlaws.proofs.Passed.{SetMinutePassed, set_minute_passed, timetabled, planned_in_order}
use Rattle.hourlaws.proofs.Reshared.{Reshared, all_reshared, Suits, new_kind, new_share, same_sort, same_parent, same_level, same_depth}
use Rattle.hourlaws.proofs.Kept.{minute_below, suits, changed}
use Rattle.runs.specs.Runs.{set_minute, leaves}
use Rattle.bounds.specs.Observer.{Observer, with_shares, after_accepted}
use Rattle.bounds.proofs.Simulation.{Agrees}
use Rattle.bounds.proofs.Changes.{Change, all_same}
use Rattle.bounds.proofs.Renewing.{renewed_agrees, renewed_same}

-- Nobody is there beyond the table's end.
nobody : (t : List ℤ) (k : ℕ) → length t ≡ table_length → nodes ≤ k → there (tree_of t) k ≡ false
unfolding there tree_of place plus
nobody t k long far = ap (λ (z : ℤ). not (eqb (plus z) 0)) (beyond t k sort_at long far)

-- A column of which the nodes that are there have the given number, and the others the old one.
given_column : (old : Tree) (f g given : ℕ → ℕ) → ((j : ℕ) → there old j ≡ true → g j ≡ given j) → ((j : ℕ) → there old j ≡ false → g j ≡ f j) → g ≡ (λ j. cond (there old j) (given j) (f j))
given_column old f g given here gone =
    fun_ext (λ j. by_test (there old j) (λ e. here j e ∙ sym (cond_true _ (given j) (f j) e)) (λ e. gone j e ∙ sym (cond_false _ (given j) (f j) e)))

module _ (tree : Tree) (t u : List ℤ) (r : Reshared tree t nodes u) (s : Suits t tree) (o : InOrder t) where
  -- The kind and the share of a node that is there, and of one that is not.
  kinds : (j : ℕ) → there (tree_of t) j ≡ true → (tree_of u).kind j ≡ tree.kind j
  kinds j e = elim (dec_lt j nodes) [ yes l ↦ new_kind tree t u r s j l | no n ↦ absurd (true_false e (nobody t j o.long (omega arith))) ]

  shares : (j : ℕ) → there (tree_of t) j ≡ true → (tree_of u).share j ≡ tree.share j
  shares j e = elim (dec_lt j nodes) [ yes l ↦ new_share tree t u r s j l | no n ↦ absurd (true_false e (nobody t j o.long (omega arith))) ]

  no_kinds : (j : ℕ) → there (tree_of t) j ≡ false → (tree_of u).kind j ≡ (tree_of t).kind j
  unfolding tree_of
  no_kinds j e =
      elim (dec_lt j nodes) [
        | yes l ↦ (new_kind tree t u r s j l ∙ s.no_kind j l e ∙ sym (ap plus (o.empty j l e kind_at (omega arith)) ∙ plus_pos 0))
        | no n ↦ ap plus (r.beyond j kind_at (omega arith) (omega arith))
      ]

  no_shares : (j : ℕ) → there (tree_of t) j ≡ false → (tree_of u).share j ≡ (tree_of t).share j
  unfolding tree_of
  no_shares j e =
      elim (dec_lt j nodes) [
        | yes l ↦ (new_share tree t u r s j l ∙ s.no_share j l e ∙ sym (ap plus (o.empty j l e share_at (omega arith)) ∙ plus_pos 0))
        | no n ↦ ap plus (r.beyond j share_at (omega arith) (omega arith))
      ]

  pub with_shares_law : tree_of u ≡ with_shares (tree_of t) tree
  unfolding with_shares
  with_shares_law =
      λ i.
      record {
        sort = fun_ext {f = (tree_of u).sort} {g = (tree_of t).sort} (same_sort tree t u r s) i;
        parent = fun_ext {f = (tree_of u).parent} {g = (tree_of t).parent} (same_parent tree t u r s) i;
        level = fun_ext {f = (tree_of u).level} {g = (tree_of t).level} (same_level tree t u r s) i;
        kind = given_column (tree_of t) (tree_of t).kind (tree_of u).kind tree.kind kinds no_kinds i;
        share = given_column (tree_of t) (tree_of t).share (tree_of u).share tree.share shares no_shares i;
        depth = fun_ext {f = (tree_of u).depth} {g = (tree_of t).depth} (same_depth tree t u r s) i;
      }

pub minute_change :
    (t : List ℤ) (o : Observer) (plan : List ℕ) (windows : List ℤ) (minute : ℤ) → Agrees t o → set_minute_refusal t plan windows minute ≡ 0
    → Change t (minute_table t (planned plan) windows (plus minute)) o (after_accepted o (set_minute plan windows minute) []) (λ c. leaves c (set_minute plan windows minute))
unfolding minute_table after_accepted with_shares rate_of balance waiting is_client leaves
minute_change t o plan windows minute a h =
    all_same t (renewed u) o p _ refl
    (renewed_agrees u order p tree (ap plus (edited.rest root rate_at (omega arith) (omega arith) (omega arith)) ∙ a.disk)
    (λ j e. a.queue j e ∙ ap (λ (w : ℕ). o.sent j + w) (sym (ap plus (edited.rest j waiting_at (omega arith) (omega arith) (omega arith))))))
    (λ j. renewed_same u order t o p j (record { sort = refl; level = refl; depth = refl; balance = edited.rest j balance_at (omega arith) (omega arith) (omega arith) }))
  where
    given : Tree
    given = tree_at (tree_of (planned plan)) windows (plus minute)

    u : List ℤ
    u = reshared_as given t

    p : Observer
    p = after_accepted o (set_minute plan windows minute) []

    f : InOrder t
    f = facts t a.order

    passed : SetMinutePassed t plan windows minute
    passed = set_minute_passed t plan windows minute h

    edited : Reshared given t nodes u
    edited = all_reshared given t f.long

    fit : Suits t given
    fit = suits t (planned plan) windows (plus minute) f (planned_in_order plan passed.plan) (minute_below minute passed.minutes) (timetabled t (planned plan) windows passed.timetable)

    order : in_order (renewed u) ≡ true
    order = changed t (planned plan) windows (plus minute) f (planned_in_order plan passed.plan) (minute_below minute passed.minutes) (timetabled t (planned plan) windows passed.timetable)

    tree : tree_of u ≡ p.tree
    tree = with_shares_law given t u edited fit f ∙ ap (λ (tree : Tree). with_shares tree given) a.tree
