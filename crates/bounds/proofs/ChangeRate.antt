-- An accepted change of the rate: the tree, the balances and the requests stay.
use Prim.Native.Nat.{ℕ, ◌+◌, ◌<◌}
use mathlib.Core.Path.{◌≡◌, refl, sym, ap, ◌∙◌}
use mathlib.Core.Bool.{true}
use mathlib.Core.List.{List, []}
use native.Mathlib.Omega.{arith}
use lib.IntN.{ℤ}
use Rattle.numbers.specs.Whole.{plus}
use Rattle.definitions.specs.Limits.{record_length, rate_at, balance_at, waiting_at, root}
use Rattle.definitions.specs.Places.{place, put, rate as rate_of, balance, waiting}
use Rattle.definitions.specs.Rates.{renewed}
use Rattle.definitions.specs.Order.{in_order}
use Rattle.definitions.specs.Calls.{change_rate_refusal, change_rate_table}
use Rattle.definitions.proofs.Facts.{facts}
use Rattle.definitions.proofs.Places.{place_put_same, place_put_place}
use Rattle.calllaws.proofs.ChangeRate.{change_rate_keeps, rerated_tree}
use Rattle.runs.specs.Runs.{change_rate, leaves}
use Rattle.bounds.specs.Observer.{Observer, after_accepted}
use Rattle.bounds.proofs.Simulation.{Agrees}
use Rattle.bounds.proofs.Changes.{Change, all_same}
use Rattle.bounds.proofs.Renewing.{kept_order, renewed_agrees, renewed_same}

pub rate_change :
    (t : List ℤ) (o : Observer) (rate : ℤ) → Agrees t o → change_rate_refusal t rate ≡ 0
    → Change t (renewed (put t root rate_at rate)) o (after_accepted o (change_rate rate) []) (λ c. leaves c (change_rate rate))
unfolding change_rate_table after_accepted rate_of balance waiting leaves
rate_change t o rate a h =
    all_same t (renewed u) o p _ refl
    (renewed_agrees u order p (rerated_tree t rate ∙ a.tree) (ap plus (place_put_same t root rate_at rate (facts t a.order).long (omega arith) (omega arith)))
    (λ j e. a.queue j e ∙ ap (λ (w : ℕ). o.sent j + w) (sym (ap plus (rest j waiting_at (omega arith) (omega arith))))))
    (λ j. renewed_same u order t o p j (record { sort = refl; level = refl; depth = refl; balance = rest j balance_at (omega arith) (omega arith) }))
  where
    u : List ℤ
    u = put t root rate_at rate

    p : Observer
    p = after_accepted o (change_rate rate) []

    order : in_order (renewed u) ≡ true
    order = kept_order _ (renewed u) t h (change_rate_keeps t rate h)

    rest : (j p : ℕ) → p < record_length → (p ≡ rate_at → ⊥) → place u j p ≡ place t j p
    rest j p = place_put_place t root rate_at rate j p (omega arith)
