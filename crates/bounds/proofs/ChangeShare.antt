-- An accepted change of share: balances and requests stay.
use Prim.Native.Nat.{ℕ, ◌+◌, ◌<◌}
use mathlib.Core.Path.{◌≡◌, refl, sym, ap, ◌∙◌}
use mathlib.Core.Bool.{true}
use mathlib.Core.List.{List, []}
use native.Mathlib.Omega.{arith}
use lib.IntN.{ℤ}
use Rattle.numbers.specs.Whole.{plus}
use Rattle.definitions.specs.Limits.{record_length, kind_at, share_at, rate_at, balance_at, waiting_at, root}
use Rattle.definitions.specs.Places.{place, rate as rate_of, balance, waiting}
use Rattle.definitions.specs.Tree.{Tree, tree_of, is_client}
use Rattle.definitions.specs.Rates.{renewed}
use Rattle.definitions.specs.Order.{in_order}
use Rattle.definitions.specs.Calls.{reshared, change_share_refusal, change_share_table}
use Rattle.definitions.proofs.Facts.{InOrder, facts}
use Rattle.definitions.proofs.Edits.{reshared_node, reshared_others, reshared_rest}
use Rattle.definitions.proofs.Passed.{ChangeSharePassed, change_share_passed}
use Rattle.calllaws.proofs.ChangeShare.{change_share_keeps}
use Rattle.runs.specs.Runs.{change_share, leaves}
use Rattle.bounds.specs.Observer.{Observer, with_share, after_accepted}
use Rattle.bounds.proofs.Simulation.{Agrees}
use Rattle.bounds.proofs.Trees.{with_share_law}
use Rattle.bounds.proofs.Changes.{Change, all_same}
use Rattle.bounds.proofs.Renewing.{kept_order, renewed_agrees, renewed_same}

pub share_change :
    (t : List ℤ) (o : Observer) (node kind share : ℤ) → Agrees t o → change_share_refusal t node kind share ≡ 0
    → Change t (renewed (reshared t (plus node) kind share)) o (after_accepted o (change_share node kind share) []) (λ c. leaves c (change_share node kind share))
unfolding change_share_table after_accepted with_share rate_of balance waiting is_client leaves
share_change t o node kind share a h =
    all_same t (renewed u) o p _ refl
    (renewed_agrees u order p tree (ap plus (rest root rate_at (omega arith) (omega arith) (omega arith)) ∙ a.disk)
    (λ j e. a.queue j e ∙ ap (λ (w : ℕ). o.sent j + w) (sym (ap plus (rest j waiting_at (omega arith) (omega arith) (omega arith))))))
    (λ j. renewed_same u order t o p j (record { sort = refl; level = refl; depth = refl; balance = rest j balance_at (omega arith) (omega arith) (omega arith) }))
  where
    k : ℕ
    k = plus node

    u : List ℤ
    u = reshared t k kind share

    p : Observer
    p = after_accepted o (change_share node kind share) []

    f : InOrder t
    f = facts t a.order

    passed : ChangeSharePassed t k kind share
    passed = change_share_passed t node kind share h

    order : in_order (renewed u) ≡ true
    order = kept_order _ (renewed u) t h (change_share_keeps t node kind share h)

    rest : (j p : ℕ) → p < record_length → (p ≡ kind_at → ⊥) → (p ≡ share_at → ⊥) → place u j p ≡ place t j p
    rest = reshared_rest t k kind share f.long passed.node

    tree : tree_of u ≡ p.tree
    tree =
        with_share_law (tree_of u) (tree_of t) k (reshared_others t k kind share f.long passed.node) _ _ (reshared_node t k kind share f.long passed.node)
        ∙ ap (λ (tree : Tree). with_share tree k (plus kind) (plus share)) a.tree
