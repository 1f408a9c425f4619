-- What is drawn for a load's next request, as the code goes through it.
use Prim.Native.Nat.{ℕ, ◌+◌, ◌%◌, ◌≤◌, ◌<◌}
use mathlib.Core.Path.{◌≡◌, sym, ap, ◌∙◌}
use mathlib.Core.Bool.{true, not}
use mathlib.Core.List.{List}
use native.Mathlib.Omega.{arith}
use borrow.Author.Tests.{eq-eqb, ne_eqb, eqb-true}
use lib.ListN.{length, get_or}
use lib.Dec.{eqb}
use lib.IntN.{ℤ, pos}
use Rattle.numbers.specs.Whole.{plus, minus}
use Rattle.numbers.proofs.Parts.{zarith}
use Rattle.numbers.proofs.Every.{holds_with, none_left}
use Rattle.numbers.proofs.Tests.{cond_true, cond_false}
use Rattle.definitions.specs.Limits.{nodes, depth_at, greatest_depth, unused, client}
use Rattle.definitions.specs.Places.{place}
use Rattle.definitions.specs.Tree.{tree_of, there, is_client}
use Rattle.definitions.specs.Order.{in_order}
use Rattle.definitions.specs.Calls.{request_limits, request_table}
use Rattle.definitions.proofs.Facts.{facts}
use Rattle.draws.specs.Draws.{next_state, state_after, upper, draw}
use Rattle.asking.specs.Asking.{clients, client_drawn, size_drawn, tag_drawn, Load, load_of, after_request, asked}
use Rattle.asking.proofs.Listing.{Picked}

-- The depth of a client that is picked.
pub picked_depth : (t : List ℤ) (d k : ℕ) → in_order t ≡ true → Picked t d k → (1 ≤ plus (place t k depth_at)) × (plus (place t k depth_at) ≤ greatest_depth)
unfolding there is_client tree_of
picked_depth t d k order p =
    let here : there (tree_of t) k ≡ true = ap not (ne_eqb ((tree_of t).sort k) unused (λ z. omega (arith, eqb-true ((tree_of t).sort k) client p.sort))) in
    let l = (facts t order).limits k p.small here in
    (omega (arith, zarith, l.depth), omega (arith, zarith, l.depth))

pub asked_none : (load : Load) → length (clients load.table) ≡ 0 → load ≡ asked load
unfolding asked
asked_none load h = sym (cond_true (eqb (length (clients load.table)) 0) load _ (eq-eqb _ 0 h))

asked_some : (load : Load) → (length (clients load.table) ≡ 0 → ⊥) → after_request load ≡ asked load
unfolding asked
asked_some load h = sym (cond_false (eqb (length (clients load.table)) 0) load _ (ne_eqb _ 0 h))

-- A node and a size within their limits.
pub limits_kept_law : (k size : ℕ) → k < nodes → 1 ≤ size → request_limits (pos k) (pos size) ≡ true
unfolding request_limits plus minus
limits_kept_law k size node some = holds_with _ _ (omega (arith, zarith)) (holds_with _ _ (omega (arith, zarith)) none_left)

-- The request of three draws is made.
pub asked_request : (t u : List ℤ) (state first second third d k size : ℕ) (tag : ℤ) → (length (clients t) ≡ 0 → ⊥) → first ≡ next_state state → second ≡ next_state first → third ≡ next_state second → d ≡ upper first → Picked t d k → size ≡ upper second % plus (place t k depth_at) + 1 → tag ≡ pos (upper third) → u ≡ request_table t (pos k) tag (pos size) → load_of u third ≡ asked (load_of t state)
unfolding after_request client_drawn size_drawn tag_drawn draw state_after tree_of
asked_request t u state first second third d k size tag some one two three drawn p e tagged h =
    let at_first : draw 1 state ≡ d = ap upper (sym one) ∙ sym drawn in
    let at_second : draw 2 state ≡ upper second = ap (λ (n : ℕ). upper (next_state n)) (sym one) ∙ ap upper (sym two) in
    let after : state_after 3 state ≡ third = ap (λ (n : ℕ). next_state (next_state n)) (sym one) ∙ ap next_state (sym two) ∙ sym three in
    let is : client_drawn t state ≡ k = ap (λ (n : ℕ). get_or (clients t) (n % length (clients t)) 0) at_first ∙ sym p.client in
    let sized : size_drawn t state ≡ size = ap (λ (n : ℕ). n % plus (place t (client_drawn t state) depth_at) + 1) at_second ∙ ap (λ (j : ℕ). upper second % plus (place t j depth_at) + 1) is ∙ sym e in
    sym
    (sym (asked_some (load_of t state) some)
    ∙ ap (λ (n : ℕ). load_of (request_table t (pos (client_drawn t state)) (pos (upper n)) (pos (size_drawn t state))) n) after
    ∙ ap (λ (j : ℕ). load_of (request_table t (pos j) (pos (upper third)) (pos (size_drawn t state))) third) is
    ∙ ap (λ (n : ℕ). load_of (request_table t (pos k) (pos (upper third)) (pos n)) third) sized
    ∙ ap (λ (x : List ℤ). load_of x third) (sym (rw tagged at h)))
