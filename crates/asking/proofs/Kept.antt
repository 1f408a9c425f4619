-- Requests and ticks leave the clients and their ports as they are, and a table in order.
use Prim.Native.Nat.{ℕ, ◌<◌}
use mathlib.Core.Path.{◌≡◌, ap, ◌∙◌}
use mathlib.Core.Bool.{true}
use mathlib.Core.List.{List}
use native.Mathlib.Omega.{arith}
use native.Mathlib.Decide.{ℕ_discrete}
use lib.ListN.{length}
use lib.Dec.{eqb}
use lib.IntN.{ℤ}
use Rattle.numbers.specs.Whole.{plus}
use Rattle.numbers.proofs.Tests.{by_test}
use Rattle.definitions.specs.Limits.{nodes, most_waiting}
use Rattle.definitions.specs.Places.{waiting, port}
use Rattle.definitions.specs.Tree.{Tree, tree_of}
use Rattle.definitions.specs.Order.{in_order}
use Rattle.definitions.specs.Calls.{requested, request_refusal, request_table}
use Rattle.definitions.specs.Tick.{ticked}
use Rattle.definitions.proofs.Facts.{facts}
use Rattle.definitions.proofs.Refusals.{kept_new, kept_old}
use Rattle.definitions.proofs.Passed.{request_passed}
use Rattle.definitions.proofs.Edits.{Requested, requested_edit}
use Rattle.calllaws.proofs.Nodes.{ready, most_waiting_law}
use Rattle.calllaws.proofs.Request.{requested_tree, requested_port, request_keeps_order}
use Rattle.ticklaws.proofs.Frame.{frame_tree, frame_port}
use Rattle.ticklaws.proofs.Keeps.{ticked_settled}
use Rattle.asking.specs.Asking.{clients_below, clients, Load, after_request, asked}

same_clients : (t u : List ℤ) → tree_of u ≡ tree_of t → clients u ≡ clients t
unfolding clients
same_clients t u e = ap (λ (tree : Tree). clients_below tree nodes) e

-- What an accepted request writes.
written : (t : List ℤ) (node tag size : ℤ) → (h : request_refusal t node tag size ≡ 0) → Requested t (requested t (plus node) tag size) (plus node) tag size
written t node tag size h =
    let passed = request_passed t node tag size h in
    let r = ready t (facts t passed.order) in
    let w : waiting t (plus node) < most_waiting = omega (arith, most_waiting_law t (plus node) (r.node (plus node) passed.node), passed.room) in
    requested_edit t (plus node) tag size r.long passed.node w

module _ (t : List ℤ) (node tag size : ℤ) where
  request_tree : tree_of (request_table t node tag size) ≡ tree_of t
  unfolding request_table
  request_tree =
      elim (ℕ_discrete (request_refusal t node tag size) 0) [
        | yes h ↦ ap tree_of (kept_new _ _ t h) ∙ requested_tree t _ (plus node) tag size (request_passed t node tag size h).node (written t node tag size h)
        | no ne ↦ ap tree_of (kept_old _ _ t ne)
      ]

  request_port : (k : ℕ) → port (request_table t node tag size) k ≡ port t k
  unfolding request_table
  request_port k =
      elim (ℕ_discrete (request_refusal t node tag size) 0) [
        | yes h ↦
            ap (λ (u : List ℤ). port u k) (kept_new _ _ t h)
            ∙ requested_port t _ (plus node) tag size (request_passed t node tag size h).node (written t node tag size h) k
        | no ne ↦ ap (λ (u : List ℤ). port u k) (kept_old _ _ t ne)
      ]

-- After a load's next request.
module _ (load : Load) where
  pub asked_order : in_order load.table ≡ true → in_order (asked load).table ≡ true
  unfolding asked after_request
  asked_order order =
      by_test (eqb (length (clients load.table)) 0)
      (λ e. rw e order)
      (λ e. rw e (request_keeps_order load.table _ _ _ order))

  pub asked_clients : clients (asked load).table ≡ clients load.table
  unfolding asked after_request
  asked_clients =
      by_test (eqb (length (clients load.table)) 0)
      (λ e. rw e)
      (λ e. rw e (same_clients load.table _ (request_tree load.table _ _ _)))

  pub asked_port : (k : ℕ) → port (asked load).table k ≡ port load.table k
  unfolding asked after_request
  asked_port k =
      by_test (eqb (length (clients load.table)) 0)
      (λ e. rw e)
      (λ e. rw e (request_port load.table _ _ _ k))

-- After a tick.
pub ticked_clients : (t : List ℤ) → in_order t ≡ true → clients (ticked t).table ≡ clients t
ticked_clients t order = same_clients t _ (frame_tree t (ticked t).table (ticked_settled t (facts t order)).reached.frame)

pub ticked_port : (t : List ℤ) → in_order t ≡ true → (k : ℕ) → port (ticked t).table k ≡ port t k
ticked_port t order = frame_port t (ticked t).table (ticked_settled t (facts t order)).reached.frame
