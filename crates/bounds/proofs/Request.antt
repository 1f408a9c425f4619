-- An accepted request: one more is asked and one more waits.
use Prim.Native.Nat.{ℕ, suc, ◌<◌}
use mathlib.Core.Path.{◌≡◌, refl, ap, ◌∙◌}
use mathlib.Core.List.{List, []}
use native.Mathlib.Omega.{arith}
use lib.IntN.{ℤ}
use Rattle.numbers.specs.Whole.{plus}
use Rattle.definitions.specs.Limits.{rate_at, balance_at, waiting_at, root, most_waiting}
use Rattle.definitions.specs.Places.{place, rate as rate_of, balance, waiting}
use Rattle.definitions.specs.Calls.{requested, request_refusal, request_table}
use Rattle.definitions.proofs.Facts.{InOrder, facts}
use Rattle.definitions.proofs.Edits.{Requested, requested_edit}
use Rattle.calllaws.proofs.Nodes.{ready, most_waiting_law}
use Rattle.definitions.proofs.Passed.{RequestPassed, request_passed}
use Rattle.calllaws.proofs.Request.{request_keeps, before, next_waiting, requested_tree}
use Rattle.runs.specs.Runs.{request, leaves}
use Rattle.bounds.specs.Observer.{Observer, after_accepted}
use Rattle.bounds.proofs.Simulation.{Agrees}
use Rattle.bounds.proofs.Trees.{set_here, set_other}
use Rattle.bounds.proofs.Changes.{Change, all_same, Others, queues}
use Rattle.bounds.proofs.Renewing.{kept_order}

pub request_change :
    (t : List ℤ) (o : Observer) (node tag size : ℤ) → Agrees t o → request_refusal t node tag size ≡ 0
    → Change t (requested t (plus node) tag size) o (after_accepted o (request node tag size) []) (λ c. leaves c (request node tag size))
unfolding request_table after_accepted rate_of balance leaves
request_change t o node tag size a h =
    all_same t u o p _ refl
    (record {
      order = kept_order _ u t h (request_keeps t node tag size h);
      tree = requested_tree t u k tag size passed.node more ∙ a.tree;
      disk = ap plus (stays root rate_at (omega arith)) ∙ a.disk;
      queue =
          queues t u o p k others a
          (λ e. omega (arith, set_here k (suc (o.asked k)) o.asked k refl, next_waiting t u k tag size passed.node more, a.queue k e));
    })
    (λ j. record { sort = refl; level = refl; depth = refl; balance = stays j balance_at (omega arith) })
  where
    k : ℕ
    k = plus node

    u : List ℤ
    u = requested t k tag size

    p : Observer
    p = after_accepted o (request node tag size) []

    f : InOrder t
    f = facts t a.order

    passed : RequestPassed t k size
    passed = request_passed t node tag size h

    room : waiting t k < most_waiting
    room = omega (arith, most_waiting_law t k ((ready t f).node k passed.node), passed.room)

    more : Requested t u k tag size
    more = requested_edit t k tag size f.long passed.node room

    others : Others t u o p k
    others = record { places = more.others; sort = λ j ne. refl; level = λ j ne. refl; depth = λ j ne. refl; asked = set_other k _ o.asked; sent = λ j ne. refl }

    stays : (j p : ℕ) → p < waiting_at → place u j p ≡ place t j p
    stays = before t u k tag size passed.node more
