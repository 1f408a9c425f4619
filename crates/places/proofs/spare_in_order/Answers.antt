use Rattle.std.proofs.Common.{◌≡◌, ◌&&◌, ◌+◌, ◌*◌, ◌-◌, ◌≤◌, ℕ, ℤ, Bool, List, refl, ap, ap₂, ◌∙◌, arith}
use Rattle.numbers.proofs.Every.{joined_as, same_tests, last_test}
use Rattle.definitions.specs.Limits.{header_length, record_length, spare_at, spare_length, queue_at, queue_length, request_length, most_waiting}
use Rattle.definitions.specs.Places.{waiting}
use Rattle.definitions.specs.Order.{spare_in_order}
use Rattle.places.specs.Zeros.{zeros}
use Rattle.places.proofs.Spans.{spare_zeros, both_zeros, queue_zeros}
use Rattle.places.proofs.spare_in_order.Goals as goal

-- Both tests together: of the spare places, and of the waiting places behind those that are held.
together : (t : List ℤ) (k n : ℕ) {a b : Bool} → n ≡ waiting t k → waiting t k ≤ most_waiting → a ≡ zeros t (header_length + record_length * k + spare_at) spare_length → b ≡ zeros t (header_length + record_length * k + queue_at + request_length * n) (queue_length - request_length * n) → (a && b) ≡ spare_in_order t k
unfolding spare_in_order
together t k n same few spare queue =
    let held = ap (λ (n : ℕ). zeros t (header_length + record_length * k + queue_at + request_length * n) (queue_length - request_length * n)) same in
    joined_as
    (same_tests (spare ∙ spare_zeros t k)
    (last_test (queue ∙ held ∙ queue_zeros t k (request_length * waiting t k) (omega arith))))

pub returns-then-held-eq0 : goal.returns-then-held-eq0
returns-then-held-eq0 c =
    let t = c.args.table.now in
    c.zeros.ensures
    ∙ both_zeros t c.args.k
    ∙ together t c.args.k _ c.waiting-held.ensures c.requires.1 refl (ap₂ (zeros t) (omega arith) (omega arith))

pub returns : goal.returns
returns c = together _ _ _ c.waiting-held.ensures c.requires.1 c.zeros-spare.ensures c.zeros-queue.ensures
