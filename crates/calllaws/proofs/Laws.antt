-- The laws of the calls but tick, all together. A balance stays as it was but for the node that leaves, whose balance was
-- not below 0 and becomes 0.
use Prim.Native.Nat.{ℕ, ◌<◌}
use mathlib.Core.Path.{◌≡◌, ap}
use mathlib.Core.List.{List}
use native.Mathlib.Omega.{arith}
use native.Mathlib.Decide.{ℕ_discrete}
use lib.IntN.{ℤ}
use Rattle.numbers.specs.Whole.{plus, minus}
use Rattle.definitions.specs.Limits.{nodes, root, rate_at, balance_at, most_waiting}
use Rattle.definitions.specs.Places.{place, put, balance, waiting}
use Rattle.definitions.specs.Rates.{renewed}
use Rattle.definitions.specs.Calls.{joined, join_refusal, join_table, cleared, leave_refusal, leave_table, reshared, change_share_refusal, change_share_table, change_rate_refusal, change_rate_table, requested, request_refusal, request_table}
use Rattle.definitions.proofs.Facts.{facts}
use Rattle.definitions.proofs.Places.{place_put_place}
use Rattle.definitions.proofs.Refusals.{kept_new}
use Rattle.definitions.proofs.Passed.{LeavePassed, join_passed, leave_passed, change_share_passed, request_passed}
use Rattle.definitions.proofs.Edits.{joined_rest, reshared_rest, cleared_edit, requested_edit}
use Rattle.treelaws.proofs.Renewed.{renewed_place}
use Rattle.calllaws.specs.Laws.{NoBalanceRises, CallLaws}
use Rattle.calllaws.proofs.Nodes.{ready, most_waiting_law}
use Rattle.calllaws.proofs.Open.{open_keeps}
use Rattle.calllaws.proofs.Join.{join_keeps}
use Rattle.calllaws.proofs.Leave.{leave_keeps, not_below_zero}
use Rattle.calllaws.proofs.ChangeShare.{change_share_keeps}
use Rattle.calllaws.proofs.ChangeRate.{change_rate_keeps}
use Rattle.calllaws.proofs.Request.{request_keeps, before}

-- Balances that stay do not rise.
all_stay : (t u : List ℤ) → ((k : ℕ) → k < nodes → place u k balance_at ≡ place t k balance_at) → NoBalanceRises t u
unfolding NoBalanceRises balance
all_stay t u same k hk = omega (arith, ap plus (same k hk), ap minus (same k hk))

-- Renewing rates changes no balance.
renewed_stay : (t u : List ℤ) → NoBalanceRises t u → NoBalanceRises t (renewed u)
unfolding NoBalanceRises balance
renewed_stay t u h k hk = rw (renewed_place u k balance_at (omega arith) (omega arith)) (h k hk)

join_balances : (t : List ℤ) (node parent sort kind share depth port : ℤ) → join_refusal t node parent sort kind share depth port ≡ 0 → NoBalanceRises t (join_table t node parent sort kind share depth port)
unfolding join_table
join_balances t node parent sort kind share depth port h =
    let passed = join_passed t node parent sort kind share depth port h in
    let long = (facts t passed.order).long in
    rw (kept_new (join_refusal t node parent sort kind share depth port) (renewed (joined t (plus node) (plus parent) sort kind share depth port)) t h)
    (renewed_stay t _ (all_stay t _ (λ k hk. joined_rest t (plus node) (plus parent) sort kind share depth port long passed.node k balance_at (omega arith) (omega arith) (λ e. omega arith))))

cleared_balances : (t : List ℤ) (k : ℕ) → LeavePassed t k → NoBalanceRises t (cleared t k)
unfolding NoBalanceRises balance plus minus
cleared_balances t k passed j hj =
    let r = ready t (facts t passed.order) in
    let edited = cleared_edit t k r.long passed.node in
    elim (ℕ_discrete j k) [
      | yes e ↦ rw e (omega (arith, ap plus (edited.here balance_at (omega arith)), ap minus (edited.here balance_at (omega arith)), not_below_zero t k passed r))
      | no ne ↦ omega (arith, ap plus (edited.others j balance_at ne (omega arith)), ap minus (edited.others j balance_at ne (omega arith)))
    ]

leave_balances : (t : List ℤ) (node : ℤ) → leave_refusal t node ≡ 0 → NoBalanceRises t (leave_table t node)
unfolding leave_table
leave_balances t node h =
    rw (kept_new (leave_refusal t node) (renewed (cleared t (plus node))) t h)
    (renewed_stay t _ (cleared_balances t (plus node) (leave_passed t node h)))

share_balances : (t : List ℤ) (node kind share : ℤ) → change_share_refusal t node kind share ≡ 0 → NoBalanceRises t (change_share_table t node kind share)
unfolding change_share_table
share_balances t node kind share h =
    let passed = change_share_passed t node kind share h in
    let long = (facts t passed.order).long in
    rw (kept_new (change_share_refusal t node kind share) (renewed (reshared t (plus node) kind share)) t h)
    (renewed_stay t _ (all_stay t _ (λ k hk. reshared_rest t (plus node) kind share long passed.node k balance_at (omega arith) (omega arith) (omega arith))))

rate_balances : (t : List ℤ) (rate : ℤ) → change_rate_refusal t rate ≡ 0 → NoBalanceRises t (change_rate_table t rate)
unfolding change_rate_table
rate_balances t rate h =
    rw (kept_new (change_rate_refusal t rate) (renewed (put t root rate_at rate)) t h)
    (renewed_stay t _ (all_stay t _ (λ k hk. place_put_place t root rate_at rate k balance_at (omega arith) (omega arith) (omega arith))))

request_balances : (t : List ℤ) (node tag size : ℤ) → request_refusal t node tag size ≡ 0 → NoBalanceRises t (request_table t node tag size)
unfolding request_table
request_balances t node tag size h =
    let passed = request_passed t node tag size h in
    let r = ready t (facts t passed.order) in
    let w : waiting t (plus node) < most_waiting = omega (arith, most_waiting_law t (plus node) (r.node (plus node) passed.node), passed.room) in
    let more = requested_edit t (plus node) tag size r.long passed.node w in
    rw (kept_new (request_refusal t node tag size) (requested t (plus node) tag size) t h)
    (all_stay t _ (λ k hk. before t _ (plus node) tag size passed.node more k balance_at (omega arith)))

pub call_laws : CallLaws
unfolding NoBalanceRises
call_laws =
    record {
      opening = open_keeps;
      joining = λ t node parent sort kind share depth port h.
          record { order = join_keeps t node parent sort kind share depth port h; balances = λ k hk. omega (arith, join_balances t node parent sort kind share depth port h k hk) };
      leaving = λ t node h. record { order = leave_keeps t node h; balances = λ k hk. omega (arith, leave_balances t node h k hk) };
      share = λ t node kind share h.
          record { order = change_share_keeps t node kind share h; balances = λ k hk. omega (arith, share_balances t node kind share h k hk) };
      rate = λ t rate h. record { order = change_rate_keeps t rate h; balances = λ k hk. omega (arith, rate_balances t rate h k hk) };
      requesting = λ t node tag size h.
          record { order = request_keeps t node tag size h; balances = λ k hk. omega (arith, request_balances t node tag size h k hk) };
    }
