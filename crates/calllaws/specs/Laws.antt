-- What accepted calls but tick do to a table, over the definitions of definitions/specs/Calls.
use Rattle.std.specs.Prelude.{ℕ, ◌+◌, ◌≤◌, ◌<◌, ◌≡◌, true, List, ℤ}
use Rattle.numbers.specs.Whole.{plus, minus}
use Rattle.definitions.specs.Limits.{nodes}
use Rattle.definitions.specs.Places.{balance}
use Rattle.definitions.specs.Order.{in_order}
use Rattle.definitions.specs.Calls.{open_refusal, open_table, join_refusal, join_table, leave_refusal, leave_table, change_share_refusal, change_share_table, change_rate_refusal, change_rate_table, request_refusal, request_table}

-- No balance rises from table t to table u: tokens come from ticks alone.
unfoldable pub NoBalanceRises : List ℤ → List ℤ → Type 0
NoBalanceRises t u = (k : ℕ) → k < nodes → plus (balance u k) + minus (balance t k) ≤ plus (balance t k) + minus (balance u k)

-- Table t becomes table u, which is in order, and no balance rises.
pub record Kept (t u : List ℤ) : Type 0 where
  pub order : in_order u ≡ true
  pub balances : NoBalanceRises t u

pub record CallLaws : Type 0 where
  pub opening : (t : List ℤ) (rate depth : ℤ) → open_refusal t rate depth ≡ 0 → in_order (open_table t rate depth) ≡ true
  pub joining :
      (t : List ℤ) (node parent sort kind share depth port : ℤ) → join_refusal t node parent sort kind share depth port ≡ 0
      → Kept t (join_table t node parent sort kind share depth port)
  pub leaving : (t : List ℤ) (node : ℤ) → leave_refusal t node ≡ 0 → Kept t (leave_table t node)
  pub share : (t : List ℤ) (node kind share : ℤ) → change_share_refusal t node kind share ≡ 0 → Kept t (change_share_table t node kind share)
  pub rate : (t : List ℤ) (rate : ℤ) → change_rate_refusal t rate ≡ 0 → Kept t (change_rate_table t rate)
  pub requesting : (t : List ℤ) (node tag size : ℤ) → request_refusal t node tag size ≡ 0 → Kept t (request_table t node tag size)
