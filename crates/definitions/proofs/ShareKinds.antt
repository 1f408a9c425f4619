-- Shares by kind: each kind keeps its limit, and a share counts in the sum of its own kind alone.
use Prim.Native.Nat.{ℕ, ◌≤◌}
use mathlib.Core.Path.{◌≡◌}
use mathlib.Core.Bool.{true, false}
use native.Mathlib.Omega.{arith}
use borrow.Author.Tests.{eqb-true, eqb-false, eq-eqb, ne_eqb}
use lib.Dec.{eqb}
use Rattle.numbers.proofs.Tests.{by_test, cond_true, cond_false}
use Rattle.definitions.specs.Limits.{fixed, weighted, stated, whole_share, greatest_rate, share_limit}
use Rattle.definitions.specs.Tree.{Tree, is_fixed, is_stated}
use Rattle.definitions.specs.Rates.{kind_share}

-- No limit is above the greatest rate, and that of a share that is not stated is 10,000.
pub limit_le : (kind : ℕ) → share_limit kind ≤ greatest_rate
unfolding share_limit
limit_le kind = by_test (eqb kind stated) (λ e. rw (cond_true _ greatest_rate whole_share e) (omega arith)) (λ e. rw (cond_false _ greatest_rate whole_share e) (omega arith))

pub limit_unstated : (kind : ℕ) → (kind ≡ stated → ⊥) → share_limit kind ≡ whole_share
unfolding share_limit
limit_unstated kind ne = cond_false _ greatest_rate whole_share (ne_eqb kind stated ne)

-- The kinds as tests.
pub stated_kind_law : (tree : Tree) (k : ℕ) → is_stated tree k ≡ true → tree.kind k ≡ stated
unfolding is_stated
stated_kind_law tree k e = eqb-true (tree.kind k) stated e

pub unstated_kind : (tree : Tree) (k : ℕ) → is_stated tree k ≡ false → tree.kind k ≡ stated → ⊥
unfolding is_stated
unstated_kind tree k e = eqb-false (tree.kind k) stated e

-- A share that keeps its limit and is not stated is at most 10,000.
pub unstated_share : (tree : Tree) (k : ℕ) → tree.share k ≤ share_limit (tree.kind k) → is_stated tree k ≡ false → tree.share k ≤ whole_share
unstated_share tree k limit e = rw (limit_unstated (tree.kind k) (unstated_kind tree k e)) at limit

pub fixed_kind_law : (tree : Tree) (k : ℕ) → is_fixed tree k ≡ true → tree.kind k ≡ fixed
unfolding is_fixed
fixed_kind_law tree k e = eqb-true (tree.kind k) fixed e

-- A node that is neither stated nor fixed is weighted.
pub weighted_kind_law : (tree : Tree) (k : ℕ) → tree.kind k ≤ stated → is_stated tree k ≡ false → is_fixed tree k ≡ false → tree.kind k ≡ weighted
unfolding is_stated is_fixed
weighted_kind_law tree k small s f = omega (arith, eqb-false (tree.kind k) stated s, eqb-false (tree.kind k) fixed f)

-- A share counts whole for its own kind, and for another not at all.
pub own_share : (tree : Tree) (kind k : ℕ) → tree.kind k ≡ kind → kind_share tree kind k ≡ tree.share k
unfolding kind_share
own_share tree kind k e = cond_true _ (tree.share k) 0 (eq-eqb (tree.kind k) kind e)

pub other_share : (tree : Tree) (kind k : ℕ) → (tree.kind k ≡ kind → ⊥) → kind_share tree kind k ≡ 0
unfolding kind_share
other_share tree kind k ne = cond_false _ (tree.share k) 0 (ne_eqb (tree.kind k) kind ne)

pub kind_share_le : (tree : Tree) (kind k : ℕ) → kind_share tree kind k ≤ tree.share k
unfolding kind_share
kind_share_le tree kind k =
    by_test (eqb (tree.kind k) kind) (λ e. rw (cond_true _ (tree.share k) 0 e) (omega arith)) (λ e. rw (cond_false _ (tree.share k) 0 e) (omega arith))

-- Two nodes of the same kind and share count alike.
pub same_share : (new old : Tree) (kind j k : ℕ) → new.kind j ≡ old.kind k → new.share j ≡ old.share k → kind_share new kind j ≡ kind_share old kind k
unfolding kind_share
same_share new old kind j k kinds shares = rw (kinds, shares)
