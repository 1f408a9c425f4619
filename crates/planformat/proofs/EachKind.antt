-- The plan's kinds one by one: the kind of a sort and a share kind stands for them, and a kind is that of what it stands
-- for.
use Prim.Native.Nat.{ℕ, zero, suc, ◌≤◌}
use mathlib.Core.Path.{◌≡◌, refl}
use mathlib.Core.Bool.{Bool, true, false, cond, ◌||◌}
use native.Mathlib.Omega.{arith}
use lib.Dec.{eqb}
use Rattle.numbers.proofs.Tests.{by_test}
use Rattle.definitions.specs.Limits.{class, client, fixed, weighted, stated}
use Rattle.planformat.specs.declared.Share.TheVariants.{Fixed, Weighted, Stated}
use Rattle.planformat.specs.declared.Sort.{Sort}
use Rattle.planformat.specs.declared.Sort.TheVariants.{Class, Client}
use Rattle.planformat.specs.Kinds.{class_fixed, class_weighted, class_stated, client_weighted, client_stated, kind_of, sort_of, share_kind_of}
use Rattle.planformat.specs.Nodes.{share_kind_in, held_by, sort_in, kind_in}

-- The two sorts and the three share kinds, one by one.
each_sort : (P : ℕ → Type 0) → P class → P client → (n : ℕ) → class ≤ n → n ≤ client → P n
each_sort P a b zero low high = absurd (omega arith)
each_sort P a b (suc zero) low high = a
each_sort P a b (suc (suc zero)) low high = b
each_sort P a b (suc (suc (suc n))) low high = absurd (omega arith)

each_share : (P : ℕ → Type 0) → P fixed → P weighted → P stated → (n : ℕ) → n ≤ stated → P n
each_share P a b c zero h = a
each_share P a b c (suc zero) h = b
each_share P a b c (suc (suc zero)) h = c
each_share P a b c (suc (suc (suc n))) h = absurd (omega arith)

pub sort_of_kind : (sort share_kind : ℕ) → class ≤ sort → sort ≤ client → share_kind ≤ stated → sort_of (kind_of sort share_kind) ≡ sort
unfolding sort_of kind_of
sort_of_kind sort share_kind low high small =
    each_sort (λ s. sort_of (kind_of s share_kind) ≡ s)
    (each_share (λ k. sort_of (kind_of class k) ≡ class) refl refl refl share_kind small)
    (each_share (λ k. sort_of (kind_of client k) ≡ client) refl refl refl share_kind small)
    sort low high

pub share_of_kind : (sort share_kind : ℕ) → class ≤ sort → sort ≤ client → share_kind ≤ stated → share_kind_of (kind_of sort share_kind) ≡ share_kind
unfolding share_kind_of kind_of
share_of_kind sort share_kind low high small =
    each_sort (λ s. share_kind_of (kind_of s share_kind) ≡ share_kind)
    (each_share (λ k. share_kind_of (kind_of class k) ≡ k) refl refl refl share_kind small)
    (each_share (λ k. share_kind_of (kind_of client k) ≡ k) refl refl refl share_kind small)
    sort low high

pub kind_again : (kind : ℕ) → kind ≤ client_stated → kind_of (sort_of kind) (share_kind_of kind) ≡ kind
unfolding sort_of share_kind_of kind_of
kind_again zero h = refl
kind_again (suc zero) h = refl
kind_again (suc (suc zero)) h = refl
kind_again (suc (suc (suc zero))) h = refl
kind_again (suc (suc (suc (suc zero)))) h = refl
kind_again (suc (suc (suc (suc (suc zero))))) h = refl
kind_again (suc (suc (suc (suc (suc (suc kind)))))) h = absurd (omega arith)

-- A kind stands for a class or a client.
pub sort_limits : (kind : ℕ) → (class ≤ sort_of kind) × (sort_of kind ≤ client)
unfolding sort_of
sort_limits kind =
    by_test (eqb kind class_fixed || eqb kind class_weighted || eqb kind class_stated) (λ e. rw e (omega arith, omega arith)) (λ e. rw e (omega arith, omega arith))

-- The greatest kind; of nodes that are not stated, and so the other way round, that of the first edition.
cond_le : (b : Bool) (x y m : ℕ) → x ≤ m → y ≤ m → cond b x y ≤ m
cond_le true x y m hx hy = hx
cond_le false x y m hx hy = hy

pub kind_small : (sort share_kind : ℕ) → kind_of sort share_kind ≤ client_stated
unfolding kind_of
kind_small sort share_kind =
    cond_le (eqb sort class) _ _ client_stated
    (cond_le (eqb share_kind fixed) _ _ client_stated (omega arith) (cond_le (eqb share_kind stated) _ _ client_stated (omega arith) (omega arith)))
    (cond_le (eqb share_kind fixed) _ _ client_stated (omega arith) (cond_le (eqb share_kind stated) _ _ client_stated (omega arith) (omega arith)))

pub first_kind : (sort share_kind : ℕ) → share_kind ≤ weighted → kind_of sort share_kind ≤ client_weighted
unfolding kind_of
first_kind sort zero h = cond_le (eqb sort class) _ _ client_weighted (omega arith) (omega arith)
first_kind sort (suc zero) h = cond_le (eqb sort class) _ _ client_weighted (omega arith) (omega arith)
first_kind sort (suc (suc share_kind)) h = absurd (omega arith)

pub first_unstated : (kind : ℕ) → kind ≤ client_weighted → share_kind_of kind ≤ weighted
unfolding share_kind_of
first_unstated zero h = omega arith
first_unstated (suc zero) h = omega arith
first_unstated (suc (suc zero)) h = omega arith
first_unstated (suc (suc (suc zero))) h = omega arith
first_unstated (suc (suc (suc (suc kind)))) h = absurd (omega arith)

-- The sort and the share kind of a node of the code are those that its kind stands for.
pub sort_in_kind : (x : Sort) → sort_of (kind_in x) ≡ sort_in x
unfolding sort_of kind_in kind_of sort_in share_kind_in held_by
sort_in_kind (Class (Fixed n)) = refl
sort_in_kind (Class (Weighted n)) = refl
sort_in_kind (Class (Stated n)) = refl
sort_in_kind (Client (Fixed n)) = refl
sort_in_kind (Client (Weighted n)) = refl
sort_in_kind (Client (Stated n)) = refl

pub share_in_kind : (x : Sort) → share_kind_of (kind_in x) ≡ share_kind_in (held_by x)
unfolding share_kind_of kind_in kind_of sort_in held_by share_kind_in
share_in_kind (Class (Fixed n)) = refl
share_in_kind (Class (Weighted n)) = refl
share_in_kind (Class (Stated n)) = refl
share_in_kind (Client (Fixed n)) = refl
share_in_kind (Client (Weighted n)) = refl
share_in_kind (Client (Stated n)) = refl
