-- A node is unused, a class or a client, and only one of them.
use Prim.Native.Nat.{ℕ, ◌<◌}
use mathlib.Core.Path.{◌≡◌}
use mathlib.Core.Bool.{true, false}
use mathlib.Core.List.{List}
use native.Mathlib.Omega.{arith}
use borrow.Author.Tests.{eqb-true, eqb-false, eq-eqb, ne_eqb, not-false}
use lib.Dec.{eqb}
use lib.IntN.{ℤ}
use Rattle.numbers.proofs.Tests.{by_test}
use Rattle.numbers.proofs.Parts.{zarith}
use Rattle.definitions.specs.Limits.{nodes, class, client}
use Rattle.definitions.specs.Tree.{Tree, tree_of, there, is_class, is_client}
use Rattle.definitions.proofs.Facts.{InOrder}

pub unused_client : (tree : Tree) (k : ℕ) → there tree k ≡ false → is_client tree k ≡ false
unfolding there is_client
unused_client tree k h = ne_eqb (tree.sort k) client (λ e. omega (arith, eqb-true (tree.sort k) 0 (not-false (eqb (tree.sort k) 0) h)))

pub class_client : (tree : Tree) (k : ℕ) → is_class tree k ≡ true → is_client tree k ≡ false
unfolding is_class is_client
class_client tree k h = ne_eqb (tree.sort k) client (λ e. omega (arith, eqb-true (tree.sort k) class h))

pub client_class : (tree : Tree) (k : ℕ) → is_client tree k ≡ true → is_class tree k ≡ false
unfolding is_class is_client
client_class tree k h = ne_eqb (tree.sort k) class (λ e. omega (arith, eqb-true (tree.sort k) client h))

pub client_there : (tree : Tree) (k : ℕ) → is_client tree k ≡ true → there tree k ≡ true
unfolding there is_client
client_there tree k h = rw (eqb-true (tree.sort k) client h)

pub by_sort {ℓ} : {P : Type ℓ} (t : List ℤ) → InOrder t → (k : ℕ) → k < nodes → (there (tree_of t) k ≡ false → P) → (is_class (tree_of t) k ≡ true → P) → (is_client (tree_of t) k ≡ true → P) → P
unfolding tree_of there is_class is_client
by_sort t f k hk if_unused if_class if_client =
    by_test (there (tree_of t) k)
    (λ h. by_test (is_client (tree_of t) k) if_client
    (λ e. if_class (eq-eqb ((tree_of t).sort k) class (omega (arith, zarith, (f.limits k hk h).sort, eqb-false ((tree_of t).sort k) client e)))))
    if_unused
