-- A list gets the entry of a client on its own port, and stays where the client is on another.
use Prim.Native.Nat.{ℕ, ◌*◌}
use mathlib.Core.Path.{◌≡◌}
use mathlib.Core.List.{List}
use borrow.Author.Tests.{eq-eqb, ne_eqb}
use lib.Dec.{eqb}
use lib.ListN.{length, length-set}
use lib.IntN.{ℤ}
use Rattle.numbers.proofs.Tests.{by_test, cond_true, cond_false}
use Rattle.definitions.specs.Limits.{entry_length}
use Rattle.definitions.specs.Places.{port}
use Rattle.ticklaws.specs.Ports.{gets}
use Rattle.dispatch.specs.Entries.{entered, entered_on, list_after}

module _ (p q : ℕ) where
  pub gets_here : q ≡ p → gets p q ≡ 1
  unfolding gets
  gets_here e = cond_true {A = ℕ} (eqb q p) 1 0 (eq-eqb q p e)

  pub gets_other : (q ≡ p → ⊥) → gets p q ≡ 0
  unfolding gets
  gets_other ne = cond_false {A = ℕ} (eqb q p) 1 0 (ne_eqb q p ne)

  module _ (list : List ℤ) (n : ℕ) (a b c d : ℤ) where
    pub entered_here : q ≡ p → entered_on p q list n a b c d ≡ entered list (entry_length * n) a b c d
    unfolding entered_on
    entered_here e = cond_true (eqb q p) (entered list (entry_length * n) a b c d) list (eq-eqb q p e)

    pub entered_other : (q ≡ p → ⊥) → entered_on p q list n a b c d ≡ list
    unfolding entered_on
    entered_other ne = cond_false (eqb q p) (entered list (entry_length * n) a b c d) list (ne_eqb q p ne)

-- A list is as long after a dispatch.
pub length_list_after : (p : ℕ) (list : List ℤ) (n : ℕ) (t : List ℤ) (k s : ℕ) → length (list_after p list n t k s) ≡ length list
unfolding list_after entered_on entered
length_list_after p list n t k s =
    by_test (eqb (port t k) p) (λ y. rw y (simp length-set)) (λ y. rw y)

-- What the writing of an entry needs of these.
pub ruleset gets_entry = (gets_here, gets_other, entered_here, entered_other)
