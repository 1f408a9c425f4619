-- One entry more: the list with the entries so far at its front gets the next behind them.
use Prim.Native.Nat.{ℕ, ◌+◌, ◌≤◌, ◌<◌}
use mathlib.Core.Path.{◌≡◌, refl, ap, ◌∙◌}
use mathlib.Core.List.{List, [], ◌∷◌, ◌++◌, append_assoc}
use native.Mathlib.Omega.{arith}
use lib.ListN.{length, set, length-append}
use lib.IntN.{ℤ}
use Rattle.definitions.specs.Limits.{entry_length}
use Rattle.definitions.specs.Tick.{State, dispatched, listed}
use Rattle.dispatch.specs.Entries.{entered, table_after}

written : (out list : List ℤ) (v : ℤ) → length out < length list → set (listed out list) (length out) v ≡ listed (out ++ (v ∷ [])) list
unfolding listed
written [] [] v h = absurd (omega arith)
written [] (x ∷ list) v h = refl
written (o ∷ out) [] v h = absurd (omega arith)
written (o ∷ out) (x ∷ list) v h = ap (λ (l : List ℤ). o ∷ l) (written out list v (omega arith))

-- One number more.
listed_one : (out list : List ℤ) (i : ℕ) (v : ℤ) → length out ≡ i → i < length list → set (listed out list) i v ≡ listed (out ++ (v ∷ [])) list
listed_one out list i v e h = rw (← e) (written out list v (omega arith))

pub listed_entry : (out list : List ℤ) (a b c d : ℤ) → length out + entry_length ≤ length list → entered (listed out list) (length out) a b c d ≡ listed (out ++ (a ∷ b ∷ c ∷ d ∷ [])) list
unfolding entered
listed_entry out list a b c d h =
    let n = length out in
    let one = out ++ (a ∷ []) in
    let two = one ++ (b ∷ []) in
    let three = two ++ (c ∷ []) in
    let at_one : length one ≡ n + 1 = length-append out (a ∷ []) in
    let at_two : length two ≡ n + 2 = omega (arith, length-append one (b ∷ [])) in
    let at_three : length three ≡ n + 3 = omega (arith, length-append two (c ∷ [])) in
    ap (λ (l : List ℤ). set (set (set l (n + 1) b) (n + 2) c) (n + 3) d) (listed_one out list n a refl (omega arith))
    ∙ ap (λ (l : List ℤ). set (set l (n + 2) c) (n + 3) d) (listed_one one list (n + 1) b at_one (omega arith))
    ∙ ap (λ (l : List ℤ). set l (n + 3) d) (listed_one two list (n + 2) c at_two (omega arith))
    ∙ listed_one three list (n + 3) d at_three (omega arith)
    ∙ ap (λ (l : List ℤ). listed l list) (simp append_assoc)

module _ (st : State) (k s : ℕ) where
  pub next_table : table_after st.table k s ≡ (dispatched st k s).table
  unfolding table_after dispatched
  next_table = refl
