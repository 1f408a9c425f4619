-- What one dispatch for client k with node s as supplier adds to the counts: one entry and its grains for client k, and
-- the grains to s and to every node above it.
use Prim.Native.Nat.{ℕ, ◌+◌}
use mathlib.Core.Path.{◌≡◌, sym, ap, ◌∙◌}
use mathlib.Core.Bool.{cond}
use mathlib.Core.List.{List, [], ◌∷◌, ◌++◌}
use borrow.Author.Tests.{eqb-true, eq-eqb}
use lib.Dec.{eqb}
use Rattle.numbers.proofs.Tests.{same_truth}
use Rattle.definitions.specs.Tree.{Tree, at_or_above}
use Rattle.definitions.specs.Places.{size}
use Rattle.definitions.specs.Tick.{State, grains, dispatched}
use Rattle.definitions.proofs.Ports.{whole}
use Rattle.bounds.specs.Observer.{Entry, entries_for}
use Rattle.bounds.specs.Counts.{entry_grains, grains_for_client, grains_to_node, sum_over}
use Rattle.bounds.proofs.Decoded.{sum_last, entries_for_last, told, entry_of, told_dispatched}

pub eqb_swap : (a b : ℕ) → eqb a b ≡ eqb b a
eqb_swap a b = same_truth (eqb a b) (eqb b a) (λ e. eq-eqb b a (sym (eqb-true a b e))) (λ e. eq-eqb a b (sym (eqb-true b a e)))

module _ (st : State) (k s : ℕ) (w : whole st.entries) where
  -- A count after the dispatch is the count with one entry more.
  more : (f : List Entry → ℕ) → f (told (dispatched st k s).entries) ≡ f (told st.entries ++ (entry_of st.table k s ∷ []))
  more f = ap f (told_dispatched st k s w)

  pub sent_more : (j : ℕ) → entries_for j (told (dispatched st k s).entries) ≡ entries_for j (told st.entries) + cond (eqb k j) 1 0
  unfolding entry_of
  sent_more j = more (entries_for j) ∙ entries_for_last j (told st.entries) (entry_of st.table k s)

  -- A sum after the dispatch has the term of its entry more.
  sum_more : (f : Entry → ℕ) → sum_over f (told (dispatched st k s).entries) ≡ sum_over f (told st.entries) + f (entry_of st.table k s)
  sum_more f = more (sum_over f) ∙ sum_last f (told st.entries) (entry_of st.table k s)

  pub all_more : sum_over entry_grains (told (dispatched st k s).entries) ≡ sum_over entry_grains (told st.entries) + grains (size st.table k 0)
  unfolding entry_of entry_grains grains
  all_more = sum_more entry_grains

  pub grains_more : (j : ℕ) → sum_over (grains_for_client j) (told (dispatched st k s).entries) ≡ sum_over (grains_for_client j) (told st.entries) + cond (eqb k j) (grains (size st.table k 0)) 0
  unfolding entry_of entry_grains grains_for_client grains
  grains_more j = sum_more (grains_for_client j)

  pub charged_more : (tree : Tree) (x : ℕ) → sum_over (grains_to_node tree x) (told (dispatched st k s).entries) ≡ sum_over (grains_to_node tree x) (told st.entries) + cond (at_or_above tree s x) (grains (size st.table k 0)) 0
  unfolding entry_of entry_grains grains_to_node at_or_above grains
  charged_more tree x = sum_more (grains_to_node tree x)
