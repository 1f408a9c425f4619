-- What an accepted join leaves: its node shows what was given, with a level one below its parent's and the rate of the
-- rates section; every other node keeps all but its rate, which is renewed.
use Prim.Native.Nat.{ℕ, zero, suc, ◌<◌}
use mathlib.Core.Path.{◌≡◌, refl, sym, ap, subst, ◌∙◌}
use mathlib.Core.Bool.{true, false, not}
use mathlib.Core.List.{List}
use native.Mathlib.Omega.{arith}
use native.Mathlib.Decide.{ℕ_discrete}
use borrow.Author.Tests.{ne_eqb}
use lib.ListN.{length}
use lib.IntN.{ℤ, pos}
use Rattle.numbers.specs.Whole.{plus}
use Rattle.numbers.proofs.Parts.{plus_pos, zarith}
use Rattle.definitions.specs.Limits.{table_length, header_length, record_length, nodes, sort_at, level_at, rate_at, port_at, root}
use Rattle.definitions.specs.Places.{place, header, rate}
use Rattle.definitions.specs.Tree.{tree_of, there}
use Rattle.definitions.specs.Rates.{rate_in, renewed}
use Rattle.definitions.specs.Calls.{join_table}
use Rattle.treelaws.specs.Joins.{Join, refusal_of, after_join, joined_by}
use Rattle.definitions.proofs.Facts.{facts}
use Rattle.definitions.proofs.Refusals.{kept_new}
use Rattle.definitions.proofs.Edits.{joined_place, joined_edit, joined_rest}
use Rattle.definitions.proofs.Passed.{JoinPassed, join_passed}
use Rattle.treelaws.proofs.Renewed.{renewed_length, renewed_header, renewed_place, renewed_unused, renewed_tree, renewed_disk, renewed_rates}

-- What join j has passed where it is accepted.
abbrev pub JoinAccepted : List ℤ → Join → Type 0
JoinAccepted t j = JoinPassed t (plus j.node) (plus j.parent) j.sort j.kind j.share j.depth j.port

pub join_accepted : (t : List ℤ) (j : Join) → refusal_of t j ≡ 0 → JoinAccepted t j
unfolding refusal_of
join_accepted t j h = join_passed t j.node j.parent j.sort j.kind j.share j.depth j.port h

-- A place that join writes: one of the tree, or the port.
pub data Given : ℕ → Type 0 where
  of_tree : {p : ℕ} → p < rate_at → Given p
  of_port_law : Given port_at

pub given_small : {p : ℕ} → Given p → p < record_length
given_small (of_tree l) = omega arith
given_small of_port_law = omega arith

pub given_no_rate : {p : ℕ} → Given p → p ≡ rate_at → ⊥
given_no_rate (of_tree l) = λ e. omega arith
given_no_rate of_port_law = λ e. omega arith

not_given : (p : ℕ) → rate_at < p → (p ≡ port_at → ⊥) → Given p → ⊥
not_given p low other (of_tree l) = omega arith
not_given p low other of_port_law = other refl

-- What a join gives such a place of its node.
abbrev given : ℕ → ℕ → ℤ → ℤ → ℤ → ℤ → ℤ → ℕ → ℤ
given parent level sort kind share depth port zero = sort
given parent level sort kind share depth port (suc zero) = pos parent
given parent level sort kind share depth port (suc (suc zero)) = pos level
given parent level sort kind share depth port (suc (suc (suc zero))) = kind
given parent level sort kind share depth port (suc (suc (suc (suc zero)))) = share
given parent level sort kind share depth port (suc (suc (suc (suc (suc zero))))) = depth
given parent level sort kind share depth port (suc (suc (suc (suc (suc (suc p)))))) = port

-- What join j gives place p of its node, with the given level.
unfoldable pub given_by : Join → ℕ → ℕ → ℤ
given_by j level p = given (plus j.parent) level j.sort j.kind j.share j.depth j.port p

-- A node is there by its sort alone.
pub same_there : (t u : List ℤ) (k : ℕ) → place t k sort_at ≡ place u k sort_at → there (tree_of t) k ≡ there (tree_of u) k
unfolding tree_of there
same_there t u k e = rw e

pub there_by_sort : (t : List ℤ) (k : ℕ) → 0 < plus (place t k sort_at) → there (tree_of t) k ≡ true
unfolding tree_of there
there_by_sort t k h = ap not (ne_eqb (plus (place t k sort_at)) 0 (omega arith))

pub level_by_place : (t : List ℤ) (k : ℕ) → (tree_of t).level k ≡ plus (place t k level_at)
unfolding tree_of
level_by_place t k = refl

-- The table u is what the accepted join j leaves of t.
pub record JoinLeaves (t : List ℤ) (j : Join) (u : List ℤ) : Type 0 where
  pub long : length u ≡ table_length
  pub heading : (p : ℕ) → p < header_length → header u p ≡ header t p
  pub rest : (k p : ℕ) → rate_at < p → p < record_length → (p ≡ port_at → ⊥) → place u k p ≡ place t k p
  pub kept : (k p : ℕ) → Given p → (k ≡ plus j.node → ⊥) → place u k p ≡ place t k p
  pub written : (p : ℕ) → Given p → place u (plus j.node) p ≡ given_by j (suc ((tree_of t).level (plus j.parent))) p
  pub here : there (tree_of u) (plus j.node) ≡ true
  pub disk : rate u root ≡ rate t root
  pub rates : (k : ℕ) → k < nodes → there (tree_of u) k ≡ true → place u k rate_at ≡ pos (rate_in (tree_of u) (rate u root) k)
  pub unused : (k : ℕ) → there (tree_of u) k ≡ false → place u k rate_at ≡ place t k rate_at

pub after_join_law : (t : List ℤ) (j : Join) → refusal_of t j ≡ 0 → after_join t j ≡ renewed (joined_by t j)
unfolding refusal_of after_join join_table joined_by
after_join_law t j h = kept_new _ _ _ h

-- The join's record written: the places that it writes show what is given, and every other place stays.
module _ (t : List ℤ) (j : Join) (long : length t ≡ table_length) (small : plus j.node < nodes) where
  pub joined_shown : (p : ℕ) → Given p → place (joined_by t j) (plus j.node) p ≡ given_by j (suc ((tree_of t).level (plus j.parent))) p
  unfolding joined_by given_by
  joined_shown p hp = (joined_edit t (plus j.node) (plus j.parent) j.sort j.kind j.share j.depth j.port long small).here p (given_small hp) ∙ at p hp
    where
      at : (p : ℕ) → Given p → joined_place t (plus j.node) (plus j.parent) j.sort j.kind j.share j.depth j.port p ≡ given (plus j.parent) (suc ((tree_of t).level (plus j.parent))) j.sort j.kind j.share j.depth j.port p
      at zero (of_tree l) = refl
      at (suc zero) (of_tree l) = refl
      at (suc (suc zero)) (of_tree l) = refl
      at (suc (suc (suc zero))) (of_tree l) = refl
      at (suc (suc (suc (suc zero)))) (of_tree l) = refl
      at (suc (suc (suc (suc (suc zero))))) (of_tree l) = refl
      at (suc (suc (suc (suc (suc (suc p)))))) (of_tree l) = absurd (omega arith)
      at _ of_port_law = refl

  pub joined_apart : (k p : ℕ) → p < record_length → (k ≡ plus j.node → Given p → ⊥) → place (joined_by t j) k p ≡ place t k p
  unfolding joined_by
  joined_apart k p hp ne =
      elim (ℕ_discrete k (plus j.node)) [
        | yes e ↦ joined_rest t (plus j.node) (plus j.parent) j.sort j.kind j.share j.depth j.port long small k p hp (let low : p < rate_at → ⊥ = λ l. ne e (of_tree l) in omega arith) (λ same. ne e (subst Given (sym same) of_port_law))
        | no other ↦ (joined_edit t (plus j.node) (plus j.parent) j.sort j.kind j.share j.depth j.port long small).others k p other hp
      ]

  pub joined_heading : (p : ℕ) → p < header_length → header (joined_by t j) p ≡ header t p
  unfolding joined_by
  joined_heading = (joined_edit t (plus j.node) (plus j.parent) j.sort j.kind j.share j.depth j.port long small).heading

  pub joined_long : length (joined_by t j) ≡ table_length
  unfolding joined_by
  joined_long = (joined_edit t (plus j.node) (plus j.parent) j.sort j.kind j.share j.depth j.port long small).long

given_sort : (j : Join) (level : ℕ) → given_by j level 0 ≡ j.sort
unfolding given_by
given_sort j level = refl

leaves : (t : List ℤ) (j : Join) → JoinAccepted t j → JoinLeaves t j (renewed (joined_by t j))
unfolding rate
leaves t j a =
    record {
      long = renewed_length u ∙ long;
      heading = λ p hp. renewed_header u p hp ∙ joined_heading t j old a.node p hp;
      rest = λ k p low hp other. renewed_place u k p hp (omega arith) ∙ apart k p hp (λ e. not_given p low other);
      kept = λ k p hp ne. renewed_place u k p (given_small hp) (given_no_rate hp) ∙ apart k p (given_small hp) (λ e l. ne e);
      written = written;
      here = there_by_sort (renewed u) (plus j.node) (omega (arith, zarith, a.sorts, ap plus (written 0 (of_tree (omega arith)) ∙ given_sort j (suc ((tree_of t).level (plus j.parent))))));
      disk = renewed_disk u long root top ∙ ap plus (at_root rate_at (omega arith));
      rates = renewed_rates u long root top;
      unused = λ k e. renewed_unused u k (rw renewed_tree at e) ∙ apart k rate_at (omega arith) (λ e g. given_no_rate g refl);
    }
  where
    u : List ℤ
    u = joined_by t j

    old : length t ≡ table_length
    old = (facts t a.order).long

    long : length u ≡ table_length
    long = joined_long t j old a.node

    apart : (k p : ℕ) → p < record_length → (k ≡ plus j.node → Given p → ⊥) → place u k p ≡ place t k p
    apart = joined_apart t j old a.node

    written : (p : ℕ) → Given p → place (renewed u) (plus j.node) p ≡ given_by j (suc ((tree_of t).level (plus j.parent))) p
    written p hp = renewed_place u (plus j.node) p (given_small hp) (given_no_rate hp) ∙ joined_shown t j old a.node p hp

    at_root : (p : ℕ) → p < record_length → place u 0 p ≡ place t 0 p
    at_root p hp = apart 0 p hp (λ e l. a.below (sym e))

    root : there (tree_of u) 0 ≡ true
    root = there_by_sort u 0 (omega (arith, zarith, ap plus (at_root sort_at (omega arith) ∙ (facts t a.order).root.sort), plus_pos 1))

    top : (tree_of u).level 0 ≡ 0
    top = level_by_place u 0 ∙ ap plus (at_root level_at (omega arith) ∙ (facts t a.order).root.level) ∙ plus_pos 0

pub join_leaves : (t : List ℤ) (j : Join) → refusal_of t j ≡ 0 → JoinLeaves t j (after_join t j)
join_leaves t j h = rw (after_join_law t j h) (leaves t j (join_accepted t j h))
