-- A table in which one node's record was edited. The sums under a class change by what the node adds to them, before and
-- after. So the edited table is ready when the edited node is, its children keep their class, and the sums stay in their
-- limits.
use Prim.Native.Nat.{ℕ, suc, ◌+◌, ◌≤◌, ◌<◌}
use mathlib.Core.Path.{◌≡◌, refl, sym, ap, ◌∙◌}
use mathlib.Core.Bool.{Bool, true, false}
use mathlib.Core.List.{List}
use native.Mathlib.Omega.{arith}
use native.Mathlib.Decide.{ℕ_discrete}
use lib.IntN.{ℤ}
use lib.Signed.{le_z}
use Rattle.numbers.specs.Whole.{plus, minus}
use Rattle.numbers.proofs.Tests.{by_test}
use Rattle.numbers.proofs.Parts.{zarith}
use Rattle.numbers.proofs.Sums.{sum_changed}
use Rattle.definitions.specs.Limits.{nodes, rate_at, balance_at, waiting_at, arrival_at, fixed, root}
use Rattle.definitions.specs.Places.{queue_place, count, balance, waiting, arrival}
use Rattle.definitions.specs.Tree.{Tree, tree_of, there, is_class, child_of, count_if, sum_under}
use Rattle.definitions.specs.Rates.{kind_share, kind_sum}
use Rattle.definitions.specs.Order.{child_balances}
use Rattle.definitions.proofs.Facts.{Child, Class, Stated}
use Rattle.definitions.proofs.ShareKinds.{same_share}
use Rattle.treelaws.proofs.Children.{ChildOf, child_facts, balances_parts, uncounted}
use Rattle.definitions.proofs.Edits.{Edited, SameNode, edited_others}
use Rattle.calllaws.proofs.Nodes.{Node, Ready, Sums, there_same, node_kept, differ_kept, root_kept, most_waiting_law}

pub child_same : (new old : Tree) (c j : ℕ) → new.sort j ≡ old.sort j → new.parent j ≡ old.parent j → child_of new c j ≡ child_of old c j
unfolding child_of
child_same new old c j sorts parents = rw (there_same new old j sorts, parents)

pub no_child : (tree : Tree) (c k : ℕ) → (ChildOf tree c k → ⊥) → child_of tree c k ≡ false
no_child tree c k h = by_test (child_of tree c k) (λ e. absurd (h (child_facts tree c k e))) (λ e. e)

pub count_same : (a b : Bool) (f g : ℕ → ℕ) (k : ℕ) → a ≡ b → f k ≡ g k → count_if a f k ≡ count_if b g k
unfolding count_if
count_same true b f g k e h = rw (← e) h
count_same false b f g k e h = rw (← e)

pub count_zero : (b : Bool) (f : ℕ → ℕ) (k : ℕ) → (b ≡ true → f k ≡ 0) → count_if b f k ≡ 0
unfolding count_if
count_zero true f k h = h refl
count_zero false f k h = refl

-- A sum under class c, before and after.
under_changed : (new old : Tree) (k c : ℕ) (g f : ℕ → ℕ) → k < nodes → ((j : ℕ) → (j ≡ k → ⊥) → SameNode new old j) → ((j : ℕ) → (j ≡ k → ⊥) → g j ≡ f j) → sum_under new c g + count_if (child_of old c k) f k ≡ sum_under old c f + count_if (child_of new c k) g k
unfolding sum_under
under_changed new old k c g f hk same h =
    sum_changed nodes k (λ j. count_if (child_of new c j) g j) (λ j. count_if (child_of old c j) f j) hk
    (λ j hj ne. count_same (child_of new c j) (child_of old c j) g f j (child_same new old c j (same j ne).sort (same j ne).parent) (h j ne))

-- Sums of balances by their parts.
balances_le : (t u : List ℤ) (c : ℕ) → sum_under (tree_of u) c (λ k. plus (balance u k)) + sum_under (tree_of t) c (λ k. minus (balance t k)) ≤ sum_under (tree_of t) c (λ k. plus (balance t k)) + sum_under (tree_of u) c (λ k. minus (balance u k)) → le_z (child_balances u c) (child_balances t c) ≡ true
balances_le t u c h = omega (arith, zarith, balances_parts t c, balances_parts u c)

module _ (t u : List ℤ) (k : ℕ) (f : ℕ → ℤ) (hk : k < nodes) (edited : Edited t u k f) where
  others : (j : ℕ) → (j ≡ k → ⊥) → SameNode (tree_of u) (tree_of t) j
  others = edited_others t u k f edited

  -- The shares of one kind.
  pub kinds_changed : (kind c : ℕ) → kind_sum (tree_of u) kind c + count_if (child_of (tree_of t) c k) (kind_share (tree_of t) kind) k ≡ kind_sum (tree_of t) kind c + count_if (child_of (tree_of u) c k) (kind_share (tree_of u) kind) k
  unfolding kind_sum
  kinds_changed kind c =
      under_changed (tree_of u) (tree_of t) k c (kind_share (tree_of u) kind) (kind_share (tree_of t) kind) hk others
      (λ j ne. same_share (tree_of u) (tree_of t) kind j j (others j ne).kind (others j ne).share)

  -- They sum to no more where the node is no child of class c afterwards.
  pub kinds_fall : (kind c : ℕ) → child_of (tree_of u) c k ≡ false → kind_sum (tree_of u) kind c ≤ kind_sum (tree_of t) kind c
  kinds_fall kind c no_child = omega (arith, kinds_changed kind c, uncounted (child_of (tree_of u) c k) (kind_share (tree_of u) kind) k no_child)

  pub depths_changed : (c : ℕ) → sum_under (tree_of u) c (tree_of u).depth + count_if (child_of (tree_of t) c k) (tree_of t).depth k ≡ sum_under (tree_of t) c (tree_of t).depth + count_if (child_of (tree_of u) c k) (tree_of u).depth k
  depths_changed c = under_changed (tree_of u) (tree_of t) k c (tree_of u).depth (tree_of t).depth hk others (λ j ne. (others j ne).depth)

  part_changed : (part : ℤ → ℕ) (c : ℕ) → sum_under (tree_of u) c (λ j. part (balance u j)) + count_if (child_of (tree_of t) c k) (λ j. part (balance t j)) k ≡ sum_under (tree_of t) c (λ j. part (balance t j)) + count_if (child_of (tree_of u) c k) (λ j. part (balance u j)) k
  unfolding balance
  part_changed part c = under_changed (tree_of u) (tree_of t) k c (λ j. part (balance u j)) (λ j. part (balance t j)) hk others (λ j ne. ap part (edited.others j balance_at ne (omega arith)))

  -- Balances sum to no more where the node adds no more to them.
  pub balances_changed : (c : ℕ) → count_if (child_of (tree_of u) c k) (λ j. plus (balance u j)) k + count_if (child_of (tree_of t) c k) (λ j. minus (balance t j)) k ≤ count_if (child_of (tree_of t) c k) (λ j. plus (balance t j)) k + count_if (child_of (tree_of u) c k) (λ j. minus (balance u j)) k → le_z (child_balances u c) (child_balances t c) ≡ true
  balances_changed c h = balances_le t u c (omega (arith, part_changed plus c, part_changed minus c))

  -- Where the node is no child of class c afterwards, and was none with a balance below 0, the sums under c fall or stay.
  pub sums_fall : (c : ℕ) → child_of (tree_of u) c k ≡ false → (child_of (tree_of t) c k ≡ true → minus (balance t k) ≡ 0) → Class t c → Sums t u c
  sums_fall c no_child low class =
      record {
        shares = omega (arith, class.shares, kinds_fall fixed c no_child);
        depths = omega (arith, class.depths, depths_changed c, uncounted (child_of (tree_of u) c k) (tree_of u).depth k no_child);
        balances =
            balances_changed c
            (omega (
              arith,
              uncounted (child_of (tree_of u) c k) (λ j. plus (balance u j)) k no_child,
              count_zero (child_of (tree_of t) c k) (λ j. minus (balance t j)) k low,
            ));
      }

  pub edited_ready : (k ≡ 0 → ⊥) → waiting u k ≡ waiting t k → ((i : ℕ) → i < waiting t k → arrival u k i ≡ arrival t k i) → ((j : ℕ) → j < nodes → (j ≡ k → ⊥) → there (tree_of t) j ≡ true → (j ≡ 0 → ⊥) → Child (tree_of t) j → Child (tree_of u) j) → ((c : ℕ) → c < nodes → (c ≡ k → ⊥) → is_class (tree_of t) c ≡ true → Sums t u c) → Node u k → Stated u → Ready t → Ready u
  unfolding count waiting arrival
  edited_ready not_root waits arrivals child sums node stated r =
      record {
        long = edited.long;
        counted = rw (edited.heading 0 (omega arith)) r.counted;
        heading = λ p hp. edited.heading (suc p) (omega arith) ∙ r.heading p hp;
        root =
            root_kept t u (λ p hp. edited.others 0 p (λ e. not_root (sym e)) (omega arith))
            (rw (edited.others root rate_at (λ e. not_root (sym e)) (omega arith)) r.root.rate)
            r.root;
        node = λ j hj.
            elim (ℕ_discrete j k) [
              | yes e ↦ rw e node
              | no ne ↦
                  node_kept t u j (omega (arith, ap plus (edited.heading 0 (omega arith))))
                  (record { places = λ p hp six. edited.others j p ne hp; unused = λ e. edited.others j rate_at ne (omega arith) })
                  (child j hj ne)
                  (sums j hj ne)
                  (r.node j hj)
            ];
        differ =
            differ_kept t u
            (λ j hj. elim (ℕ_discrete j k) [ yes e ↦ rw e waits | no ne ↦ ap plus (edited.others j waiting_at ne (omega arith)) ])
            (λ j hj i hi.
            elim (ℕ_discrete j k) [
              | yes e ↦ rw e (arrivals i (rw e at hi))
              | no ne ↦ ap plus (edited.others j (queue_place i + arrival_at) ne (omega (arith, most_waiting_law t j (r.node j hj))))
            ])
            r;
        stated = stated;
      }
