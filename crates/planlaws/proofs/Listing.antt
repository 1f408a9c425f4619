-- What the order of a tree's nodes lists: every node but the root, by level, then by number. The idea: the list so far has
-- the nodes whose standing is below m, and the next one stands at m.
use Prim.Native.Nat.{ℕ, zero, suc, ◌+◌, ◌-◌, ◌/◌, ◌%◌, ◌≤◌, ◌<◌}
use mathlib.Core.Path.{◌≡◌, sym, ap, ◌∙◌}
use mathlib.Core.Bool.{true, false, not}
use mathlib.Core.List.{List, [], ◌∷◌, ◌++◌, append-nil}
use native.Mathlib.Numerals.{add-one}
use native.Mathlib.Omega.{arith}
use borrow.Author.Tests.{eqb-true, eqb-false, eq-eqb, ne_eqb, not-true}
use lib.ListN.{length, get_or, length-append, get_or-append}
use lib.Seq.{get_or-append_seam}
use Rattle.numbers.proofs.Tests.{by_test, true_false, cond_true, cond_false}
use Rattle.numbers.proofs.Every.{head_holds, rest_hold, none_left, holds_with}
use Rattle.numbers.proofs.All.{below_cases}
use Rattle.definitions.specs.Limits.{nodes, root, last_level}
use Rattle.definitions.specs.Tree.{Tree, there}
use Rattle.planformat.specs.Format.{last_count}
use Rattle.planlaws.specs.Reading.{standing}
use Rattle.planlaws.specs.Writing.{standings, stands, order_below, order}
use Rattle.planlaws.proofs.Rising.{Rises, different_few}

-- Node k is there below the root, and its standing is below m.
pub record Listed (tree : Tree) (m k : ℕ) : Type 0 where
  pub small : k < nodes
  pub below : k ≡ root → ⊥
  pub there : there tree k ≡ true
  pub before : standing tree k < m

-- The list xs has these nodes and no others, and rises.
record Lists (tree : Tree) (m : ℕ) (xs : List ℕ) : Type 0 where
  member : (i : ℕ) → i < length xs → Listed tree m (get_or xs i 0)
  found : (k : ℕ) → Listed tree m k → (i : ℕ) × (i < length xs) × (get_or xs i 0 ≡ k)
  up : (i j : ℕ) → i < j → j < length xs → standing tree (get_or xs i 0) < standing tree (get_or xs j 0)

listed_next : (tree : Tree) (m k : ℕ) → Listed tree m k → Listed tree (suc m) k
listed_next tree m k l = record { small = l.small; below = l.below; there = l.there; before = omega (arith, l.before) }

-- Different nodes have different standings.
pub standing_apart : (tree : Tree) (j k : ℕ) → j < nodes → k < nodes → standing tree j ≡ standing tree k → j ≡ k
unfolding standing
standing_apart tree j k hj hk e = omega arith

-- The node that stands at m, if one does.
record StandsAt (tree : Tree) (m k : ℕ) : Type 0 where
  pub small : k < nodes
  pub below : k ≡ root → ⊥
  pub there : there tree k ≡ true
  pub here : standing tree k ≡ m

stands_node : (tree : Tree) (m : ℕ) → stands tree m ≡ true → StandsAt tree m (m % nodes)
unfolding stands standing
stands_node tree m h =
    let rest = rest_hold _ _ h in
    let level : tree.level (m % nodes) ≡ m / nodes = eqb-true (tree.level (m % nodes)) (m / nodes) (head_holds _ _ (rest_hold _ _ rest)) in
    record {
      small = omega arith;
      below = eqb-false (m % nodes) root (not-true _ (head_holds _ _ rest));
      there = head_holds _ _ h;
      here = omega arith;
    }

node_stands : (tree : Tree) (m k : ℕ) → StandsAt tree m k → stands tree m ≡ true
unfolding stands standing
node_stands tree m k s =
    let node : m % nodes ≡ k = omega (arith, s.small, s.here) in
    let level : tree.level k ≡ m / nodes = omega (arith, s.small, s.here) in
    rw node (holds_with _ _ s.there (holds_with _ _ (ap not (ne_eqb k root s.below)) (holds_with _ _ (eq-eqb (tree.level k) (m / nodes) level) none_left)))

-- One step, where a node stands at m and where none does.
module _ (tree : Tree) (m : ℕ) (xs : List ℕ) (l : Lists tree m xs) where
  with_node_law : (k : ℕ) → StandsAt tree m k → Lists tree (suc m) (xs ++ (k ∷ []))
  with_node_law k s = record { member = member; found = found; up = up }
    where
      long : length (xs ++ (k ∷ [])) ≡ suc (length xs)
      long = length-append xs (k ∷ []) ∙ omega arith

      first : (i : ℕ) → i < length xs → get_or (xs ++ (k ∷ [])) i 0 ≡ get_or xs i 0
      first i hi = get_or-append xs (k ∷ []) 0 i hi

      last : get_or (xs ++ (k ∷ [])) (length xs) 0 ≡ k
      last = get_or-append_seam xs k [] 0

      member : (i : ℕ) → i < length (xs ++ (k ∷ [])) → Listed tree (suc m) (get_or (xs ++ (k ∷ [])) i 0)
      member i hi =
          below_cases (length xs) i (omega (arith, long)) (λ h. rw (first i h) (listed_next tree m (get_or xs i 0) (l.member i h)))
          (λ e. rw (e, last) (record { small = s.small; below = s.below; there = s.there; before = omega (arith, s.here) }))

      found : (j : ℕ) → Listed tree (suc m) j → (i : ℕ) × (i < length (xs ++ (k ∷ []))) × (get_or (xs ++ (k ∷ [])) i 0 ≡ j)
      found j h =
          below_cases m (standing tree j) h.before
          (λ b. let old = l.found j (record { small = h.small; below = h.below; there = h.there; before = b }) in (old.0, omega (arith, long, old.1), first old.0 old.1 ∙ old.2))
          (λ e. (length xs, omega (arith, long), last ∙ standing_apart tree k j s.small h.small (s.here ∙ sym e)))

      up : (i j : ℕ) → i < j → j < length (xs ++ (k ∷ [])) → standing tree (get_or (xs ++ (k ∷ [])) i 0) < standing tree (get_or (xs ++ (k ∷ [])) j 0)
      up i j h hj =
          below_cases (length xs) j (omega (arith, long)) (λ b. rw (first i (omega arith), first j b) (l.up i j h b))
          (λ e. rw (first i (omega arith), e, last) (omega (arith, (l.member i (omega arith)).before, s.here)))

  without_node : stands tree m ≡ false → Lists tree (suc m) xs
  without_node nobody =
      record {
        member = λ i hi. listed_next tree m (get_or xs i 0) (l.member i hi);
        found = λ k h.
            below_cases m (standing tree k) h.before (λ b. l.found k (record { small = h.small; below = h.below; there = h.there; before = b }))
            (λ e. absurd (true_false (node_stands tree m k (record { small = h.small; below = h.below; there = h.there; here = e })) nobody));
        up = l.up;
      }

lists_below : (tree : Tree) (m : ℕ) → Lists tree m (order_below tree m)
unfolding order_below
lists_below tree zero =
    record { member = λ i hi. absurd (omega arith); found = λ k h. absurd (omega (arith, h.before)); up = λ i j h hj. absurd (omega arith) }
lists_below tree (suc m) =
    let before = lists_below tree m in
    by_test (stands tree m)
    (λ e. rw (cond_true (stands tree m) (m % nodes ∷ []) [] e) (with_node_law tree m (order_below tree m) before (m % nodes) (stands_node tree m e)))
    (λ e. rw (cond_false (stands tree m) (m % nodes ∷ []) [] e, append-nil) (without_node tree m (order_below tree m) before e))

-- The list one step on, as a loop goes.
pub order_more : (tree : Tree) (m : ℕ) → stands tree m ≡ true → order_below tree (m + 1) ≡ order_below tree m ++ (m % nodes ∷ [])
unfolding order_below
order_more tree m e = ap (order_below tree) (add-one m) ∙ ap (λ (xs : List ℕ). order_below tree m ++ xs) (cond_true (stands tree m) (m % nodes ∷ []) [] e)

pub order_stays : (tree : Tree) (m : ℕ) → stands tree m ≡ false → order_below tree (m + 1) ≡ order_below tree m
unfolding order_below
order_stays tree m e =
    ap (order_below tree) (add-one m) ∙ ap (λ (xs : List ℕ). order_below tree m ++ xs) (cond_false (stands tree m) (m % nodes ∷ []) [] e) ∙ append-nil (order_below tree m)

order_lists : (tree : Tree) → Lists tree standings (order tree)
unfolding order
order_lists tree = lists_below tree standings

-- A node of a level up to the last is listed.
pub level_listed : (tree : Tree) (k : ℕ) → k < nodes → (k ≡ root → ⊥) → there tree k ≡ true → tree.level k ≤ last_level → Listed tree standings k
unfolding standing
level_listed tree k small below e h = record { small = small; below = below; there = e; before = omega arith }

-- So far as at the end, no more nodes are listed than a plan may have.
lists_few : (tree : Tree) (m : ℕ) (xs : List ℕ) → Lists tree m xs → length xs ≤ last_count
lists_few tree m xs l =
    different_few last_count (length xs) (λ i. get_or xs i 0 - 1) (λ i hi. omega (arith, (l.member i hi).small))
    (record {
      apart = λ i j h hj e.
          let same : get_or xs i 0 ≡ get_or xs j 0 = omega (arith, (l.member i (omega arith)).below, (l.member j hj).below) in
          omega (arith, l.up i j h hj, ap (standing tree) same);
    })

pub order_few : (tree : Tree) (m : ℕ) → length (order_below tree m) ≤ last_count
order_few tree m = lists_few tree m (order_below tree m) (lists_below tree m)

pub order_short : (tree : Tree) → length (order tree) ≤ last_count
unfolding order
order_short tree = order_few tree standings

-- Node i of the order.
unfoldable pub listed : Tree → ℕ → ℕ
listed tree i = get_or (order tree) i 0

pub listed_node : (tree : Tree) (i : ℕ) → i < length (order tree) → Listed tree standings (listed tree i)
unfolding listed
listed_node tree = (order_lists tree).member

pub listed_found : (tree : Tree) (k : ℕ) → Listed tree standings k → (i : ℕ) × (i < length (order tree)) × (listed tree i ≡ k)
unfolding listed
listed_found tree = (order_lists tree).found

pub listed_rises : (tree : Tree) → Rises (standing tree) (length (order tree)) (listed tree)
unfolding listed
listed_rises tree = record { up = (order_lists tree).up }
