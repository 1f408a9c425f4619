-- Going down from a class: each turn renews one node or passes it, and after the last level the renewal is made.
use Prim.Native.Nat.{ℕ, suc, ◌+◌, ◌*◌, ◌-◌, ◌≤◌, ◌<◌}
use mathlib.Core.Path.{◌≡◌, refl, sym, ap, ◌∙◌, subst}
use mathlib.Core.Bool.{Bool, true, false, ◌||◌}
use mathlib.Core.List.{List}
use native.Mathlib.Omega.{arith}
use native.Mathlib.Decide.{dec_lt, ℕ_discrete}
use borrow.Author.Tests.{eqb-true, eq-eqb}
use lib.ListN.{length, get_or, set, length-set, replicate, length-replicate, get_or-replicate}
use lib.Seq.{get_or-set_same, get_or-set_other}
use lib.Dec.{eqb}
use lib.IntN.{ℤ, pos}
use Rattle.numbers.specs.Whole.{plus}
use Rattle.numbers.proofs.Tests.{by_test, true_false}
use Rattle.numbers.proofs.Every.{head_holds, rest_hold, holds_with, none_left}
use Rattle.numbers.proofs.Parts.{plus_pos}
use Rattle.definitions.specs.Limits.{table_length, record_length, nodes, rate_at, last_level, root, greatest_rate}
use Rattle.definitions.specs.Places.{place, put, rate}
use Rattle.definitions.specs.Tree.{Tree, tree_of, there}
use Rattle.definitions.specs.Rates.{child_rate}
use Rattle.definitions.specs.Renewal.{below, rate_below, renewed_below}
use Rattle.definitions.proofs.Places.{length_put, header_put, place_put_same, place_put_node, place_put_place}
use Rattle.treelaws.proofs.Renewed.{Written, same_tree_law}
use Rattle.treelaws.proofs.Way.{Ways, At, above}
use Rattle.treelaws.proofs.Below.{below_facts, below_level, below_parent, by_parent, own_rate, rate_below_child, renewing_below, renewed_below_is}
use Rattle.sums.specs.Rated.{Placed, Rated}
use Rattle.sums.specs.Sums.{ShareSums}
use Rattle.renewing.specs.Renewal.{at_level, turn, Descent, Onward}
use Rattle.sums.proofs.Rated.{rated_ways, level_le, rate_below_le}

-- Node k is there at level l.
at_level_law : (tree : Tree) (l k : ℕ) → there tree k ≡ true → tree.level k ≡ l → at_level tree l k ≡ true
unfolding at_level
at_level_law tree l k here e = holds_with _ _ here (holds_with _ _ (eq-eqb (tree.level k) l e) none_left)

pub level_at_law : (tree : Tree) (l k : ℕ) → k < nodes → at_level tree l k ≡ true → At tree l k
unfolding at_level
level_at_law tree l k hk h = record { low = hk; there = head_holds _ _ h; level = eqb-true (tree.level k) l (head_holds _ _ (rest_hold _ _ h)) }

-- At the start nothing below the class has had its turn.
pub descent_start : (t : List ℤ) (c : ℕ) → Rated t c → Descent t c (((tree_of t).level c + 1) * nodes) (replicate nodes false)
descent_start t c f =
    record {
      rated = f;
      wide = length-replicate nodes false;
      right = λ k hk e early. absurd (late k hk e early);
      marked = λ k hk early. get_or-replicate nodes k false false hk ∙ sym (by_test (below (tree_of t) c k) (λ e. absurd (late k hk e early)) (λ e. e));
      unmarked = λ k hk e. get_or-replicate nodes k false false hk;
    }
  where
    late : (k : ℕ) → k < nodes → below (tree_of t) c k ≡ true → turn (tree_of t) k < ((tree_of t).level c + 1) * nodes → ⊥
    late k hk e early = omega (arith, below_level (tree_of t) (rated_ways t c f) c k hk e)

-- After the last level everything below the class has.
pub descent_end : (t : List ℤ) (c l : ℕ) (marks : List Bool) → last_level < l → Descent t c (l * nodes) marks → renewed_below t c ≡ t
descent_end t c l marks last d =
    renewed_below_is t t c d.rated.long d.rated.long (λ p hp. refl) (λ k p hp ne. refl)
    (λ k hk e. d.right k hk e (omega (arith, level_le t c d.rated k hk (below_facts (tree_of t) c k e).there)))
    (λ k hk e. refl)

-- From the start, and one stretch after another.
pub onward_start : (t : List ℤ) (c m : ℕ) (marks : List Bool) → Descent t c m marks → Onward t t c m marks
onward_start t c m marks d = record { descent = d; tree = refl; renewal = refl }

pub onward_then : (t u v : List ℤ) (c m n : ℕ) (marks later : List Bool) → Onward t u c m marks → Onward u v c n later → Onward t v c n later
onward_then t u v c m n marks later first next =
    record { descent = next.descent; tree = next.tree ∙ first.tree; renewal = next.renewal ∙ first.renewal }

pub onward_at : (t u : List ℤ) (c m n : ℕ) (marks : List Bool) → m ≡ n → Onward t u c m marks → Onward t u c n marks
onward_at t u c m n marks e o = subst (λ (i : ℕ). Onward t u c i marks) e o

-- The sums under the classes stay.
pub same_share_sums : (t u : List ℤ) (sums : List ℕ) → tree_of u ≡ tree_of t → ShareSums (tree_of t) nodes sums → ShareSums (tree_of u) nodes sums
same_share_sums t u sums same f = rw same f

-- The turn of node n at level l.
module _ (t : List ℤ) (c l n : ℕ) (marks : List Bool) (hn : n < nodes) (d : Descent t c (l * nodes + n) marks) where
  -- No other node has it.
  whose : (k : ℕ) → k < nodes → turn (tree_of t) k < l * nodes + n + 1 → (turn (tree_of t) k < l * nodes + n → ⊥) → (k ≡ n) × ((tree_of t).level k ≡ l)
  whose k hk early late = (omega arith, omega arith)

  -- A node that does not stand below the class at this level is passed.
  passed : (below (tree_of t) c n ≡ true → (tree_of t).level n ≡ l → ⊥) → Onward t t c (l * nodes + n + 1) marks
  passed other =
      record {
        descent =
            record {
              rated = d.rated;
              wide = d.wide;
              right = λ k hk e early. elim (dec_lt (turn (tree_of t) k) (l * nodes + n)) [ yes before ↦ d.right k hk e before | no late ↦ (let is = whose k hk early late in absurd (other (rw is.0 at e) (rw is.0 at is.1))) ];
              marked = λ k hk early.
                  elim (dec_lt (turn (tree_of t) k) (l * nodes + n)) [
                    | yes before ↦ d.marked k hk before
                    | no late ↦
                        (let is = whose k hk early late in
                        d.unmarked k hk (omega arith)
                        ∙ sym (by_test (below (tree_of t) c k) (λ e. absurd (other (rw is.0 at e) (rw is.0 at is.1))) (λ e. e)))
                  ];
              unmarked = λ k hk later. d.unmarked k hk (omega arith);
            };
        tree = refl;
        renewal = refl;
      }

  pub passed_level : at_level (tree_of t) l n ≡ false → Onward t t c (l * nodes + n + 1) marks
  passed_level off = passed (λ e level. true_false (at_level_law (tree_of t) l n (below_facts (tree_of t) c n e).there level) off)

  pub passed_class : below (tree_of t) c n ≡ false → Onward t t c (l * nodes + n + 1) marks
  passed_class off = passed (λ e level. true_false e off)

  -- One that does is renewed.
  module _ (v : ℕ) (here : below (tree_of t) c n ≡ true) (level : (tree_of t).level n ≡ l) (is : v ≡ rate_below (tree_of t) c (rate t c) n) where
    abbrev u : List ℤ
    u = put t n rate_at (pos v)

    long : length u ≡ table_length
    long = length_put t n rate_at (pos v) ∙ d.rated.long

    places : (k p : ℕ) → p < record_length → (p ≡ rate_at → ⊥) → place u k p ≡ place t k p
    places k p hp ne = place_put_place t n rate_at (pos v) k p (omega arith) hp ne

    other_rate : (k : ℕ) → (k ≡ n → ⊥) → place u k rate_at ≡ place t k rate_at
    other_rate k ne = place_put_node t n rate_at (pos v) k rate_at (omega arith) (omega arith) ne

    same : tree_of u ≡ tree_of t
    same = same_tree_law u t (λ k p hp. places k p (omega arith) (λ e. omega arith))

    own : rate u c ≡ rate t c
    unfolding rate
    own = ap plus (other_rate c (λ e. (below_facts (tree_of t) c n here).other (sym e)))

    rated : Rated u c
    rated =
        let f = d.rated in
        record {
          long = long;
          top = rw same f.top;
          node = subst (λ (tree : Tree). (k : ℕ) → k < nodes → there tree k ≡ true → (k ≡ root → ⊥) → Placed tree k) (sym same) f.node;
          low = f.low;
          here = rw same f.here;
          own = omega (arith, f.own, own);
        }

    w : Written (below (tree_of t) c) (rate_below (tree_of t) c (rate t c)) t nodes (renewed_below t c)
    w = renewing_below t c

    right_next : (k : ℕ) → k < nodes → below (tree_of t) c k ≡ true → turn (tree_of t) k < l * nodes + n + 1 → place u k rate_at ≡ pos (rate_below (tree_of t) c (rate t c) k)
    right_next k hk e early =
        elim (ℕ_discrete k n) [
          | yes z ↦ rw z (place_put_same t n rate_at (pos v) d.rated.long hn (omega arith) ∙ ap pos is)
          | no ne ↦ other_rate k ne ∙ d.right k hk e (omega arith)
        ]

    marked_next : (k : ℕ) → k < nodes → turn (tree_of t) k < l * nodes + n + 1 → get_or (set marks n true) k false ≡ below (tree_of t) c k
    marked_next k hk early =
        elim (ℕ_discrete k n) [
          | yes z ↦ rw z (get_or-set_same marks n true false (omega (arith, d.wide)) ∙ sym here)
          | no ne ↦ get_or-set_other marks n k true false ne ∙ d.marked k hk (omega arith)
        ]

    unmarked_next : (k : ℕ) → k < nodes → l * nodes + n + 1 ≤ turn (tree_of t) k → get_or (set marks n true) k false ≡ false
    unmarked_next k hk late = get_or-set_other marks n k true false (λ z. omega (arith, ap (tree_of t).level z)) ∙ d.unmarked k hk (omega arith)

    pub renewed_next : Onward t u c (l * nodes + n + 1) (set marks n true)
    renewed_next =
        record {
          descent =
              record {
                rated = rated;
                wide = length-set marks n true ∙ d.wide;
                right = rw (same, own) right_next;
                marked = rw same marked_next;
                unmarked = rw same unmarked_next;
              };
          tree = same;
          renewal =
              renewed_below_is u (renewed_below t c) c long (w.long ∙ d.rated.long)
              (λ p hp. header_put t n rate_at (pos v) p hp ∙ sym (w.heading p hp))
              (λ k p hp ne. places k p hp ne ∙ sym (w.others k p hp ne))
              (rw (same, own) (λ k hk e. w.rates d.rated.long k hk hk e))
              (rw same (λ k hk e. other_rate k (λ z. true_false here (rw z at e)) ∙ sym (w.passed k e)));
        }

-- The node stands at this level. Its parent has had its turn: it is the class or is marked where the node stands below the
-- class, and then it has its rate.
module _ (t : List ℤ) (c l n : ℕ) (marks : List Bool) (d : Descent t c (l * nodes + n) marks) (low : 0 < l) (h : n < nodes) (at : at_level (tree_of t) l n ≡ true) where
  ways : Ways (tree_of t)
  ways = rated_ways t c d.rated

  a : At (tree_of t) (suc (l - 1)) n
  a = let f = level_at_law (tree_of t) l n h at in record { low = h; there = f.there; level = omega (arith, f.level) }

  up : At (tree_of t) (l - 1) ((tree_of t).parent n)
  up = (above (tree_of t) ways (l - 1) n a).up

  pub placed : Placed (tree_of t) n
  placed = d.rated.node n h a.there (above (tree_of t) ways (l - 1) n a).below

  pub below_root : 0 < n
  below_root = let ne = (above (tree_of t) ways (l - 1) n a).below in omega arith

  pub here_there : there (tree_of t) n ≡ true
  here_there = a.there

  earlier : turn (tree_of t) ((tree_of t).parent n) < l * nodes + n
  earlier = omega (arith, up.level, up.low)

  pub marks_tell : below (tree_of t) c n ≡ (eqb ((tree_of t).parent n) c || get_or marks ((tree_of t).parent n) false)
  marks_tell =
      below_parent (tree_of t) ways (l - 1) c n a
      ∙ ap (λ (b : Bool). eqb ((tree_of t).parent n) c || b) (sym (d.marked ((tree_of t).parent n) up.low earlier))

  module _ (here : below (tree_of t) c n ≡ true) where
    parent_rate : rate t ((tree_of t).parent n) ≡ rate_below (tree_of t) c (rate t c) ((tree_of t).parent n)
    unfolding rate
    parent_rate =
        by_parent (tree_of t) ways (l - 1) c n a here
        (λ e. ap (rate t) e ∙ sym (own_rate (tree_of t) c (rate t c)) ∙ ap (rate_below (tree_of t) c (rate t c)) (sym e))
        (λ e. ap plus (d.right ((tree_of t).parent n) up.low e earlier) ∙ plus_pos _)

    pub parent_le : rate t ((tree_of t).parent n) ≤ greatest_rate
    parent_le =
        by_parent (tree_of t) ways {P = rate t ((tree_of t).parent n) ≤ greatest_rate} (l - 1) c n a here
        (λ e. omega (arith, ap (rate t) e, d.rated.own))
        (λ e. omega (arith, parent_rate, rate_below_le t c d.rated ((tree_of t).parent n) up.low e))

    pub child_renewed : child_rate (tree_of t) (rate t ((tree_of t).parent n)) n ≡ rate_below (tree_of t) c (rate t c) n
    child_renewed =
        ap (λ (r : ℕ). child_rate (tree_of t) r n) parent_rate
        ∙ sym (rate_below_child (tree_of t) ways (l - 1) c (rate t c) n a (omega (arith, a.level, below_level (tree_of t) ways c n h here)))

    pub renewed_small : rate_below (tree_of t) c (rate t c) n ≤ greatest_rate
    renewed_small = rate_below_le t c d.rated n h here
