-- A table that gets the kinds and shares of a tree stays ready where these suit it.
use Prim.Native.Nat.{ℕ, suc, ◌+◌, ◌≤◌, ◌<◌}
use mathlib.Core.Path.{◌≡◌, refl, sym, ap, ◌∙◌}
use mathlib.Core.Bool.{true, false}
use mathlib.Core.List.{List}
use native.Mathlib.Omega.{arith}
use native.Mathlib.Decide.{ℕ_discrete}
use lib.ListN.{length}
use lib.IntN.{ℤ, pos}
use Rattle.numbers.specs.Whole.{plus, minus, within_ℤ}
use Rattle.numbers.proofs.Parts.{zarith, plus_pos, minus_pos, parts_within}
use Rattle.numbers.proofs.All.{below_cases}
use Rattle.numbers.proofs.Steps.{for_reaches}
use Rattle.numbers.proofs.Sums.{sum_cong, sum_ℤ_cong}
use Rattle.definitions.specs.Limits.{table_length, header_length, record_length, nodes, sort_at, parent_at, level_at, kind_at, share_at, depth_at, rate_at, balance_at, waiting_at, port_at, arrival_at, fixed, stated, root, whole_share, share_limit}
use Rattle.definitions.specs.Places.{queue_place, place, header, count, rate, balance, waiting, arrival}
use Rattle.definitions.specs.Tree.{Tree, tree_of, there, is_stated, child_of, count_if, sum_under}
use Rattle.definitions.specs.Rates.{kind_sum, fixed_sum, stated_sum}
use Rattle.definitions.specs.Order.{child_balance, child_balances}
use Rattle.definitions.specs.Calls.{reshared}
use Rattle.definitions.proofs.Facts.{Class, Limits}
use Rattle.definitions.proofs.Edits.{reshared_edit, reshared_rest}
use Rattle.calllaws.proofs.Nodes.{Ready, Sums, Node, node_limited, child_kept, differ_kept, most_waiting_law, there_same}
use Rattle.calllaws.proofs.OneNode.{child_same, count_same}
use Rattle.hourlaws.specs.SetMinute.{reshared_as}
use Rattle.hourlaws.proofs.SameShares.{kind_sum_same}

-- Table u is t, but that its nodes below n have the kinds and shares of the tree.
pub record Reshared (tree : Tree) (t : List ℤ) (n : ℕ) (u : List ℤ) : Type 0 where
  pub long : length u ≡ table_length
  pub heading : (p : ℕ) → p < header_length → header u p ≡ header t p
  pub rest : (j p : ℕ) → p < record_length → (p ≡ kind_at → ⊥) → (p ≡ share_at → ⊥) → place u j p ≡ place t j p
  pub kind : (j : ℕ) → j < n → place u j kind_at ≡ pos (tree.kind j)
  pub share : (j : ℕ) → j < n → place u j share_at ≡ pos (tree.share j)
  pub beyond : (j p : ℕ) → n ≤ j → p < record_length → place u j p ≡ place t j p

one_more : (tree : Tree) (t : List ℤ) (k : ℕ) (u : List ℤ) → k < nodes → Reshared tree t k u → Reshared tree t (suc k) (reshared u k (pos (tree.kind k)) (pos (tree.share k)))
one_more tree t k u hk r =
    let e = reshared_edit u k (pos (tree.kind k)) (pos (tree.share k)) r.long hk in
    record {
      long = e.long;
      heading = λ p hp. e.heading p hp ∙ r.heading p hp;
      rest = λ j p hp kind share. reshared_rest u k (pos (tree.kind k)) (pos (tree.share k)) r.long hk j p hp kind share ∙ r.rest j p hp kind share;
      kind = λ j hj. below_cases k j hj (λ l. e.others j kind_at (λ same. omega arith) (omega arith) ∙ r.kind j l) (λ same. rw same (e.here kind_at (omega arith)));
      share = λ j hj. below_cases k j hj (λ l. e.others j share_at (λ same. omega arith) (omega arith) ∙ r.share j l) (λ same. rw same (e.here share_at (omega arith)));
      beyond = λ j p l hp. e.others j p (λ same. omega arith) hp ∙ r.beyond j p (omega arith) hp;
    }

pub all_reshared : (tree : Tree) (t : List ℤ) → length t ≡ table_length → Reshared tree t nodes (reshared_as tree t)
unfolding reshared_as
all_reshared tree t long =
    for_reaches (Reshared tree t) nodes (λ k u. reshared u k (pos (tree.kind k)) (pos (tree.share k)))
    (λ k u hk r. one_more tree t k u hk r)
    t
    (record {
      long = long;
      heading = λ p hp. refl;
      rest = λ j p hp kind share. refl;
      kind = λ j hj. absurd (omega arith);
      share = λ j hj. absurd (omega arith);
      beyond = λ j p l hp. refl;
    })

-- The kinds and shares of a tree suit a table: its nodes and parents are the table's, kinds and shares are in their limits, those
-- of the root stay, and the sums under each class are in theirs.
pub record Suits (t : List ℤ) (tree : Tree) : Type 0 where
  pub sort : (k : ℕ) → k < nodes → tree.sort k ≡ (tree_of t).sort k
  pub parent : (k : ℕ) → k < nodes → tree.parent k ≡ (tree_of t).parent k
  pub no_kind : (k : ℕ) → k < nodes → there (tree_of t) k ≡ false → tree.kind k ≡ 0
  pub no_share : (k : ℕ) → k < nodes → there (tree_of t) k ≡ false → tree.share k ≡ 0
  pub root_kind : tree.kind root ≡ fixed
  pub root_share : tree.share root ≡ whole_share
  pub kind : (k : ℕ) → k < nodes → there (tree_of t) k ≡ true → tree.kind k ≤ stated
  pub least : (k : ℕ) → k < nodes → there (tree_of t) k ≡ true → 1 ≤ tree.share k
  pub most : (k : ℕ) → k < nodes → there (tree_of t) k ≡ true → tree.share k ≤ share_limit (tree.kind k)
  pub shares : (c : ℕ) → c < nodes → fixed_sum tree c ≤ whole_share
  pub under : (k : ℕ) → k < nodes → there (tree_of t) k ≡ true → is_stated tree k ≡ true → (tree_of t).parent k ≡ root
  pub fits : stated_sum tree root ≤ rate t root

-- A natural number between two others is so as a whole number.
within_pos : (low high n : ℕ) → low ≤ n → n ≤ high → within_ℤ low high (pos n) ≡ true
within_pos low high n l h = parts_within low high (pos n) (omega (arith, minus_pos n), omega (arith, plus_pos n), omega (arith, plus_pos n))

module _ (tree : Tree) (t u : List ℤ) (r : Reshared tree t nodes u) (s : Suits t tree) where
  stays : (j p : ℕ) → p < record_length → (p ≡ kind_at → ⊥) → (p ≡ share_at → ⊥) → plus (place u j p) ≡ plus (place t j p)
  stays j p hp kind share = ap plus (r.rest j p hp kind share)

  pub new_kind : (j : ℕ) → j < nodes → (tree_of u).kind j ≡ tree.kind j
  unfolding tree_of
  new_kind j hj = ap plus (r.kind j hj) ∙ plus_pos (tree.kind j)

  pub new_share : (j : ℕ) → j < nodes → (tree_of u).share j ≡ tree.share j
  unfolding tree_of
  new_share j hj = ap plus (r.share j hj) ∙ plus_pos (tree.share j)

  pub same_sort : (j : ℕ) → (tree_of u).sort j ≡ (tree_of t).sort j
  unfolding tree_of
  same_sort j = stays j sort_at (omega arith) (omega arith) (omega arith)

  pub same_parent : (j : ℕ) → (tree_of u).parent j ≡ (tree_of t).parent j
  unfolding tree_of
  same_parent j = stays j parent_at (omega arith) (omega arith) (omega arith)

  pub same_level : (j : ℕ) → (tree_of u).level j ≡ (tree_of t).level j
  unfolding tree_of
  same_level j = stays j level_at (omega arith) (omega arith) (omega arith)

  pub same_depth : (j : ℕ) → (tree_of u).depth j ≡ (tree_of t).depth j
  unfolding tree_of
  same_depth j = stays j depth_at (omega arith) (omega arith) (omega arith)

  same_children : (c j : ℕ) → child_of (tree_of u) c j ≡ child_of (tree_of t) c j
  same_children c j = child_same (tree_of u) (tree_of t) c j (same_sort j) (same_parent j)

  -- The sums of shares are those of the tree.
  sums_of_tree : (kind c : ℕ) → kind_sum (tree_of u) kind c ≡ kind_sum tree kind c
  sums_of_tree =
      kind_sum_same (tree_of u) tree
      (λ k hk. record { sort = same_sort k ∙ sym (s.sort k hk); parent = same_parent k ∙ sym (s.parent k hk); kind = new_kind k hk; share = new_share k hk })

  depths_stay : (c : ℕ) → sum_under (tree_of u) c (tree_of u).depth ≡ sum_under (tree_of t) c (tree_of t).depth
  unfolding sum_under
  depths_stay c =
      sum_cong nodes (λ k. count_if (child_of (tree_of u) c k) (tree_of u).depth k) (λ k. count_if (child_of (tree_of t) c k) (tree_of t).depth k)
      (λ k hk. count_same _ _ (tree_of u).depth (tree_of t).depth k (same_children c k) (same_depth k))

  balances_stay : (c : ℕ) → child_balances u c ≡ child_balances t c
  unfolding child_balances child_balance balance
  balances_stay c = sum_ℤ_cong nodes _ _ (λ k hk. rw (same_children c k, r.rest k balance_at (omega arith) (omega arith) (omega arith)))

  new_sums : (c : ℕ) → c < nodes → Class t c → Sums t u c
  new_sums c hc class =
      record {
        shares = omega (arith, sums_of_tree fixed c, s.shares c hc);
        depths = omega (arith, depths_stay c, class.depths);
        balances = omega (arith, zarith, ap plus (balances_stay c), ap minus (balances_stay c));
      }

  new_limits : (j : ℕ) → j < nodes → there (tree_of t) j ≡ true → Limits t j → Limits u j
  new_limits j hj e old =
      record {
        sort = rw (r.rest j sort_at (omega arith) (omega arith) (omega arith)) old.sort;
        parent = rw (r.rest j parent_at (omega arith) (omega arith) (omega arith)) old.parent;
        level = rw (r.rest j level_at (omega arith) (omega arith) (omega arith)) old.level;
        kind = rw (r.kind j hj) (within_pos fixed stated (tree.kind j) (omega arith) (s.kind j hj e));
        share = rw (r.kind j hj, r.share j hj, plus_pos (tree.kind j)) (within_pos 1 (share_limit (tree.kind j)) (tree.share j) (s.least j hj e) (s.most j hj e));
        depth = rw (r.rest j depth_at (omega arith) (omega arith) (omega arith)) old.depth;
        waiting = rw (r.rest j waiting_at (omega arith) (omega arith) (omega arith)) old.waiting;
        port = rw (r.rest j sort_at (omega arith) (omega arith) (omega arith), r.rest j port_at (omega arith) (omega arith) (omega arith)) old.port;
      }

  still_empty : (j : ℕ) → j < nodes → Node t j → there (tree_of t) j ≡ false → (p : ℕ) → p < record_length → place u j p ≡ pos 0
  still_empty j hj f e p hp =
      elim (ℕ_discrete p kind_at) [
        | yes three ↦ rw three (r.kind j hj ∙ ap pos (s.no_kind j hj e))
        | no n3 ↦
            elim (ℕ_discrete p share_at) [
              | yes four ↦ rw four (r.share j hj ∙ ap pos (s.no_share j hj e))
              | no n4 ↦ r.rest j p hp n3 n4 ∙ f.empty e p hp
            ]
      ]

  pub suited_ready : Ready t → Ready u
  unfolding count waiting arrival rate is_stated
  suited_ready f =
      record {
        long = r.long;
        counted = rw (r.heading 0 (omega arith)) f.counted;
        heading = λ p hp. r.heading (suc p) (omega arith) ∙ f.heading p hp;
        root =
            record {
              sort = r.rest 0 sort_at (omega arith) (omega arith) (omega arith) ∙ f.root.sort;
              parent = r.rest 0 parent_at (omega arith) (omega arith) (omega arith) ∙ f.root.parent;
              level = r.rest 0 level_at (omega arith) (omega arith) (omega arith) ∙ f.root.level;
              kind = r.kind 0 (omega arith) ∙ ap pos s.root_kind;
              share = r.share 0 (omega arith) ∙ ap pos s.root_share;
              rate = rw (r.rest 0 rate_at (omega arith) (omega arith) (omega arith)) f.root.rate;
            };
        node = λ j hj.
            node_limited t u j (omega (arith, ap plus (r.heading 0 (omega arith))))
            (λ p hp n3 n4 n6. r.rest j p hp n3 n4)
            (still_empty j hj (f.node j hj))
            (λ e. new_limits j hj e ((f.node j hj).limits e))
            (λ e ne. child_kept (tree_of u) (tree_of t) j (same_parent j) (same_level j) (same_sort _) (same_level _))
            (λ e. new_sums j hj ((f.node j hj).class e))
            (f.node j hj);
        differ =
            differ_kept t u
            (λ k hk. stays k waiting_at (omega arith) (omega arith) (omega arith))
            (λ k hk i hi. stays k (queue_place i + arrival_at) (omega (arith, most_waiting_law t k (f.node k hk))) (omega arith) (omega arith))
            f;
        stated =
            record {
              under = λ k hk e is. same_parent k ∙ s.under k hk (sym (there_same (tree_of u) (tree_of t) k (same_sort k)) ∙ e) (rw (new_kind k hk) at is);
              fits = omega (arith, sums_of_tree stated root, s.fits, stays root rate_at (omega arith) (omega arith) (omega arith));
            };
      }
