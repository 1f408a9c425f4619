-- What a table shows after the first n entries of a plan are joined: the root as it was opened, the n nodes as their
-- entries say, and no other node, and all clients on the first port. Levels follow, since such a table is in order.
use Prim.Native.Nat.{ℕ, zero, suc, ◌<◌}
use mathlib.Core.Path.{◌≡◌, sym, ap, ◌∙◌}
use mathlib.Core.Bool.{true, false, not}
use mathlib.Core.List.{List}
use native.Mathlib.Omega.{arith}
use native.Mathlib.Decide.{ℕ_discrete}
use borrow.Author.Tests.{ne_eqb}
use lib.IntN.{ℤ, pos}
use Rattle.numbers.specs.Whole.{plus}
use Rattle.numbers.proofs.Tests.{true_false}
use Rattle.numbers.proofs.All.{below_cases}
use Rattle.definitions.specs.Limits.{nodes, sort_at, parent_at, kind_at, share_at, depth_at, rate_at, port_at, first_port, unused, root}
use Rattle.definitions.specs.Places.{place, rate}
use Rattle.definitions.specs.Tree.{Tree, tree_of, there}
use Rattle.definitions.specs.Calls.{opened, open_refusal}
use Rattle.definitions.proofs.Facts.{InOrder, facts}
use Rattle.treelaws.specs.Joins.{Join, refusal_of, after_join}
use Rattle.treelaws.proofs.Joined.{JoinAccepted, join_accepted, of_tree, of_port_law, given_by, same_there, JoinLeaves, join_leaves}
use Rattle.definitions.proofs.Edits.{same_node_law, opened_edit, opened_node, opened_place_law, opened_others}
use Rattle.calllaws.proofs.Fresh.{zero_unused}
use Rattle.definitions.proofs.Passed.{open_passed}
use Rattle.calllaws.proofs.Open.{opened_in_order}
use Rattle.calllaws.proofs.Join.{join_keeps}
use Rattle.planformat.specs.Kinds.{sort_of, share_kind_of}
use Rattle.planformat.specs.Format.{Entry, Plan}
use Rattle.planformat.proofs.EachKind.{sort_limits}
use Rattle.planlaws.specs.Reading.{join_of, entry_refusal, after_entry, after_entries, opened_for}
use Rattle.planlaws.proofs.Accepted.{after_none, after_suc, opened_for_law}

-- The tree shows a node below the root as entry e says.
pub record Shown (tree : Tree) (e : Entry) : Type 0 where
  pub small : e.node < nodes
  pub below : e.node ≡ root → ⊥
  pub sort : tree.sort e.node ≡ sort_of e.kind
  pub parent : tree.parent e.node ≡ e.parent
  pub kind : tree.kind e.node ≡ share_kind_of e.kind
  pub share : tree.share e.node ≡ e.share
  pub depth : tree.depth e.node ≡ e.depth

pub shown_there : (tree : Tree) (e : Entry) → Shown tree e → there tree e.node ≡ true
unfolding there
shown_there tree e s = ap not (ne_eqb (tree.sort e.node) unused (omega (arith, s.sort, sort_limits e.kind)))

shown_kept : (t u : List ℤ) (e : Entry) → ((q : ℕ) → q < rate_at → place u e.node q ≡ place t e.node q) → Shown (tree_of t) e → Shown (tree_of u) e
shown_kept t u e same s =
    let n = same_node_law t u e.node same in
    record {
      small = s.small;
      below = s.below;
      sort = n.sort ∙ s.sort;
      parent = n.parent ∙ s.parent;
      kind = n.kind ∙ s.kind;
      share = n.share ∙ s.share;
      depth = n.depth ∙ s.depth;
    }

pub record Entered (p : Plan) (n : ℕ) (u : List ℤ) : Type 0 where
  pub order : InOrder u
  pub disk : rate u root ≡ p.rate
  pub depth : (tree_of u).depth root ≡ p.depth
  pub node : (i : ℕ) → i < n → Shown (tree_of u) (p.entry i)
  pub port : (k : ℕ) → k < nodes → place u k port_at ≡ pos first_port
  pub free : (k : ℕ) → k < nodes → (k ≡ root → ⊥) → ((i : ℕ) → i < n → (p.entry i).node ≡ k → ⊥) → there (tree_of u) k ≡ false

-- Opened, it shows the root alone.
pub entered_none : (t : List ℤ) (p : Plan) → open_refusal t (pos p.rate) (pos p.depth) ≡ 0 → Entered p 0 (opened (pos p.rate) (pos p.depth))
unfolding rate plus
entered_none t p h =
    record {
      order = facts _ (opened_in_order (pos p.rate) (pos p.depth) (open_passed t (pos p.rate) (pos p.depth) h));
      disk = ap plus ((opened_edit (pos p.rate) (pos p.depth)).here rate_at (omega arith));
      depth = (opened_node (pos p.rate) (pos p.depth)).depth;
      node = λ i hi. absurd (omega arith);
      port = λ k hk.
          elim (ℕ_discrete k root) [
            | yes e ↦ rw e (opened_place_law (pos p.rate) (pos p.depth) port_at (omega arith) (omega arith) (omega arith) (omega arith) (omega arith))
            | no ne ↦ opened_others (pos p.rate) (pos p.depth) k port_at hk ne (omega arith)
          ];
      free = λ k hk ne nobody. zero_unused _ k (opened_others (pos p.rate) (pos p.depth) k sort_at hk ne (omega arith));
    }

-- One accepted join more.
pub join_in_order : (t : List ℤ) (j : Join) → refusal_of t j ≡ 0 → InOrder (after_join t j)
unfolding refusal_of after_join
join_in_order t j h = facts _ (join_keeps t j.node j.parent j.sort j.kind j.share j.depth j.port h)

joined_shown : (t u : List ℤ) (e : Entry) → JoinAccepted t (join_of e) → JoinLeaves t (join_of e) u → Shown (tree_of u) e
unfolding join_of plus given_by tree_of
joined_shown t u e a s =
    record {
      small = a.node;
      below = a.below;
      sort = ap plus (s.written sort_at (of_tree (omega arith)));
      parent = ap plus (s.written parent_at (of_tree (omega arith)));
      kind = ap plus (s.written kind_at (of_tree (omega arith)));
      share = ap plus (s.written share_at (of_tree (omega arith)));
      depth = ap plus (s.written depth_at (of_tree (omega arith)));
    }

joined_apart : (t u : List ℤ) (e : Entry) → JoinLeaves t (join_of e) u → (k : ℕ) → (k ≡ e.node → ⊥) → (q : ℕ) → q < rate_at → place u k q ≡ place t k q
unfolding join_of plus
joined_apart t u e s k ne q hq = s.kept k q (of_tree hq) ne

joined_port : (t u : List ℤ) (e : Entry) → JoinLeaves t (join_of e) u → place u e.node port_at ≡ pos first_port
unfolding join_of plus given_by
joined_port t u e s = s.written port_at of_port_law

apart_port : (t u : List ℤ) (e : Entry) → JoinLeaves t (join_of e) u → (k : ℕ) → (k ≡ e.node → ⊥) → place u k port_at ≡ place t k port_at
unfolding join_of plus
apart_port t u e s k ne = s.kept k port_at of_port_law ne

joined_free : (t : List ℤ) (e : Entry) → JoinAccepted t (join_of e) → there (tree_of t) e.node ≡ false
unfolding join_of plus
joined_free t e a = a.unused

pub entered_next : (p : Plan) (n : ℕ) (t : List ℤ) → Entered p n t → entry_refusal t (p.entry n) ≡ 0 → Entered p (suc n) (after_entry t (p.entry n))
unfolding entry_refusal after_entry
entered_next p n t before h =
    record {
      order = join_in_order t (join_of e) h;
      disk = s.disk ∙ before.disk;
      depth = (same_node_law t u root (λ q hq. joined_apart t u e s root (λ same. new.below (sym same)) q hq)).depth ∙ before.depth;
      node = λ i hi. below_cases n i hi (λ l. shown_kept t u (p.entry i) (joined_apart t u e s (p.entry i).node (apart i l)) (before.node i l)) (λ same. rw same new);
      port = λ k hk. elim (ℕ_discrete k e.node) [ yes at ↦ rw at (joined_port t u e s) | no ne ↦ apart_port t u e s k ne ∙ before.port k hk ];
      free = λ k hk ne nobody.
          same_there u t k (joined_apart t u e s k (λ same. nobody n (omega arith) (sym same)) sort_at (omega arith))
          ∙ before.free k hk ne (λ i hi. nobody i (omega arith));
    }
  where
    e : Entry
    e = p.entry n

    u : List ℤ
    u = after_join t (join_of e)

    a : JoinAccepted t (join_of e)
    a = join_accepted t (join_of e) h

    s : JoinLeaves t (join_of e) u
    s = join_leaves t (join_of e) h

    new : Shown (tree_of u) e
    new = joined_shown t u e a s

    apart : (i : ℕ) → i < n → (p.entry i).node ≡ e.node → ⊥
    apart i hi same = true_false (shown_there (tree_of t) (p.entry i) (before.node i hi)) (rw same (joined_free t e a))

-- All that are accepted.
pub entered : (t : List ℤ) (p : Plan) → open_refusal t (pos p.rate) (pos p.depth) ≡ 0 → (n : ℕ) → ((i : ℕ) → i < n → entry_refusal (after_entries (opened_for t p) p i) (p.entry i) ≡ 0) → Entered p n (after_entries (opened_for t p) p n)
entered t p h zero each = rw (after_none (opened_for t p) p, opened_for_law t p h) (entered_none t p h)
entered t p h (suc n) each = rw (after_suc (opened_for t p) p n) (entered_next p n (after_entries (opened_for t p) p n) (entered t p h n (λ i hi. each i (omega arith))) (each n (omega arith)))
