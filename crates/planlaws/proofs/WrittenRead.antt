-- A table in order, written in an edition that has kinds for its nodes and read into any table of right length, gives the same
-- tree and disk rate, and reading says that edition.
-- The idea: after n joins the table shows a part of the tree, the root and the first n nodes, so the next node can join; after
-- all joins it shows the whole.
use Prim.Native.Nat.{ℕ, zero, suc, ◌-◌, ◌≤◌, ◌<◌}
use mathlib.Core.Path.{◌≡◌, sym, ap, ◌∙◌, subst}
use mathlib.Core.Bool.{true, false, not}
use mathlib.Core.List.{List}
use native.Mathlib.Omega.{arith}
use native.Mathlib.Decide.{ℕ_discrete}
use borrow.Author.Tests.{eq-eqb, lt-ltb}
use lib.Dec.{ltb}
use lib.ListN.{length}
use lib.IntN.{ℤ, pos}
use Rattle.numbers.specs.Whole.{plus, within_ℤ}
use Rattle.numbers.proofs.Tests.{by_test, true_false}
use Rattle.numbers.proofs.Every.{none_left, holds_with}
use Rattle.numbers.proofs.Parts.{pos_of_within}
use Rattle.numbers.proofs.All.{below_cases, all_intro}
use Rattle.definitions.specs.Limits.{table_length, nodes, last_node, kind_at, depth_at, rate_at, class, client, fixed, stated, root, last_level, greatest_depth, greatest_rate, share_limit}
use Rattle.definitions.specs.Places.{place, rate}
use Rattle.definitions.specs.Tree.{tree_of, there}
use Rattle.definitions.specs.Order.{in_order}
use Rattle.definitions.specs.Calls.{open_limits, open_refusal}
use Rattle.definitions.proofs.Facts.{InOrder, Limits, facts, root_there}
use Rattle.definitions.proofs.Refusals.{first_none, first_end}
use Rattle.treelaws.proofs.Renewed.{same_tree_below}
use Rattle.definitions.proofs.Edits.{SameNode}
use Rattle.calllaws.proofs.Nodes.{there_same}
use Rattle.planformat.specs.declared.Edition.{Edition}
use Rattle.planformat.specs.Format.{Entry, Plan, edition_in, plan_in, formed}
use Rattle.planlaws.specs.Reading.{entry_refusal, after_entries, opened_for, joined_for, standing, rising, plan_refusal, plan_table}
use Rattle.planlaws.specs.Writing.{standings, order, entry_of, plan_of, plan_bytes, unwritable}
use Rattle.planformat.proofs.Codec.{SamePlan, Fits, written_edition, written_formed, written_plan}
use Rattle.planlaws.proofs.Rising.{found_below}
use Rattle.planlaws.proofs.Listing.{Listed, listed, listed_node, listed_found, listed_rises, level_listed}
use Rattle.planlaws.proofs.Accepted.{accepted_plan, plan_table_law, each_entries}
use Rattle.planlaws.proofs.Entered.{Shown, shown_there, Entered, entered}
use Rattle.planlaws.proofs.Part.{PartOf}
use Rattle.planlaws.proofs.Joinable.{Next, joinable}
use Rattle.planlaws.proofs.Planned.{level_small, kind_sort, kind_share_law, entry_join, listed_limits, plan_fits, listed_parent}

-- The root's rate and depth as whole numbers.
disk_number : (t : List ℤ) → InOrder t → pos (rate t root) ≡ place t root rate_at
unfolding rate
disk_number t f = pos_of_within 1 greatest_rate (place t root rate_at) f.root.rate

depth_number : (t : List ℤ) → InOrder t → pos ((tree_of t).depth root) ≡ place t root depth_at
unfolding tree_of
depth_number t f = pos_of_within 1 greatest_depth (place t root depth_at) (f.limits root (omega arith) (root_there t f.root)).depth

-- Nodes in their limits that show the same have the same places.
same_number : (low high : ℕ) (a b : ℤ) → within_ℤ low high a ≡ true → within_ℤ low high b ≡ true → plus a ≡ plus b → a ≡ b
same_number low high a b ha hb e = sym (pos_of_within low high a ha) ∙ ap pos e ∙ pos_of_within low high b hb

shown_places : (v t : List ℤ) (k : ℕ) → SameNode (tree_of v) (tree_of t) k → Limits v k → Limits t k → (p : ℕ) → p < rate_at → place v k p ≡ place t k p
unfolding tree_of
shown_places v t k n a b zero hp = same_number class client _ _ a.sort b.sort n.sort
shown_places v t k n a b (suc zero) hp = same_number 0 last_node _ _ a.parent b.parent n.parent
shown_places v t k n a b (suc (suc zero)) hp = same_number 0 last_level _ _ a.level b.level n.level
shown_places v t k n a b (suc (suc (suc zero))) hp = same_number fixed stated _ _ a.kind b.kind n.kind
shown_places v t k n a b (suc (suc (suc (suc zero)))) hp = same_number 1 (share_limit (plus (place t k kind_at))) _ _ (rw n.kind at a.share) b.share n.share
shown_places v t k n a b (suc (suc (suc (suc (suc zero))))) hp = same_number 1 greatest_depth _ _ a.depth b.depth n.depth
shown_places v t k n a b (suc (suc (suc (suc (suc (suc p)))))) hp = absurd (omega arith)

-- A plan q that says what the plan of t says.
module _ (t : List ℤ) (f : InOrder t) (q : Plan) (same : SamePlan q (plan_of t)) where
  count_is : q.count ≡ length (order (tree_of t))
  unfolding plan_of
  count_is = same.count

  entry_is : (i : ℕ) → i < length (order (tree_of t)) → q.entry i ≡ entry_of (tree_of t) (listed (tree_of t) i)
  unfolding plan_of listed
  entry_is = same.entry

  node_is : (i : ℕ) → i < length (order (tree_of t)) → (q.entry i).node ≡ listed (tree_of t) i
  unfolding entry_of
  node_is i hi = ap (λ (e : Entry). e.node) (entry_is i hi)

  -- A table v that shows the first n entries.
  module _ (n : ℕ) (most : n ≤ length (order (tree_of t))) (v : List ℤ) (en : Entered q n v) where
    shown_node : (l : ℕ) → l < n → Shown (tree_of v) (entry_of (tree_of t) (listed (tree_of t) l))
    shown_node l hl = rw (entry_is l (omega arith)) at (en.node l hl)

    there_node : (l : ℕ) → l < n → there (tree_of v) (listed (tree_of t) l) ≡ true
    unfolding entry_of
    there_node l hl = shown_there (tree_of v) (entry_of (tree_of t) (listed (tree_of t) l)) (shown_node l hl)

    root_same : SameNode (tree_of v) (tree_of t) root
    unfolding tree_of plan_of
    root_same =
        record {
          sort = ap plus (en.order.root.sort ∙ sym f.root.sort);
          parent = ap plus (en.order.root.parent ∙ sym f.root.parent);
          level = ap plus (en.order.root.level ∙ sym f.root.level);
          kind = ap plus (en.order.root.kind ∙ sym f.root.kind);
          share = ap plus (en.order.root.share ∙ sym f.root.share);
          depth = en.depth ∙ same.depth;
        }

    -- Levels follow from the parents, which stand before.
    node_level : (m l : ℕ) → l < m → l < n → (tree_of v).level (listed (tree_of t) l) ≡ (tree_of t).level (listed (tree_of t) l)
    unfolding entry_of
    node_level zero l h hl = absurd (omega arith)
    node_level (suc m) l h hl =
        let k = listed (tree_of t) l in
        let c = (tree_of t).parent k in
        let x = listed_node (tree_of t) l (omega arith) in
        let above : (tree_of v).level c ≡ (tree_of t).level c =
        elim (ℕ_discrete c root) [
          | yes z ↦ rw z root_same.level
          | no ne ↦ let w = listed_parent t f l (omega arith) ne in rw (← w.2) (node_level m w.0 (omega (arith, w.1)) (omega (arith, w.1)))
        ] in
        (en.order.child k x.small (there_node l hl) x.below).level
        ∙ ap suc (ap (tree_of v).level (shown_node l hl).parent ∙ above)
        ∙ sym (f.child k x.small x.there x.below).level

    node_same : (l : ℕ) → l < n → SameNode (tree_of v) (tree_of t) (listed (tree_of t) l)
    unfolding entry_of
    node_same l hl =
        let s = shown_node l hl in
        let limits = listed_limits t f l (omega arith) in
        record {
          sort = s.sort ∙ kind_sort t (listed (tree_of t) l) limits;
          parent = s.parent;
          level = node_level (suc l) l (omega arith) hl;
          kind = s.kind ∙ kind_share_law t (listed (tree_of t) l) limits;
          share = s.share;
          depth = s.depth;
        }

    shows_part : PartOf (tree_of v) (tree_of t)
    shows_part =
        record {
          same = λ k hk e.
              elim (ℕ_discrete k root) [
                | yes z ↦ rw z root_same
                | no ne ↦
                    elim (found_below n (listed (tree_of t)) k) [
                      | yes w ↦ rw (← w.2) (node_same w.0 w.1)
                      | no nobody ↦ absurd (true_false e (en.free k hk ne (λ i hi is. nobody (i, hi, sym (node_is i (omega arith)) ∙ is))))
                    ]
              ];
        }

    disk : rate v root ≡ rate t root
    unfolding plan_of
    disk = en.disk ∙ same.rate

    next_node : n < length (order (tree_of t)) → Next t v (listed (tree_of t) n)
    next_node hn =
        record {
          whole = f;
          order = en.order;
          part = shows_part;
          disk = disk;
          small = x.small;
          below = x.below;
          here = x.there;
          free = en.free k x.small x.below (λ i hi is. omega (arith, (listed_rises (tree_of t)).up i n hi hn, ap (standing (tree_of t)) (sym (node_is i (omega arith)) ∙ is)));
          above = above;
        }
      where
        k : ℕ
        k = listed (tree_of t) n

        x : Listed (tree_of t) standings k
        x = listed_node (tree_of t) n hn

        above : there (tree_of v) ((tree_of t).parent k) ≡ true
        above =
            elim (ℕ_discrete ((tree_of t).parent k) root) [
              | yes z ↦ rw z (root_there v en.order.root)
              | no ne ↦ let w = listed_parent t f n hn ne in rw (← w.2) (there_node w.0 w.1)
            ]

    next_accepted : n < length (order (tree_of t)) → entry_refusal v (q.entry n) ≡ 0
    unfolding entry_refusal
    next_accepted hn =
        rw (entry_is n hn, entry_join t (listed (tree_of t) n) (listed_limits t f n hn)) (joinable t v (listed (tree_of t) n) (next_node hn))

  -- Opening for q and joining its entries into a table u of right length.
  module _ (u : List ℤ) (long : length u ≡ table_length) where
    opens : open_refusal u (pos q.rate) (pos q.depth) ≡ 0
    unfolding open_refusal open_limits plan_of
    opens =
        first_none 1 _ _ (ap not (eq-eqb (length u) table_length long))
        (first_none 2 _ _ (ap not (holds_with _ _ (rw rate_is f.root.rate) (holds_with _ _ (rw depth_is limits.depth) none_left))) first_end)
      where
        limits : Limits t root
        limits = f.limits root (omega arith) (root_there t f.root)

        rate_is : pos q.rate ≡ place t root rate_at
        rate_is = ap pos same.rate ∙ disk_number t f

        depth_is : pos q.depth ≡ place t root depth_at
        depth_is = ap pos same.depth ∙ depth_number t f

    each_accepted : (n : ℕ) → n ≤ length (order (tree_of t)) → (i : ℕ) → i < n → entry_refusal (after_entries (opened_for u q) q i) (q.entry i) ≡ 0
    each_accepted zero hn i hi = absurd (omega arith)
    each_accepted (suc n) hn i hi =
        let before = each_accepted n (omega arith) in
        below_cases n i hi (before i)
        (λ e. rw e (next_accepted n (omega arith) (after_entries (opened_for u q) q n) (entered u q opens n before) hn))

    all_entered : Entered q (length (order (tree_of t))) (joined_for u q)
    unfolding joined_for
    all_entered =
        subst (λ (n : ℕ). Entered q (length (order (tree_of t))) (after_entries (opened_for u q) q n)) (sym count_is)
        (entered u q opens (length (order (tree_of t))) (each_accepted (length (order (tree_of t))) (omega arith)))

    -- A node of t is there, and shown as it is; where t has none, there is none.
    node_there : (k : ℕ) → k < nodes → there (tree_of t) k ≡ true → there (tree_of (joined_for u q)) k ≡ true
    node_there k hk e =
        elim (ℕ_discrete k root) [
          | yes z ↦ rw z (root_there (joined_for u q) all_entered.order.root)
          | no ne ↦ let w = listed_found (tree_of t) k (level_listed (tree_of t) k hk ne e (level_small t k f hk e)) in rw (← w.2) (there_node (length (order (tree_of t))) (omega arith) (joined_for u q) all_entered w.0 w.1)
        ]

    joined_place_law : (k p : ℕ) → k < nodes → p < rate_at → place (joined_for u q) k p ≡ place t k p
    joined_place_law k p hk hp =
        by_test (there (tree_of t) k)
        (λ e.
        let here = node_there k hk e in
        shown_places (joined_for u q) t k ((shows_part (length (order (tree_of t))) (omega arith) (joined_for u q) all_entered).same k hk here) (all_entered.order.limits k hk here) (f.limits k hk e) p hp)
        (λ e.
        by_test (there (tree_of (joined_for u q)) k)
        (λ here. absurd (true_false (sym (there_same _ _ k ((shows_part (length (order (tree_of t))) (omega arith) (joined_for u q) all_entered).same k hk here).sort) ∙ here) e))
        (λ none. all_entered.order.empty k hk none p (omega arith) ∙ sym (f.empty k hk e p (omega arith))))

    joined_tree : tree_of (joined_for u q) ≡ tree_of t
    joined_tree = same_tree_below (joined_for u q) t all_entered.order.long f.long joined_place_law

    joined_disk : place (joined_for u q) root rate_at ≡ place t root rate_at
    unfolding plan_of
    joined_disk = sym (disk_number (joined_for u q) all_entered.order) ∙ ap pos (all_entered.disk ∙ same.rate) ∙ disk_number t f

    joined_rising : rising (tree_of (joined_for u q)) q ≡ true
    unfolding rising
    joined_rising =
        rw joined_tree
        (all_intro (q.count - 1) (λ i. ltb (standing (tree_of t) (q.entry i).node) (standing (tree_of t) (q.entry (suc i)).node)) each)
      where
        each : (i : ℕ) → i < q.count - 1 → ltb (standing (tree_of t) (q.entry i).node) (standing (tree_of t) (q.entry (suc i)).node) ≡ true
        each i hi =
            rw (node_is i (omega (arith, count_is)), node_is (suc i) (omega (arith, count_is)))
            (lt-ltb _ _ ((listed_rises (tree_of t)).up i (suc i) (omega arith) (omega (arith, count_is))))

-- What was written is accepted, it is of the edition that was asked for, and the table shows the same tree and disk rate.
module _ (e : Edition) (t u : List ℤ) (h : in_order t ≡ true) (kinds : unwritable e (tree_of t) ≡ false) (long : length u ≡ table_length) where
  fits : Fits e (plan_of t)
  fits = plan_fits t (facts t h) e kinds

  says : SamePlan (plan_in (plan_bytes e t)) (plan_of t)
  unfolding plan_bytes
  says = written_plan e (plan_of t) fits

  well_formed : formed (plan_bytes e t) ≡ true
  unfolding plan_bytes
  well_formed = written_formed e (plan_of t) fits

  pub written_met : edition_in (plan_bytes e t) ≡ e
  unfolding plan_bytes
  written_met = written_edition e (plan_of t) fits

  pub written_accepted : plan_refusal u (plan_bytes e t) ≡ 0
  written_accepted =
      accepted_plan u (plan_bytes e t)
      (record {
        long = long;
        formed = well_formed;
        opening = opens t (facts t h) (plan_in (plan_bytes e t)) says u long;
        joining = each_entries _ (plan_in (plan_bytes e t)) (plan_in (plan_bytes e t)).count (each_accepted t (facts t h) (plan_in (plan_bytes e t)) says u long (plan_in (plan_bytes e t)).count (omega (arith, count_is t (facts t h) (plan_in (plan_bytes e t)) says)));
        rising = joined_rising t (facts t h) (plan_in (plan_bytes e t)) says u long;
      })

  pub written_place : (k p : ℕ) → k < nodes → p < rate_at → place (plan_table u (plan_bytes e t)) k p ≡ place t k p
  written_place k p hk hp = rw (plan_table_law u (plan_bytes e t) written_accepted) (joined_place_law t (facts t h) (plan_in (plan_bytes e t)) says u long k p hk hp)

  pub written_disk : place (plan_table u (plan_bytes e t)) root rate_at ≡ place t root rate_at
  written_disk = rw (plan_table_law u (plan_bytes e t) written_accepted) (joined_disk t (facts t h) (plan_in (plan_bytes e t)) says u long)

  pub written_tree : tree_of (plan_table u (plan_bytes e t)) ≡ tree_of t
  written_tree = rw (plan_table_law u (plan_bytes e t) written_accepted) (joined_tree t (facts t h) (plan_in (plan_bytes e t)) says u long)

  pub written_rate : rate (plan_table u (plan_bytes e t)) root ≡ rate t root
  unfolding rate
  written_rate = ap plus written_disk
