-- What a table shows after the writes of a call. Each call writes places of one node's record: `Edited t u k f` says that
-- the table u is t, but for node k's record, which shows f. Then the trees of the edited tables, node by node.
use Prim.Native.Nat.{ℕ, suc, ◌+◌, ◌*◌, ◌≤◌, ◌<◌, ◌-◌}
use mathlib.Core.Path.{◌≡◌, refl, sym, ap, ◌∙◌}
use mathlib.Core.Bool.{Bool, cond}
use mathlib.Core.List.{List}
use native.Mathlib.Omega.{arith}
use borrow.Author.Tests.{eqb-true, eqb-false, lt-ltb, le-ltb, ltb-true, ne_eqb}
use lib.ListN.{length, length-replicate, get_or-replicate}
use lib.Dec.{eqb, ltb}
use lib.IntN.{ℤ, pos}
use Rattle.numbers.specs.Whole.{plus}
use Rattle.numbers.proofs.Tests.{by_test, same_truth, cond_true, cond_false}
use Rattle.numbers.proofs.Parts.{plus_pos}
use Rattle.numbers.proofs.Steps.{for_reaches}
use Rattle.definitions.specs.Limits.{table_length, header_length, record_length, nodes, sort_at, parent_at, level_at, kind_at, share_at, depth_at, rate_at, waiting_at, port_at, tag_at, size_at, arrival_at, whole_share, most_waiting}
use Rattle.definitions.specs.Places.{queue_place, place, put, header, count, waiting}
use Rattle.definitions.specs.Tree.{Tree, tree_of}
use Rattle.definitions.specs.Calls.{blank, opened, joined, cleared, reshared, requested}
use Rattle.definitions.proofs.Places.{length_put, length_put_header, place_put_same, place_put_node, place_put_place, header_put, place_put_header, header_put_header_same, header_put_header_other}

pub record Edited (t u : List ℤ) (k : ℕ) (f : ℕ → ℤ) : Type 0 where
  pub long : length u ≡ table_length
  pub heading : (p : ℕ) → p < header_length → header u p ≡ header t p
  pub here : (p : ℕ) → p < record_length → place u k p ≡ f p
  pub others : (j p : ℕ) → (j ≡ k → ⊥) → p < record_length → place u j p ≡ place t j p

pub unedited : (t : List ℤ) (k : ℕ) → length t ≡ table_length → Edited t t k (place t k)
unedited t k n = record { long = n; heading = λ p hp. refl; here = λ p hp. refl; others = λ j p ne hp. refl }

pub edited_same : (t u : List ℤ) (k : ℕ) (f g : ℕ → ℤ) → Edited t u k f → ((p : ℕ) → p < record_length → f p ≡ g p) → Edited t u k g
edited_same t u k f g e h = record { long = e.long; heading = e.heading; here = λ p hp. e.here p hp ∙ h p hp; others = e.others }

-- One write more.
pub edit : (t u : List ℤ) (k : ℕ) (f : ℕ → ℤ) (p : ℕ) (v : ℤ) → k < nodes → p < record_length → Edited t u k f → Edited t (put u k p v) k (λ q. cond (eqb q p) v (f q))
edit t u k f p v hk hp e =
    record {
      long = length_put u k p v ∙ e.long;
      heading = λ q hq. header_put u k p v q hq ∙ e.heading q hq;
      here = λ q hq.
          by_test (eqb q p)
          (λ y. ap (place (put u k p v) k) (eqb-true q p y) ∙ place_put_same u k p v e.long hk hp ∙ sym (cond_true (eqb q p) v (f q) y))
          (λ y. place_put_place u k p v k q hp hq (eqb-false q p y) ∙ e.here q hq ∙ sym (cond_false (eqb q p) v (f q) y));
      others = λ j q ne hq. place_put_node u k p v j q hp hq ne ∙ e.others j q ne hq;
    }

-- Node j is the same in two trees.
pub record SameNode (new old : Tree) (j : ℕ) : Type 0 where
  pub sort : new.sort j ≡ old.sort j
  pub parent : new.parent j ≡ old.parent j
  pub level : new.level j ≡ old.level j
  pub kind : new.kind j ≡ old.kind j
  pub share : new.share j ≡ old.share j
  pub depth : new.depth j ≡ old.depth j

-- What a tree says of node k: sort, parent, level, share kind, share and depth.
pub record NodeIs (tree : Tree) (k a b c d e f : ℕ) : Type 0 where
  pub sort : tree.sort k ≡ a
  pub parent : tree.parent k ≡ b
  pub level : tree.level k ≡ c
  pub kind : tree.kind k ≡ d
  pub share : tree.share k ≡ e
  pub depth : tree.depth k ≡ f

pub same_node_law : (t u : List ℤ) (j : ℕ) → ((p : ℕ) → p < rate_at → place u j p ≡ place t j p) → SameNode (tree_of u) (tree_of t) j
unfolding tree_of
same_node_law t u j h =
    record {
      sort = ap plus (h sort_at (omega arith));
      parent = ap plus (h parent_at (omega arith));
      level = ap plus (h level_at (omega arith));
      kind = ap plus (h kind_at (omega arith));
      share = ap plus (h share_at (omega arith));
      depth = ap plus (h depth_at (omega arith));
    }

-- The edited node, and every other.
pub edited_node : (t u : List ℤ) (k : ℕ) (f : ℕ → ℤ) → Edited t u k f → NodeIs (tree_of u) k (plus (f sort_at)) (plus (f parent_at)) (plus (f level_at)) (plus (f kind_at)) (plus (f share_at)) (plus (f depth_at))
unfolding tree_of
edited_node t u k f e =
    record {
      sort = ap plus (e.here sort_at (omega arith));
      parent = ap plus (e.here parent_at (omega arith));
      level = ap plus (e.here level_at (omega arith));
      kind = ap plus (e.here kind_at (omega arith));
      share = ap plus (e.here share_at (omega arith));
      depth = ap plus (e.here depth_at (omega arith));
    }

pub edited_others : (t u : List ℤ) (k : ℕ) (f : ℕ → ℤ) → Edited t u k f → (j : ℕ) → (j ≡ k → ⊥) → SameNode (tree_of u) (tree_of t) j
edited_others t u k f e j ne = same_node_law t u j (λ p hp. e.others j p ne (omega arith))

-- Join writes places 0 to 5 and the port.
abbrev pub joined_place : List ℤ → ℕ → ℕ → ℤ → ℤ → ℤ → ℤ → ℤ → ℕ → ℤ
joined_place t k parent sort kind share depth port q =
    cond (eqb q port_at) port (cond (eqb q depth_at) depth (cond (eqb q share_at) share (cond (eqb q kind_at) kind (cond (eqb q level_at) (pos (suc ((tree_of t).level parent))) (cond (eqb q parent_at) (pos parent) (cond (eqb q sort_at) sort (place t k q)))))))

module _ (t : List ℤ) (k parent : ℕ) (sort kind share depth port : ℤ) (n : length t ≡ table_length) (hk : k < nodes) where
  pub joined_edit : Edited t (joined t k parent sort kind share depth port) k (joined_place t k parent sort kind share depth port)
  unfolding joined
  joined_edit =
      edit _ _ _ _ _ _ hk (omega arith) (edit _ _ _ _ _ _ hk (omega arith) (edit _ _ _ _ _ _ hk (omega arith) (edit _ _ _ _ _ _ hk (omega arith) (edit _ _ _ _ _ _ hk (omega arith) (edit _ _ _ _ _ _ hk (omega arith) (edit _ _ _ _ _ _ hk (omega arith) (unedited t k n)))))))

  pub joined_node : NodeIs (tree_of (joined t k parent sort kind share depth port)) k (plus sort) parent (suc ((tree_of t).level parent)) (plus kind) (plus share) (plus depth)
  unfolding plus
  joined_node = edited_node _ _ _ _ joined_edit

  pub joined_others : (j : ℕ) → (j ≡ k → ⊥) → SameNode (tree_of (joined t k parent sort kind share depth port)) (tree_of t) j
  joined_others = edited_others _ _ _ _ joined_edit

  -- Every place from 6 on but the port stays.
  pub joined_rest : (j p : ℕ) → p < record_length → rate_at ≤ p → (p ≡ port_at → ⊥) → place (joined t k parent sort kind share depth port) j p ≡ place t j p
  unfolding joined
  joined_rest j p hp h other =
      place_put_place _ k port_at _ j p (omega arith) hp other ∙ past _ _ depth_at h ∙ past _ _ share_at (omega arith) ∙ past _ _ kind_at (omega arith) ∙ past _ _ level_at (omega arith) ∙ past _ _ parent_at (omega arith) ∙ past _ _ sort_at (omega arith)
    where
      past : (u : List ℤ) (v : ℤ) (q : ℕ) → q < p → place (put u k q v) j p ≡ place u j p
      past u v q l = place_put_place u k q v j p (omega arith) hp (λ e. omega arith)

-- Change share writes places 3 and 4.
abbrev pub reshared_place : List ℤ → ℕ → ℤ → ℤ → ℕ → ℤ
reshared_place t k kind share q = cond (eqb q share_at) share (cond (eqb q kind_at) kind (place t k q))

module _ (t : List ℤ) (k : ℕ) (kind share : ℤ) (n : length t ≡ table_length) (hk : k < nodes) where
  pub reshared_edit : Edited t (reshared t k kind share) k (reshared_place t k kind share)
  unfolding reshared
  reshared_edit = edit _ _ _ _ _ _ hk (omega arith) (edit _ _ _ _ _ _ hk (omega arith) (unedited t k n))

  pub reshared_node : NodeIs (tree_of (reshared t k kind share)) k ((tree_of t).sort k) ((tree_of t).parent k) ((tree_of t).level k) (plus kind) (plus share) ((tree_of t).depth k)
  unfolding tree_of
  reshared_node = edited_node _ _ _ _ reshared_edit

  pub reshared_others : (j : ℕ) → (j ≡ k → ⊥) → SameNode (tree_of (reshared t k kind share)) (tree_of t) j
  reshared_others = edited_others _ _ _ _ reshared_edit

  -- Every other place stays.
  pub reshared_rest : (j p : ℕ) → p < record_length → (p ≡ kind_at → ⊥) → (p ≡ share_at → ⊥) → place (reshared t k kind share) j p ≡ place t j p
  unfolding reshared
  reshared_rest j p hp h3 h4 = place_put_place _ k share_at share j p (omega arith) hp h4 ∙ place_put_place t k kind_at kind j p (omega arith) hp h3

-- Leave writes zero in every place: after m writes the places below m are zero.
cleared_step : (t u : List ℤ) (k m : ℕ) → k < nodes → m < record_length → Edited t u k (λ q. cond (ltb q m) (pos 0) (place t k q)) → Edited t (put u k m (pos 0)) k (λ q. cond (ltb q (suc m)) (pos 0) (place t k q))
cleared_step t u k m hk hm e =
    edited_same _ _ _ _ _ (edit t u k _ m (pos 0) hk hm e)
    (λ q hq.
    by_test (eqb q m)
    (λ y. cond_true _ _ _ y ∙ sym (cond_true _ _ _ (lt-ltb q (suc m) (omega (arith, eqb-true q m y)))))
    (λ y. cond_false (eqb q m) _ _ y ∙ ap (λ (b : Bool). cond b (pos 0) (place t k q)) (before q (eqb-false q m y))))
  where
    before : (q : ℕ) → (q ≡ m → ⊥) → ltb q m ≡ ltb q (suc m)
    before q ne =
        same_truth (ltb q m) (ltb q (suc m))
        (λ y. lt-ltb q (suc m) (omega (arith, ltb-true q m y)))
        (λ y. lt-ltb q m (omega (arith, ltb-true q (suc m) y)))

pub cleared_edit : (t : List ℤ) (k : ℕ) → length t ≡ table_length → k < nodes → Edited t (cleared t k) k (λ q. pos 0)
unfolding cleared
cleared_edit t k n hk =
    edited_same _ _ _ _ _
    (for_reaches (λ m u. Edited t u k (λ q. cond (ltb q m) (pos 0) (place t k q))) record_length (λ p u. put u k p (pos 0))
    (λ m u hm e. cleared_step t u k m hk hm e)
    t
    (edited_same _ _ _ _ _ (unedited t k n) (λ q hq. sym (cond_false _ _ _ (le-ltb q 0 (omega arith))))))
    (λ q hq. cond_true _ _ _ (lt-ltb q record_length hq))

pub cleared_node : (t : List ℤ) (k : ℕ) → length t ≡ table_length → k < nodes → NodeIs (tree_of (cleared t k)) k 0 0 0 0 0 0
unfolding plus
cleared_node t k n hk = edited_node _ _ _ _ (cleared_edit t k n hk)

pub cleared_others : (t : List ℤ) (k : ℕ) → length t ≡ table_length → k < nodes → (j : ℕ) → (j ≡ k → ⊥) → SameNode (tree_of (cleared t k)) (tree_of t) j
cleared_others t k n hk = edited_others _ _ _ _ (cleared_edit t k n hk)

-- Open writes four places of the root in a table of zeros.
pub blank_place : (j p : ℕ) → j < nodes → p < record_length → place blank j p ≡ pos 0
unfolding blank place
blank_place j p hj hp = get_or-replicate table_length (header_length + record_length * j + p) (pos 0) (pos 0) (omega arith)

pub blank_header : (p : ℕ) → p < header_length → header blank p ≡ pos 0
unfolding blank header
blank_header p hp = get_or-replicate table_length p (pos 0) (pos 0) (omega arith)

blank_length : length blank ≡ table_length
unfolding blank
blank_length = length-replicate table_length (pos 0)

abbrev pub opened_place : ℤ → ℤ → ℕ → ℤ
opened_place rate depth q = cond (eqb q rate_at) rate (cond (eqb q depth_at) depth (cond (eqb q share_at) (pos whole_share) (cond (eqb q sort_at) (pos 1) (place blank 0 q))))

pub opened_edit : (rate depth : ℤ) → Edited blank (opened rate depth) 0 (opened_place rate depth)
unfolding opened
opened_edit rate depth =
    edit _ _ _ _ _ _ (omega arith) (omega arith) (edit _ _ _ _ _ _ (omega arith) (omega arith) (edit _ _ _ _ _ _ (omega arith) (omega arith) (edit _ _ _ _ _ _ (omega arith) (omega arith) (unedited blank 0 blank_length))))

pub opened_place_law : (rate depth : ℤ) (p : ℕ) → p < record_length → (p ≡ sort_at → ⊥) → (p ≡ share_at → ⊥) → (p ≡ depth_at → ⊥) → (p ≡ rate_at → ⊥) → place (opened rate depth) 0 p ≡ pos 0
opened_place_law rate depth p hp n0 n4 n5 n6 =
    (opened_edit rate depth).here p hp
    ∙ rw (ne_eqb p rate_at n6, ne_eqb p depth_at n5, ne_eqb p share_at n4, ne_eqb p sort_at n0) (blank_place 0 p (omega arith) hp)

pub opened_node : (rate depth : ℤ) → NodeIs (tree_of (opened rate depth)) 0 1 0 0 0 whole_share (plus depth)
unfolding tree_of
opened_node rate depth =
    record {
      sort = ap plus ((opened_edit rate depth).here sort_at (omega arith)) ∙ plus_pos 1;
      parent = ap plus (opened_place_law rate depth parent_at (omega arith) (omega arith) (omega arith) (omega arith) (omega arith)) ∙ plus_pos 0;
      level = ap plus (opened_place_law rate depth level_at (omega arith) (omega arith) (omega arith) (omega arith) (omega arith)) ∙ plus_pos 0;
      kind = ap plus (opened_place_law rate depth kind_at (omega arith) (omega arith) (omega arith) (omega arith) (omega arith)) ∙ plus_pos 0;
      share = ap plus ((opened_edit rate depth).here share_at (omega arith)) ∙ plus_pos whole_share;
      depth = ap plus ((opened_edit rate depth).here depth_at (omega arith));
    }

pub opened_others : (rate depth : ℤ) (j p : ℕ) → j < nodes → (j ≡ 0 → ⊥) → p < record_length → place (opened rate depth) j p ≡ pos 0
opened_others rate depth j p hj ne hp = (opened_edit rate depth).others j p ne hp ∙ blank_place j p hj hp

-- Request writes the four places of one more waiting request, and then the header's count.
abbrev pub requested_place : List ℤ → ℕ → ℤ → ℤ → ℕ → ℤ
requested_place t k tag size q =
    cond (eqb q waiting_at) (pos (suc (waiting t k))) (cond (eqb q (queue_place (waiting t k) + arrival_at)) (pos (suc (count t))) (cond (eqb q (queue_place (waiting t k) + size_at)) size (cond (eqb q (queue_place (waiting t k) + tag_at)) tag (place t k q))))

pub record Requested (t u : List ℤ) (k : ℕ) (tag size : ℤ) : Type 0 where
  pub long : length u ≡ table_length
  pub counted : header u 0 ≡ pos (suc (count t))
  pub heading : (p : ℕ) → p < header_length - 1 → header u (suc p) ≡ header t (suc p)
  pub here : (p : ℕ) → p < record_length → place u k p ≡ requested_place t k tag size p
  pub others : (j p : ℕ) → (j ≡ k → ⊥) → p < record_length → place u j p ≡ place t j p

pub requested_edit : (t : List ℤ) (k : ℕ) (tag size : ℤ) → length t ≡ table_length → k < nodes → waiting t k < most_waiting → Requested t (requested t k tag size) k tag size
unfolding requested
requested_edit t k tag size n hk hw =
    let e1 = edit _ _ _ _ (queue_place (waiting t k) + tag_at) tag hk (omega arith) (unedited t k n) in
    let e2 = edit _ _ _ _ (queue_place (waiting t k) + size_at) size hk (omega arith) e1 in
    let e3 = edit _ _ _ _ (queue_place (waiting t k) + arrival_at) (pos (suc (count t))) hk (omega arith) e2 in
    let e = edit _ _ _ _ waiting_at (pos (suc (waiting t k))) hk (omega arith) e3 in
    record {
      long = length_put_header _ 0 _ ∙ e.long;
      counted = header_put_header_same _ 0 _ e.long (omega arith);
      heading = λ p hp. header_put_header_other _ 0 _ (suc p) (λ y. omega arith) ∙ e.heading (suc p) (omega arith);
      here = λ p hp. place_put_header _ 0 _ k p (omega arith) ∙ e.here p hp;
      others = λ j p ne hp. place_put_header _ 0 _ j p (omega arith) ∙ e.others j p ne hp;
    }
