-- In order, node by node. `Ready t` holds all that a table in order does but for its rates; `Node t k` is node k's part.
-- A table that differs from a ready one in a few places keeps each part whose places stay.
use Prim.Native.Nat.{ℕ, suc, ◌+◌, ◌*◌, ◌-◌, ◌≤◌, ◌<◌}
use mathlib.Core.Path.{◌≡◌, sym, ap, ◌∙◌}
use mathlib.Core.Bool.{true, false, not}
use mathlib.Core.List.{List}
use native.Mathlib.Omega.{arith}
use native.Mathlib.Decide.{ℕ_discrete}
use borrow.Author.Tests.{eqb-false, eq-eqb}
use lib.ListN.{length}
use lib.Dec.{eqb}
use lib.IntN.{ℤ, pos, ◌+ℤ◌}
use lib.Signed.{le_z}
use Rattle.numbers.specs.Whole.{plus, within_ℤ}
use Rattle.numbers.proofs.Tests.{by_test, true_false}
use Rattle.numbers.proofs.Parts.{zarith, plus_pos}
use Rattle.definitions.specs.Limits.{table_length, header_length, record_length, nodes, sort_at, parent_at, level_at, kind_at, share_at, depth_at, rate_at, balance_at, waiting_at, port_at, spare_at, queue_at, request_length, size_at, arrival_at, class, client, root, whole_share, greatest_rate, greatest_count, most_waiting}
use Rattle.definitions.specs.Places.{queue_place, place, header, count, rate, balance, waiting, depth_grains, arrival}
use Rattle.definitions.specs.Tree.{Tree, tree_of, there, is_class, is_client, sum_under}
use Rattle.definitions.specs.Rates.{fixed_sum, rate_in}
use Rattle.definitions.specs.Order.{child_balances}
use Rattle.definitions.proofs.Facts.{InOrder, Limits, Spare, Root, Child, Class, Balance, Request, Stated}

pub record Node (t : List ℤ) (k : ℕ) : Type 0 where
  pub empty : there (tree_of t) k ≡ false → (p : ℕ) → p < record_length → place t k p ≡ pos 0
  pub limits : there (tree_of t) k ≡ true → Limits t k
  pub spare : there (tree_of t) k ≡ true → Spare t k
  pub child : there (tree_of t) k ≡ true → (k ≡ 0 → ⊥) → Child (tree_of t) k
  pub class : is_class (tree_of t) k ≡ true → Class t k
  pub balance : there (tree_of t) k ≡ true → Balance t k
  pub requests : is_client (tree_of t) k ≡ true → (i : ℕ) → i < waiting t k → Request t k i

pub record Ready (t : List ℤ) : Type 0 where
  pub long : length t ≡ table_length
  pub counted : within_ℤ 0 greatest_count (header t 0) ≡ true
  pub heading : (p : ℕ) → p < header_length - 1 → header t (suc p) ≡ pos 0
  pub root : Root t
  pub node : (k : ℕ) → k < nodes → Node t k
  pub differ : (k : ℕ) → k < nodes → (i : ℕ) → i < waiting t k → (j : ℕ) → j < k → (l : ℕ) → l < waiting t j → arrival t k i ≡ arrival t j l → ⊥
  pub stated : Stated t

pub ready : (t : List ℤ) → InOrder t → Ready t
ready t f =
    record {
      long = f.long;
      counted = f.counted;
      heading = f.heading;
      root = f.root;
      node = λ k hk.
          record {
            empty = f.empty k hk;
            limits = f.limits k hk;
            spare = f.spare k hk;
            child = f.child k hk;
            class = f.class k hk;
            balance = f.balances k hk;
            requests = f.requests k hk;
          };
      differ = f.differ;
      stated = f.stated;
    }

pub ready_in_order : (t : List ℤ) → Ready t → ((k : ℕ) → k < nodes → there (tree_of t) k ≡ true → place t k rate_at ≡ pos (rate_in (tree_of t) (rate t root) k)) → InOrder t
ready_in_order t f rates =
    record {
      long = f.long;
      counted = f.counted;
      heading = f.heading;
      empty = λ k hk. (f.node k hk).empty;
      limits = λ k hk. (f.node k hk).limits;
      spare = λ k hk. (f.node k hk).spare;
      root = f.root;
      child = λ k hk. (f.node k hk).child;
      class = λ k hk. (f.node k hk).class;
      rates = rates;
      balances = λ k hk. (f.node k hk).balance;
      requests = λ k hk. (f.node k hk).requests;
      differ = f.differ;
      stated = f.stated;
    }

le_z_trans : (a b c : ℤ) → le_z a b ≡ true → le_z b c ≡ true → le_z a c ≡ true
le_z_trans a b c p q = omega (arith, zarith)

-- Sorts.
pub there_same : (new old : Tree) (j : ℕ) → new.sort j ≡ old.sort j → there new j ≡ there old j
unfolding there
there_same new old j e = ap (λ (s : ℕ). not (eqb s 0)) e

pub class_same : (new old : Tree) (j : ℕ) → new.sort j ≡ old.sort j → is_class new j ≡ is_class old j
unfolding is_class
class_same new old j e = ap (λ (s : ℕ). eqb s class) e

pub client_same : (new old : Tree) (j : ℕ) → new.sort j ≡ old.sort j → is_client new j ≡ is_client old j
unfolding is_client
client_same new old j e = ap (λ (s : ℕ). eqb s client) e

-- Node j's parts, kept where their places are.
module _ (t u : List ℤ) (j : ℕ) where
  pub limits_kept_law : ((p : ℕ) → p < spare_at → (p ≡ rate_at → ⊥) → place u j p ≡ place t j p) → Limits t j → Limits u j
  limits_kept_law h f =
      record {
        sort = rw (h sort_at (omega arith) (omega arith)) f.sort;
        parent = rw (h parent_at (omega arith) (omega arith)) f.parent;
        level = rw (h level_at (omega arith) (omega arith)) f.level;
        kind = rw (h kind_at (omega arith) (omega arith)) f.kind;
        share = rw (h kind_at (omega arith) (omega arith), h share_at (omega arith) (omega arith)) f.share;
        depth = rw (h depth_at (omega arith) (omega arith)) f.depth;
        waiting = rw (h waiting_at (omega arith) (omega arith)) f.waiting;
        port = rw (h sort_at (omega arith) (omega arith), h port_at (omega arith) (omega arith)) f.port;
      }

  pub spare_kept : ((p : ℕ) → p < record_length → waiting_at ≤ p → place u j p ≡ place t j p) → Spare t j → Spare u j
  unfolding waiting
  spare_kept h f =
      record {
        places = λ p hp. h (spare_at + p) (omega arith) (omega arith) ∙ f.places p hp;
        queue = λ p hp low. h (queue_at + p) (omega arith) (omega arith) ∙ f.queue p hp (omega (arith, ap plus (h waiting_at (omega arith) (omega arith))));
      }

  pub balance_kept : place u j sort_at ≡ place t j sort_at → place u j depth_at ≡ place t j depth_at → place u j balance_at ≡ place t j balance_at → (is_class (tree_of t) j ≡ true → le_z (child_balances u j) (child_balances t j) ≡ true) → Balance t j → Balance u j
  unfolding balance depth_grains tree_of
  balance_kept sort depth same below f =
      let classes = class_same (tree_of u) (tree_of t) j (ap plus sort) in
      record {
        most = rw (same, depth) f.most;
        class = λ e. rw (same, depth) (le_z_trans (child_balances u j) (child_balances t j) (balance t j +ℤ pos (depth_grains t j)) (below (sym classes ∙ e)) (f.class (sym classes ∙ e)));
        client = λ e. rw same (f.client (sym classes ∙ e));
      }

  -- The request and those before it.
  pub request_kept : (i : ℕ) → place u j depth_at ≡ place t j depth_at → count t ≤ count u → ((p : ℕ) → queue_at ≤ p → p < queue_at + request_length + request_length * i → place u j p ≡ place t j p) → Request t j i → Request u j i
  unfolding tree_of arrival
  request_kept i depth more h f =
      record {
        size = rw (depth, h (queue_place i + size_at) (omega arith) (omega arith)) f.size;
        number = rw (h (queue_place i + arrival_at) (omega arith) (omega arith)) (omega (arith, zarith, f.number));
        rising = λ ne. rw (h (queue_place (i - 1) + arrival_at) (omega arith) (omega arith), h (queue_place i + arrival_at) (omega arith) (omega arith)) (f.rising ne);
      }

-- A node's child place, kept where it and its parent stay what they were.
pub child_kept : (new old : Tree) (j : ℕ) → new.parent j ≡ old.parent j → new.level j ≡ old.level j → new.sort (old.parent j) ≡ old.sort (old.parent j) → new.level (old.parent j) ≡ old.level (old.parent j) → Child old j → Child new j
child_kept new old j parent level sort above f =
    record {
      class = rw parent (class_same new old (old.parent j) sort ∙ f.class);
      level = rw (level, parent, above) f.level;
    }

-- No more than eight wait at a node.
pub most_waiting_law : (t : List ℤ) (k : ℕ) → Node t k → waiting t k ≤ most_waiting
unfolding waiting
most_waiting_law t k f =
    by_test (there (tree_of t) k) (λ e. omega (arith, zarith, (f.limits e).waiting)) (λ e. omega (arith, ap plus (f.empty e waiting_at (omega arith)), plus_pos 0))

-- A node that is there is a class or a client.
pub class_or_client : (t : List ℤ) (k : ℕ) → Node t k → there (tree_of t) k ≡ true → is_class (tree_of t) k ≡ false → is_client (tree_of t) k ≡ true
unfolding is_class is_client tree_of
class_or_client t k f e c = eq-eqb (plus (place t k sort_at)) client (omega (arith, zarith, (f.limits e).sort, eqb-false (plus (place t k sort_at)) class c))

pub client_or_class : (t : List ℤ) (k : ℕ) → Node t k → there (tree_of t) k ≡ true → is_client (tree_of t) k ≡ false → is_class (tree_of t) k ≡ true
client_or_class t k f e c = by_test (is_class (tree_of t) k) (λ y. y) (λ n. absurd (true_false (class_or_client t k f e n) c))

-- The record of node j stays, but for the rate of a node that is there.
pub record SameRecord (t u : List ℤ) (j : ℕ) : Type 0 where
  pub places : (p : ℕ) → p < record_length → (p ≡ rate_at → ⊥) → place u j p ≡ place t j p
  pub unused : there (tree_of t) j ≡ false → place u j rate_at ≡ place t j rate_at

-- The sums under class c: within their limits, and of balances no greater than before.
pub record Sums (t u : List ℤ) (c : ℕ) : Type 0 where
  pub shares : fixed_sum (tree_of u) c ≤ whole_share
  pub depths : sum_under (tree_of u) c (tree_of u).depth ≤ (tree_of t).depth c
  pub balances : le_z (child_balances u c) (child_balances t c) ≡ true

-- Node j, kept where all its places but kind, share and rate stay, and these are in their limits.
pub node_limited : (t u : List ℤ) (j : ℕ) → count t ≤ count u → ((p : ℕ) → p < record_length → (p ≡ kind_at → ⊥) → (p ≡ share_at → ⊥) → (p ≡ rate_at → ⊥) → place u j p ≡ place t j p) → (there (tree_of t) j ≡ false → (p : ℕ) → p < record_length → place u j p ≡ pos 0) → (there (tree_of t) j ≡ true → Limits u j) → (there (tree_of t) j ≡ true → (j ≡ 0 → ⊥) → Child (tree_of t) j → Child (tree_of u) j) → (is_class (tree_of t) j ≡ true → Sums t u j) → Node t j → Node u j
unfolding tree_of waiting
node_limited t u j more same empty limits child sums f =
    record {
      empty = λ e. empty (sym theres ∙ e);
      limits = λ e. limits (sym theres ∙ e);
      spare = λ e. spare_kept t u j (λ p hp low. same p hp (omega arith) (omega arith) (omega arith)) (f.spare (sym theres ∙ e));
      child = λ e ne. child (sym theres ∙ e) ne (f.child (sym theres ∙ e) ne);
      class = λ e.
          let old = f.class (sym classes ∙ e) in
          let new = sums (sym classes ∙ e) in
          record {
            level = rw (at level_at (omega arith) (omega arith)) old.level;
            idle = rw (at waiting_at (omega arith) (omega arith)) old.idle;
            shares = new.shares;
            depths = rw (at depth_at (omega arith) (omega arith)) new.depths;
          };
      balance = λ e. balance_kept t u j (at sort_at (omega arith) (omega arith)) (at depth_at (omega arith) (omega arith)) (at balance_at (omega arith) (omega arith)) (λ c. (sums c).balances) (f.balance (sym theres ∙ e));
      requests = λ e i hi.
          let w : i < waiting t j = omega (arith, ap plus (at waiting_at (omega arith) (omega arith))) in
          request_kept t u j i (at depth_at (omega arith) (omega arith)) more (λ p low hp. same p (omega (arith, most_waiting_law t j f)) (omega arith) (omega arith) (omega arith)) (f.requests (sym clients ∙ e) i w);
    }
  where
    at : (p : ℕ) → p < record_length → (p ≡ kind_at → ⊥) × (p ≡ share_at → ⊥) × (p ≡ rate_at → ⊥) → place u j p ≡ place t j p
    at p hp ne = same p hp ne.0 ne.1 ne.2

    sorts : (tree_of u).sort j ≡ (tree_of t).sort j
    sorts = ap plus (at sort_at (omega arith) (omega arith))

    theres : there (tree_of u) j ≡ there (tree_of t) j
    theres = there_same (tree_of u) (tree_of t) j sorts

    classes : is_class (tree_of u) j ≡ is_class (tree_of t) j
    classes = class_same (tree_of u) (tree_of t) j sorts

    clients : is_client (tree_of u) j ≡ is_client (tree_of t) j
    clients = client_same (tree_of u) (tree_of t) j sorts

pub node_kept : (t u : List ℤ) (j : ℕ) → count t ≤ count u → SameRecord t u j → (there (tree_of t) j ≡ true → (j ≡ 0 → ⊥) → Child (tree_of t) j → Child (tree_of u) j) → (is_class (tree_of t) j ≡ true → Sums t u j) → Node t j → Node u j
node_kept t u j more same child sums f =
    node_limited t u j more (λ p hp kind share. same.places p hp)
    (λ e p hp. elim (ℕ_discrete p rate_at) [ yes six ↦ rw six (same.unused e ∙ f.empty e rate_at (omega arith)) | no ne ↦ same.places p hp ne ∙ f.empty e p hp ])
    (λ e. limits_kept_law t u j (λ p hp. same.places p (omega arith)) (f.limits e))
    child
    sums
    f

-- Arrival numbers differ as before where no node has other ones.
pub differ_kept : (t u : List ℤ) → ((k : ℕ) → k < nodes → waiting u k ≡ waiting t k) → ((k : ℕ) → k < nodes → (i : ℕ) → i < waiting t k → arrival u k i ≡ arrival t k i) → Ready t → (k : ℕ) → k < nodes → (i : ℕ) → i < waiting u k → (j : ℕ) → j < k → (l : ℕ) → l < waiting u j → arrival u k i ≡ arrival u j l → ⊥
differ_kept t u waits arrivals f k hk i hi j hj l hl e =
    let wi : i < waiting t k = omega (arith, waits k hk) in
    let wl : l < waiting t j = omega (arith, waits j (omega arith)) in
    f.differ k hk i wi j hj l wl (sym (arrivals k hk i wi) ∙ e ∙ arrivals j (omega arith) l wl)

-- The root, kept where its rate is within its limits.
pub root_kept : (t u : List ℤ) → ((p : ℕ) → p < rate_at → place u 0 p ≡ place t 0 p) → within_ℤ 1 greatest_rate (place u root rate_at) ≡ true → Root t → Root u
root_kept t u h within f =
    record {
      sort = h sort_at (omega arith) ∙ f.sort;
      parent = h parent_at (omega arith) ∙ f.parent;
      level = h level_at (omega arith) ∙ f.level;
      kind = h kind_at (omega arith) ∙ f.kind;
      share = h share_at (omega arith) ∙ f.share;
      rate = within;
    }
