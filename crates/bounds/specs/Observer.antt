-- What an observer knows from calls, answers and lists alone: the tree, the disk's rate, and for each client how many
-- requests were accepted and how many entries dispatched since its join. Document 01, "What demand 3 counts", and document 02:
-- the bounds cover both lists together (g), and set minute gives each node a kind and a share (h).
use Rattle.std.specs.Prelude.{ℕ, zero, suc, ◌+◌, cond, List, [], ◌∷◌, ◌++◌, get_or, drop, eqb, ℤ, pos}
use Rattle.numbers.specs.Whole.{plus}
use Rattle.definitions.specs.Limits.{root, class, whole_share, entry_length}
use Rattle.definitions.specs.Tree.{Tree, tree_of, there}
use Rattle.definitions.specs.Refusals.{Outcome, accepted, refused}
use Rattle.hourlaws.specs.Windows.{tree_at}
use Rattle.hourlaws.specs.SetMinute.{planned}
use Rattle.runs.specs.Runs.{Call, join, leave, change_share, change_rate, set_minute, request, tick, is_tick, Event}

-- f, with v at k.
unfoldable pub set_at : ℕ → ℕ → (ℕ → ℕ) → ℕ → ℕ
set_at k v f j = cond (eqb j k) v (f j)

-- One dispatch of a tick's lists.
pub record Entry : Type 0 where
  pub client : ℕ
  pub size : ℕ
  pub supplier : ℕ

-- The first n entries of a list: four numbers each, client, tag, size, supplier.
unfoldable pub entries_in : ℕ → List ℤ → List Entry
entries_in zero list = []
entries_in (suc n) list =
    record { client = plus (get_or list 0 (pos 0)); size = plus (get_or list 2 (pos 0)); supplier = plus (get_or list 3 (pos 0)) }
    ∷ entries_in n (drop entry_length list)

-- An accepted tick dispatches as many entries of each list, from the front, as it answers: the first number for the first list,
-- the second for the second.
unfoldable pub dispatched_by : Outcome → List ℤ → List ℤ → List Entry
dispatched_by (accepted values) first second =
    entries_in (plus (get_or values 0 (pos 0))) first ++ entries_in (plus (get_or values 1 (pos 0))) second
dispatched_by (refused number) first second = []

-- The entries that an event dispatches; a call other than a tick has none.
unfoldable pub entries : Event → List Entry
entries e = cond (is_tick e.call) (dispatched_by e.answer e.first e.second) []

-- How many entries were dispatched for client k.
unfoldable pub entries_for : ℕ → List Entry → ℕ
entries_for k [] = 0
entries_for k (e ∷ list) = cond (eqb e.client k) 1 0 + entries_for k list

pub record Observer : Type 0 where
  pub tree : Tree
  pub disk : ℕ
  pub asked : ℕ → ℕ
  pub sent : ℕ → ℕ

-- The tree starts as the root, with open's rate and depth.
unfoldable pub start : ℤ → ℤ → Observer
start rate depth =
    record {
      tree =
          record {
            sort = set_at root class (λ k. 0);
            parent = λ k. 0;
            level = λ k. 0;
            kind = λ k. 0;
            share = set_at root whole_share (λ k. 0);
            depth = set_at root (plus depth) (λ k. 0);
          };
      disk = plus rate;
      asked = λ k. 0;
      sent = λ k. 0;
    }

-- The tree with the record of node k as given; a node that left has zeros.
unfoldable pub with_node : Tree → ℕ → (sort parent level kind share depth : ℕ) → Tree
with_node tree k sort parent level kind share depth =
    record {
      sort = set_at k sort tree.sort;
      parent = set_at k parent tree.parent;
      level = set_at k level tree.level;
      kind = set_at k kind tree.kind;
      share = set_at k share tree.share;
      depth = set_at k depth tree.depth;
    }

unfoldable pub with_share : Tree → ℕ → (kind share : ℕ) → Tree
with_share tree k kind share =
    record {
      sort = tree.sort;
      parent = tree.parent;
      level = tree.level;
      kind = set_at k kind tree.kind;
      share = set_at k share tree.share;
      depth = tree.depth;
    }

-- The tree with the kind and share that another tree gives to each of its nodes.
unfoldable pub with_shares : Tree → Tree → Tree
with_shares tree given =
    record {
      sort = tree.sort;
      parent = tree.parent;
      level = tree.level;
      kind = λ k. cond (there tree k) (given.kind k) (tree.kind k);
      share = λ k. cond (there tree k) (given.share k) (tree.share k);
      depth = tree.depth;
    }

-- What an accepted call changes: join adds a node as given, with nothing asked and nothing sent; leave takes it out;
-- change share gives it kind and share; change rate gives the root its rate; set minute gives each node the plan's kind and its share
-- at the minute; a request is one more asked; a tick sends its entries.
unfoldable pub after_accepted : Observer → Call → List Entry → Observer
after_accepted o (join node parent sort kind share depth port) list =
    record {
      tree = with_node o.tree (plus node) (plus sort) (plus parent) (suc (o.tree.level (plus parent))) (plus kind) (plus share) (plus depth);
      disk = o.disk;
      asked = set_at (plus node) 0 o.asked;
      sent = set_at (plus node) 0 o.sent;
    }
after_accepted o (leave node) list =
    record { tree = with_node o.tree (plus node) 0 0 0 0 0 0; disk = o.disk; asked = o.asked; sent = o.sent }
after_accepted o (change_share node kind share) list =
    record { tree = with_share o.tree (plus node) (plus kind) (plus share); disk = o.disk; asked = o.asked; sent = o.sent }
after_accepted o (change_rate rate) list = record { tree = o.tree; disk = plus rate; asked = o.asked; sent = o.sent }
after_accepted o (set_minute plan windows minute) list =
    record { tree = with_shares o.tree (tree_at (tree_of (planned plan)) windows (plus minute)); disk = o.disk; asked = o.asked; sent = o.sent }
after_accepted o (request client tag size) list =
    record { tree = o.tree; disk = o.disk; asked = set_at (plus client) (suc (o.asked (plus client))) o.asked; sent = o.sent }
after_accepted o (tick first second) list =
    record { tree = o.tree; disk = o.disk; asked = o.asked; sent = λ k. o.sent k + entries_for k list }

-- Refused calls leave all as it is.
unfoldable pub after_answer : Observer → Call → Outcome → List Entry → Observer
after_answer o c (accepted values) list = after_accepted o c list
after_answer o c (refused number) list = o

unfoldable pub observed : Observer → Event → Observer
observed o e = after_answer o e.call e.answer (entries e)

unfoldable pub observed_all : Observer → List Event → Observer
observed_all o [] = o
observed_all o (e ∷ list) = observed_all (observed o e) list
