-- A table in order is three things apart: what a tick leaves alone, the waiting requests, and the balances. Where a tick
-- has kept each of the three, the table is in order again.
use Prim.Native.Nat.{ℕ, suc, ◌+◌, ◌-◌, ◌<◌}
use mathlib.Core.Path.{◌≡◌, ◌∙◌, subst}
use mathlib.Core.Bool.{true, false}
use mathlib.Core.List.{List}
use native.Mathlib.Omega.{arith}
use lib.ListN.{length}
use lib.IntN.{ℤ, pos}
use Rattle.numbers.specs.Whole.{plus, minus}
use Rattle.numbers.proofs.Parts.{zarith}
use Rattle.definitions.specs.Limits.{table_length, record_length, nodes, sort_at, parent_at, level_at, kind_at, share_at, depth_at, rate_at, balance_at, port_at, spare_at, root}
use Rattle.definitions.specs.Places.{place, count, balance, waiting, depth_grains, arrival}
use Rattle.definitions.specs.Tree.{Tree, tree_of, there, is_class}
use Rattle.definitions.proofs.Facts.{InOrder, Limits, Root, Class, Balance, Request, stated_kept}
use Rattle.treelaws.proofs.Floors.{Floor, Under, grounds, floor_of, room_balance}
use Rattle.ticklaws.proofs.Frame.{by_place, Frame, OnlyBalances, only_frame, frame_refl, frame_trans, frame_tree, frame_rate, frame_count, frame_depth}
use Rattle.treelaws.proofs.Sorts.{unused_client, class_client}
use Rattle.ticklaws.proofs.Queues.{Queues, queues_of, only_shifted, queues_shifted}

-- An unused record has balance 0.
pub record Vacant (tree : Tree) (B : ℕ → ℤ) : Type 0 where
  pub zero : (k : ℕ) → k < nodes → there tree k ≡ false → B k ≡ pos 0

pub vacant_of : (t : List ℤ) → InOrder t → Vacant (tree_of t) (balance t)
unfolding balance
vacant_of t f = record { zero = λ k hk h. f.empty k hk h balance_at (omega arith) }

-- The table u that a tick on its way from t has reached, but for balances above their depth.
pub record Reached (t u : List ℤ) : Type 0 where
  pub frame : Frame t u
  pub queues : Queues (tree_of t) (count t) u
  pub floor : Floor (tree_of t) (balance u)
  pub vacant : Vacant (tree_of t) (balance u)

module _ (t u : List ℤ) (f : InOrder t) (r : Reached t u) (most : Under (tree_of t) (balance u)) where
  same : tree_of u ≡ tree_of t
  same = frame_tree t u r.frame

  unused_zero : (k : ℕ) → k < nodes → there (tree_of t) k ≡ false → (p : ℕ) → p < record_length → place u k p ≡ pos 0
  unfolding plus minus balance waiting
  unused_zero k hk h =
      let none = r.queues.idle k hk (unused_client (tree_of t) k h) in
      by_place (λ p. place u k p ≡ pos 0)
      (λ p l. r.frame.early k p l ∙ f.empty k hk h p (omega arith))
      (r.vacant.zero k hk h)
      (omega (arith, zarith, r.queues.few k hk))
      (λ p low l. r.frame.later k p low l ∙ f.empty k hk h p (omega arith))
      (λ p l. r.queues.spare k hk p l (omega arith))

  limits_again : (k : ℕ) → k < nodes → there (tree_of t) k ≡ true → Limits u k
  limits_again k hk h =
      let l = f.limits k hk h in
      let e = r.frame.early k in
      record {
        sort = rw (e sort_at (omega arith)) l.sort;
        parent = rw (e parent_at (omega arith)) l.parent;
        level = rw (e level_at (omega arith)) l.level;
        kind = rw (e kind_at (omega arith)) l.kind;
        share = rw (e kind_at (omega arith), e share_at (omega arith)) l.share;
        depth = rw (e depth_at (omega arith)) l.depth;
        waiting = r.queues.few k hk;
        port = rw (e sort_at (omega arith), r.frame.later k port_at (omega arith) (omega arith)) l.port;
      }

  root_again : Root u
  root_again =
      let o = f.root in
      let e = r.frame.early 0 in
      record {
        sort = e sort_at (omega arith) ∙ o.sort;
        parent = e parent_at (omega arith) ∙ o.parent;
        level = e level_at (omega arith) ∙ o.level;
        kind = e kind_at (omega arith) ∙ o.kind;
        share = e share_at (omega arith) ∙ o.share;
        rate = rw (e rate_at (omega arith)) o.rate;
      }

  class_again : (c : ℕ) → c < nodes → is_class (tree_of t) c ≡ true → Class u c
  class_again c hc e =
      let o = f.class c hc e in
      record {
        level = rw same o.level;
        idle = r.queues.idle c hc (class_client (tree_of t) c e);
        shares = rw same o.shares;
        depths = rw same o.depths;
      }

  balance_again : (k : ℕ) → k < nodes → there (tree_of t) k ≡ true → Balance u k
  unfolding depth_grains tree_of
  balance_again k hk h =
      room_balance u k (rw same (r.floor.room k hk h)) (omega (arith, frame_depth t u r.frame k, most.most k hk h))

  request_again : (k : ℕ) → k < nodes → (i : ℕ) → i < waiting u k → Request u k i
  request_again k hk i hi =
      record {
        size = rw same (r.queues.size k hk i hi);
        number = rw (frame_count t u r.frame) (r.queues.number k hk i hi);
        rising = λ ne.
            let next : suc (i - 1) ≡ i = omega arith in
            subst (λ (n : ℕ). arrival u k (i - 1) < arrival u k n) next (r.queues.rising k hk (i - 1) (omega arith));
      }

  pub in_order_again : InOrder u
  in_order_again =
      record {
        long = r.frame.long ∙ f.long;
        counted = rw (r.frame.heading 0 (omega arith)) f.counted;
        heading = λ p hp. r.frame.heading (suc p) (omega arith) ∙ f.heading p hp;
        empty = rw same unused_zero;
        limits = rw same limits_again;
        spare = rw same (λ k hk h. record { places = λ p hp. r.frame.later k (spare_at + p) (omega arith) (omega arith) ∙ (f.spare k hk h).places p hp; queue = r.queues.spare k hk });
        root = root_again;
        child = rw same f.child;
        class = rw same class_again;
        rates = rw (same, frame_rate t u r.frame 0) (λ k hk h. r.frame.early k rate_at (omega arith) ∙ f.rates k hk h);
        balances = rw same balance_again;
        requests = λ k hk e. request_again k hk;
        differ = r.queues.differ;
        stated = stated_kept t u same (frame_rate t u r.frame root) f.stated;
      }

pub reached_first : (t : List ℤ) → InOrder t → Reached t t
reached_first t f =
    record { frame = frame_refl t; queues = queues_of t f; floor = floor_of t (grounds t f); vacant = vacant_of t f }

pub reached_long : (t u : List ℤ) → InOrder t → Reached t u → length u ≡ table_length
reached_long t u f r = r.frame.long ∙ f.long

-- A change of nothing but balances.
pub reached_balances : (t u v : List ℤ) → Reached t u → OnlyBalances u v → Floor (tree_of t) (balance v) → Vacant (tree_of t) (balance v) → Reached t v
reached_balances t u v r only floor vacant =
    record {
      frame = frame_trans r.frame (only_frame only);
      queues = queues_shifted (tree_of t) (count t) u v (λ k. 0) (λ k hk. only_shifted u v only k) r.queues;
      floor = floor;
      vacant = vacant;
    }
