-- What a table in order says of waiting requests, node by node and for all nodes alike, and that it stays true when each
-- node's oldest requests are taken out: request i is then the old request d + i, where d were taken out.
use Prim.Native.Nat.{ℕ, suc, ◌+◌, ◌*◌, ◌-◌, ◌≤◌, ◌<◌}
use mathlib.Core.Path.{◌≡◌, sym, ap, ◌∙◌}
use mathlib.Core.Bool.{true, false}
use mathlib.Core.List.{List}
use native.Mathlib.Omega.{arith}
use native.Mathlib.Decide.{dec_lt}
use native.Mathlib.Nat.{add-suc}
use lib.IntN.{ℤ, pos}
use Rattle.numbers.specs.Whole.{plus, minus, within_ℤ}
use Rattle.numbers.proofs.Tests.{by_test, true_false}
use Rattle.numbers.proofs.Parts.{zarith, plus_pos, one_is_zero}
use Rattle.definitions.specs.Limits.{nodes, waiting_at, queue_at, queue_length, request_length, size_at, arrival_at, most_waiting}
use Rattle.definitions.specs.Places.{queue_place, place, count, waiting, size, arrival}
use Rattle.definitions.specs.Tree.{Tree, tree_of, there, is_client}
use Rattle.definitions.specs.Cost.{size_within}
use Rattle.definitions.proofs.Facts.{InOrder}
use Rattle.treelaws.proofs.Sorts.{by_sort}
use Rattle.ticklaws.proofs.Frame.{OnlyBalances}

pub record Queues (tree : Tree) (n : ℕ) (t : List ℤ) : Type 0 where
  pub few : (k : ℕ) → k < nodes → within_ℤ 0 most_waiting (place t k waiting_at) ≡ true
  pub idle : (k : ℕ) → k < nodes → is_client tree k ≡ false → waiting t k ≡ 0
  pub spare : (k : ℕ) → k < nodes → (p : ℕ) → p < queue_length → request_length * waiting t k ≤ p → place t k (queue_at + p) ≡ pos 0
  pub size : (k : ℕ) → k < nodes → (i : ℕ) → i < waiting t k → size_within (tree.depth k) (place t k (queue_place i + size_at)) ≡ true
  pub number : (k : ℕ) → k < nodes → (i : ℕ) → i < waiting t k → within_ℤ 1 n (place t k (queue_place i + arrival_at)) ≡ true
  pub rising : (k : ℕ) → k < nodes → (i : ℕ) → suc i < waiting t k → arrival t k i < arrival t k (suc i)
  pub differ : (k : ℕ) → k < nodes → (i : ℕ) → i < waiting t k → (j : ℕ) → j < k → (l : ℕ) → l < waiting t j → arrival t k i ≡ arrival t j l → ⊥

none_waits : (t : List ℤ) (k : ℕ) → place t k waiting_at ≡ pos 0 → waiting t k ≡ 0
unfolding waiting
none_waits t k e = ap plus e ∙ plus_pos 0

idle_node : (t : List ℤ) → InOrder t → (k : ℕ) → k < nodes → is_client (tree_of t) k ≡ false → waiting t k ≡ 0
idle_node t f k hk e =
    by_sort t f k hk
    (λ h. none_waits t k (f.empty k hk h waiting_at (omega arith)))
    (λ c. (f.class k hk c).idle)
    (λ c. absurd (true_false c e))

-- A node at which a request waits is a client.
client_by : (tree : Tree) (t : List ℤ) (k i : ℕ) → (is_client tree k ≡ false → waiting t k ≡ 0) → i < waiting t k → is_client tree k ≡ true
client_by tree t k i idle h = by_test (is_client tree k) (λ e. e) (λ e. absurd (none (idle e)))
  where
    none : waiting t k ≡ 0 → ⊥
    none e = omega arith

pub waiting_client : (tree : Tree) (n : ℕ) (t : List ℤ) → Queues tree n t → (k i : ℕ) → k < nodes → i < waiting t k → is_client tree k ≡ true
waiting_client tree n t q k i hk = client_by tree t k i (q.idle k hk)

pub queues_of : (t : List ℤ) → InOrder t → Queues (tree_of t) (count t) t
unfolding plus minus
queues_of t f =
    record {
      few = λ k hk. by_test (there (tree_of t) k) (λ h. (f.limits k hk h).waiting) (λ h. omega (arith, zarith, f.empty k hk h waiting_at (omega arith), one_is_zero (place t k waiting_at)));
      idle = idle_node t f;
      spare = λ k hk p hp low. by_test (there (tree_of t) k) (λ h. (f.spare k hk h).queue p hp low) (λ h. f.empty k hk h (queue_at + p) (omega arith));
      size = λ k hk i hi. (f.requests k hk (client_by (tree_of t) t k i (idle_node t f k hk) hi) i hi).size;
      number = λ k hk i hi. (f.requests k hk (client_by (tree_of t) t k i (idle_node t f k hk) hi) i hi).number;
      rising = λ k hk i hi.
          let before : suc i - 1 ≡ i = omega arith in
          rw before at ((f.requests k hk (client_by (tree_of t) t k (suc i) (idle_node t f k hk) hi) (suc i) hi).rising (λ e. omega arith));
      differ = f.differ;
    }

-- The d oldest requests of node k were taken out, and those behind them have moved up.
pub record Shifted (t u : List ℤ) (k d : ℕ) : Type 0 where
  pub waits : waiting u k + d ≡ waiting t k
  pub whole : minus (place u k waiting_at) ≤ minus (place t k waiting_at)
  pub moved : (p : ℕ) → request_length * d + p < queue_length → place u k (queue_at + p) ≡ place t k (queue_at + (request_length * d + p))
  pub freed : (p : ℕ) → p < queue_length → queue_length ≤ request_length * d + p → place u k (queue_at + p) ≡ pos 0

pub same_shifted : (t u : List ℤ) (k : ℕ) → place u k waiting_at ≡ place t k waiting_at → ((p : ℕ) → p < queue_length → place u k (queue_at + p) ≡ place t k (queue_at + p)) → Shifted t u k 0
unfolding waiting
same_shifted t u k waits queue =
    record {
      waits = omega (arith, ap plus waits);
      whole = omega (arith, ap minus waits);
      moved = λ p h. queue p (omega arith) ∙ ap (place t k) (omega arith);
      freed = λ p h l. absurd (omega arith);
    }

pub only_shifted : (t u : List ℤ) → OnlyBalances t u → (k : ℕ) → Shifted t u k 0
only_shifted t u f k =
    same_shifted t u k (f.others k waiting_at (omega arith) (λ e. omega arith)) (λ p h. f.others k (queue_at + p) (omega arith) (λ e. omega arith))

pub shifted_trans : (t u v : List ℤ) (k d e : ℕ) → Shifted t u k d → Shifted u v k e → Shifted t v k (d + e)
shifted_trans t u v k d e f g =
    record {
      waits = omega (arith, f.waits, g.waits);
      whole = omega (arith, f.whole, g.whole);
      moved = λ p h. g.moved p (omega arith) ∙ f.moved (request_length * e + p) (omega arith) ∙ ap (place t k) (omega arith);
      freed = λ p hp h.
          elim (dec_lt (request_length * e + p) queue_length) [ yes l ↦ g.moved p l ∙ f.freed (request_length * e + p) l (omega arith) | no l ↦ g.freed p hp (omega arith) ];
    }

module _ (t u : List ℤ) (k d : ℕ) (f : Shifted t u k d) where
  pub shifted_request : (i p : ℕ) → p < request_length → d + i < most_waiting → place u k (queue_place i + p) ≡ place t k (queue_place (d + i) + p)
  shifted_request i p hp h = ap (place u k) (omega arith) ∙ f.moved (request_length * i + p) (omega arith) ∙ ap (place t k) (omega arith)

  pub shifted_size : (i : ℕ) → d + i < most_waiting → size u k i ≡ size t k (d + i)
  unfolding size
  shifted_size i h = ap plus (shifted_request i size_at (omega arith) h)

  pub shifted_arrival : (i : ℕ) → d + i < most_waiting → arrival u k i ≡ arrival t k (d + i)
  unfolding arrival
  shifted_arrival i h = ap plus (shifted_request i arrival_at (omega arith) h)

module _ (tree : Tree) (n : ℕ) (t u : List ℤ) (d : ℕ → ℕ) (f : (k : ℕ) → k < nodes → Shifted t u k (d k)) (q : Queues tree n t) where
  -- A request that waits now waited before, and had a place.
  waited : (k i : ℕ) → k < nodes → i < waiting u k → (d k + i < waiting t k) × (d k + i < most_waiting)
  unfolding waiting
  waited k i hk h = omega (arith, zarith, f k hk, q.few k hk)

  pub queues_shifted : Queues tree n u
  unfolding waiting
  queues_shifted =
      record {
        few = λ k hk. omega (arith, zarith, f k hk, q.few k hk);
        idle = λ k hk e. omega (arith, f k hk, q.idle k hk e);
        spare = λ k hk p hp low.
            elim (dec_lt (request_length * d k + p) queue_length)
            [ yes l ↦ (f k hk).moved p l ∙ q.spare k hk (request_length * d k + p) l (omega (arith, f k hk)) | no l ↦ (f k hk).freed p hp (omega arith) ];
        size = λ k hk i hi.
            rw (shifted_request t u k (d k) (f k hk) i size_at (omega arith) (waited k i hk hi).1) (q.size k hk (d k + i) (waited k i hk hi).0);
        number = λ k hk i hi.
            rw (shifted_request t u k (d k) (f k hk) i arrival_at (omega arith) (waited k i hk hi).1) (q.number k hk (d k + i) (waited k i hk hi).0);
        rising = λ k hk i hi.
            omega (
              arith,
              shifted_arrival t u k (d k) (f k hk) i (waited k i hk (omega arith)).1,
              shifted_arrival t u k (d k) (f k hk) (suc i) (waited k (suc i) hk hi).1,
              ap (arrival t k) (add-suc (d k) i),
              q.rising k hk (d k + i) (omega (arith, waited k (suc i) hk hi)),
            );
        differ = λ k hk i hi j hj l hl e.
            let lower : j < nodes = omega arith in
            q.differ k hk (d k + i) (waited k i hk hi).0 j hj (d j + l) (waited j l lower hl).0
            (sym (shifted_arrival t u k (d k) (f k hk) i (waited k i hk hi).1) ∙ e ∙ shifted_arrival t u j (d j) (f j lower) l (waited j l lower hl).1);
      }
