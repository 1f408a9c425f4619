-- Taking out the oldest request of a client: the requests behind it move up by one place, the last place is freed, and
-- nothing else but the waiting count is changed. Each of the two loops writes a run of places of one record, of which no
-- value depends on a place written before it.
use Prim.Native.Nat.{ℕ, suc, ◌+◌, ◌-◌, ◌≤◌, ◌<◌}
use mathlib.Core.Path.{◌≡◌, refl, ap, ◌∙◌}
use mathlib.Core.List.{List}
use native.Mathlib.Omega.{arith}
use lib.ListN.{length}
use lib.IntN.{ℤ, pos}
use Rattle.numbers.specs.Whole.{plus, minus}
use Rattle.numbers.specs.Below.{for_below}
use Rattle.numbers.proofs.Parts.{plus_pos, minus_pos}
use Rattle.numbers.proofs.All.{below_cases}
use Rattle.numbers.proofs.Steps.{for_reaches}
use Rattle.definitions.specs.Limits.{table_length, header_length, record_length, nodes, balance_at, waiting_at, queue_at, queue_length, request_length}
use Rattle.definitions.specs.Places.{place, put, header, balance, waiting}
use Rattle.definitions.specs.Tick.{taken_out}
use Rattle.definitions.proofs.Places.{length_put, header_put, place_put_same, place_put_node, place_put_place}
use Rattle.ticklaws.proofs.Frame.{Frame}
use Rattle.ticklaws.proofs.Queues.{Shifted, same_shifted}

-- The n places from b on of record k are written, with w.
record Run (t : List ℤ) (k b : ℕ) (w : ℕ → ℤ) (n : ℕ) (u : List ℤ) : Type 0 where
  long : length u ≡ length t
  heading : (q : ℕ) → q < header_length → header u q ≡ header t q
  other : (j p : ℕ) → p < record_length → (j ≡ k → ⊥) → place u j p ≡ place t j p
  before : (j p : ℕ) → p < b → place u j p ≡ place t j p
  after : (j p : ℕ) → p < record_length → b + n ≤ p → place u j p ≡ place t j p
  written : (p : ℕ) → p < n → place u k (b + p) ≡ w p

module _ (t : List ℤ) (n : length t ≡ table_length) (k : ℕ) (hk : k < nodes) (b : ℕ) (w : ℕ → ℤ) where
  run_next : (m : ℕ) (u : List ℤ) (v : ℤ) → b + m < record_length → v ≡ w m → Run t k b w m u → Run t k b w (suc m) (put u k (b + m) v)
  run_next m u v h e r =
      record {
        long = length_put u k (b + m) v ∙ r.long;
        heading = λ q hq. header_put u k (b + m) v q hq ∙ r.heading q hq;
        other = λ j p hp ne. place_put_node u k (b + m) v j p h hp ne ∙ r.other j p hp ne;
        before = λ j p hp. place_put_place u k (b + m) v j p h (omega arith) (λ d. omega arith) ∙ r.before j p hp;
        after = λ j p hp l. place_put_place u k (b + m) v j p h hp (λ d. omega arith) ∙ r.after j p hp (omega arith);
        written = λ p hp.
            below_cases m p hp
            (λ l. place_put_place u k (b + m) v k (b + p) h (omega arith) (λ d. omega arith) ∙ r.written p l)
            (λ d. rw d (place_put_same u k (b + m) v (r.long ∙ n) hk h ∙ e));
      }

  run : (m : ℕ) (v : ℕ → List ℤ → ℤ) → b + m ≤ record_length → ((p : ℕ) (u : List ℤ) → p < m → Run t k b w p u → v p u ≡ w p) → Run t k b w m (for_below m (λ p u. put u k (b + p) (v p u)) t)
  run m v h each =
      for_reaches (Run t k b w) m (λ p u. put u k (b + p) (v p u))
      (λ p u hp r. run_next p u (v p u) (omega arith) (each p u hp r) r)
      t
      (record {
        long = refl;
        heading = λ q hq. refl;
        other = λ j p hp ne. refl;
        before = λ j p hp. refl;
        after = λ j p hp l. refl;
        written = λ p hp. absurd (omega arith);
      })

-- The requests moved up, and then the last place freed.
moved : List ℤ → ℕ → List ℤ
moved t k = for_below (queue_length - request_length) (λ p u. put u k (queue_at + p) (place u k (queue_at + request_length + p))) t

freed : List ℤ → ℕ → List ℤ
freed t k = for_below request_length (λ p u. put u k (queue_at + (queue_length - request_length) + p) (pos 0)) (moved t k)

taken : (t : List ℤ) (k : ℕ) → taken_out t k ≡ put (freed t k) k waiting_at (pos (waiting t k - 1))
unfolding taken_out freed moved
taken t k = refl

module _ (t : List ℤ) (n : length t ≡ table_length) (k : ℕ) (hk : k < nodes) where
  moved_run : Run t k queue_at (λ p. place t k (queue_at + request_length + p)) (queue_length - request_length) (moved t k)
  unfolding moved
  moved_run =
      run t n k hk queue_at (λ p. place t k (queue_at + request_length + p)) (queue_length - request_length) (λ p u. place u k (queue_at + request_length + p)) (omega arith)
      (λ p u hp r. r.after k (queue_at + request_length + p) (omega arith) (omega arith))

  freed_run : Run (moved t k) k (queue_at + (queue_length - request_length)) (λ p. pos 0) request_length (freed t k)
  unfolding freed
  freed_run = run (moved t k) (moved_run.long ∙ n) k hk (queue_at + (queue_length - request_length)) (λ p. pos 0) request_length (λ p u. pos 0) (omega arith) (λ p u hp r. refl)

  -- Places before the waiting places, but for the waiting count.
  taken_before : (j p : ℕ) → p < queue_at → (p ≡ waiting_at → ⊥) → place (taken_out t k) j p ≡ place t j p
  taken_before j p hp ne =
      rw (taken t k)
      (place_put_place (freed t k) k waiting_at (pos (waiting t k - 1)) j p (omega arith) (omega arith) ne
      ∙ freed_run.before j p (omega arith)
      ∙ moved_run.before j p hp)

  -- Places of other nodes.
  taken_node : (j p : ℕ) → p < record_length → (j ≡ k → ⊥) → place (taken_out t k) j p ≡ place t j p
  taken_node j p hp ne =
      rw (taken t k)
      (place_put_node (freed t k) k waiting_at (pos (waiting t k - 1)) j p (omega arith) hp ne
      ∙ freed_run.other j p hp ne
      ∙ moved_run.other j p hp ne)

  -- The waiting places themselves.
  taken_queue : (p : ℕ) → p < queue_length → place (taken_out t k) k (queue_at + p) ≡ place (freed t k) k (queue_at + p)
  taken_queue p hp =
      rw (taken t k) (place_put_place (freed t k) k waiting_at (pos (waiting t k - 1)) k (queue_at + p) (omega arith) (omega arith) (λ d. omega arith))

  taken_waits : place (taken_out t k) k waiting_at ≡ pos (waiting t k - 1)
  taken_waits = rw (taken t k) (place_put_same (freed t k) k waiting_at (pos (waiting t k - 1)) (freed_run.long ∙ moved_run.long ∙ n) hk (omega arith))

  pub taken_frame : Frame t (taken_out t k)
  taken_frame =
      record {
        long = rw (taken t k) (length_put (freed t k) k waiting_at (pos (waiting t k - 1)) ∙ freed_run.long ∙ moved_run.long);
        heading = λ q hq. rw (taken t k) (header_put (freed t k) k waiting_at (pos (waiting t k - 1)) q hq ∙ freed_run.heading q hq ∙ moved_run.heading q hq);
        early = λ j p hp. taken_before j p (omega arith) (λ d. omega arith);
        later = λ j p low hp. taken_before j p (omega arith) (λ d. omega arith);
      }

  pub taken_balance : (j : ℕ) → balance (taken_out t k) j ≡ balance t j
  unfolding balance
  taken_balance j = taken_before j balance_at (omega arith) (λ d. omega arith)

  pub taken_own : 0 < waiting t k → Shifted t (taken_out t k) k 1
  unfolding waiting
  taken_own h =
      record {
        waits = omega (arith, ap plus taken_waits, plus_pos (waiting t k - 1));
        whole = omega (arith, ap minus taken_waits, minus_pos (waiting t k - 1));
        moved = λ p hp.
            taken_queue p (omega arith)
            ∙ freed_run.before k (queue_at + p) (omega arith)
            ∙ moved_run.written p (omega arith)
            ∙ ap (place t k) (omega arith);
        freed = λ p hp l.
            taken_queue p hp ∙ ap (place (freed t k) k) (omega arith) ∙ freed_run.written (p - (queue_length - request_length)) (omega arith);
      }

  pub taken_other : (j : ℕ) → (j ≡ k → ⊥) → Shifted t (taken_out t k) j 0
  taken_other j ne = same_shifted t (taken_out t k) j (taken_node j waiting_at (omega arith) ne) (λ p hp. taken_node j (queue_at + p) (omega arith) ne)
