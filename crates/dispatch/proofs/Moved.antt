-- The waiting places of one node: a copy of a part is a pass that moves one number each turn, and a part filled with zeros is one
-- that zeroes one number each turn.
use Prim.Native.Nat.{ℕ, zero, suc, ◌+◌, ◌*◌, ◌-◌, ◌≤◌, ◌<◌}
use mathlib.Core.Path.{◌≡◌, sym, ap, ap₂, ◌∙◌}
use mathlib.Core.List.{List}
use native.Mathlib.Omega.{arith}
use lib.ListN.{length, get_or, set, drop, replicate, length-drop}
use lib.Seq.{paste, paste-zero, paste-suc, drop-paste}
use lib.IntN.{ℤ, pos}
use borrow.Rule.Slice.PartMut.{put_mid}
use Rattle.std.proofs.lemmas.List.{get_or-drop, length-replicate}
use Rattle.std.proofs.lemmas.List.Edits.{fill_from_more}
use Rattle.std.proofs.lemmas.Slice.{put_mid-paste}
use Rattle.numbers.specs.Below.{for_below}
use Rattle.definitions.specs.Limits.{table_length, header_length, record_length, nodes, queue_at, queue_length, request_length}
use Rattle.definitions.specs.Places.{place, put}
use Rattle.dispatch.specs.Queue.{moved_up, last_cleared}

module _ (t : List ℤ) (k : ℕ) (long : length t ≡ table_length) (low : k < nodes) where
  -- Where the oldest waiting place stands in the table.
  abbrev oldest : ℕ
  oldest = header_length + record_length * k + queue_at

  moving : ℕ → List ℤ → List ℤ
  moving p u = put u k (queue_at + p) (place u k (queue_at + request_length + p))

  -- After n numbers the next is still where it was.
  next_stays : (n : ℕ) → n < queue_length - request_length → get_or (drop (oldest + request_length) t) n (pos 0) ≡ get_or (paste t oldest (drop (oldest + request_length) t) n) (header_length + record_length * k + (queue_at + request_length + n)) (pos 0)
  next_stays n h =
      let from = oldest + request_length in
      let rest : length (drop from t) ≡ length t - from = length-drop from t in
      get_or-drop from t n (pos 0)
      ∙ ap (λ i. get_or t i (pos 0)) (omega arith)
      ∙ sym (get_or-drop (oldest + n) t request_length (pos 0))
      ∙ ap (λ l. get_or l request_length (pos 0)) (sym (drop-paste t oldest (drop from t) n (omega arith) (omega arith)))
      ∙ get_or-drop (oldest + n) (paste t oldest (drop from t) n) request_length (pos 0)
      ∙ ap (λ i. get_or (paste t oldest (drop from t) n) i (pos 0)) (omega arith)

  copied : (n : ℕ) → n ≤ queue_length - request_length → paste t oldest (drop (oldest + request_length) t) n ≡ for_below n moving t
  unfolding for_below moving place put
  copied zero h = sym (paste-zero t oldest (drop (oldest + request_length) t))
  copied (suc n) h =
      let from = oldest + request_length in
      let rest : length (drop from t) ≡ length t - from = length-drop from t in
      sym (paste-suc t oldest (drop from t) n (pos 0) (omega arith) (omega arith))
      ∙ ap₂ (λ (i : ℕ) (v : ℤ). set (paste t oldest (drop from t) n) i v) (omega arith) (next_stays n (omega arith))
      ∙ ap (moving n) (copied n (omega arith))

  pub moved : (n : ℕ) → n ≡ queue_length - request_length → paste t oldest (drop (oldest + request_length) t) n ≡ moved_up t k
  unfolding moved_up moving
  moved n e = rw e (copied (queue_length - request_length) (omega arith))

  -- Where the last waiting place begins.
  abbrev last : ℕ
  last = oldest + queue_length - request_length

  zeroing : ℕ → List ℤ → List ℤ
  zeroing p u = put u k (queue_at + (queue_length - request_length) + p) (pos 0)

  filled : (n : ℕ) → n ≤ request_length → paste t last (replicate n (pos 0)) n ≡ for_below n zeroing t
  unfolding for_below zeroing put
  filled zero h = sym (paste-zero t last (replicate 0 (pos 0)))
  filled (suc n) h =
      let on : suc n ≡ n + 1 = omega arith in
      ap (λ i. paste t last (replicate i (pos 0)) i) on
      ∙ sym (fill_from_more t last n (pos 0) (omega arith))
      ∙ ap (λ i. set (paste t last (replicate n (pos 0)) n) i (pos 0)) (omega arith)
      ∙ ap (zeroing n) (filled n (omega arith))

  pub zeroed : (n m : ℕ) (ys : List ℤ) → ys ≡ replicate m (pos 0) → m ≡ request_length → n ≡ request_length → put_mid last n t ys ≡ last_cleared t k
  unfolding last_cleared zeroing
  zeroed n m ys e few size = put_mid-paste last n t ys (replicate request_length (pos 0)) request_length (rw few at e) (sym size) (length-replicate request_length (pos 0)) ∙ filled request_length (omega arith)
