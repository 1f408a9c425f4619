-- What a tick leaves alone: the table's length, its header, and of each record the places of the tree, the rate, the port and
-- the spare places. It changes balances, waiting counts and waiting places only.
use Prim.Native.Nat.{ℕ, ◌+◌, ◌*◌, ◌-◌, ◌<◌}
use mathlib.Core.Path.{◌≡◌, refl, ap, ◌∙◌, subst}
use mathlib.Core.List.{List}
use native.Mathlib.Omega.{arith}
use native.Mathlib.Decide.{dec_lt, ℕ_discrete}
use lib.ListN.{length}
use lib.IntN.{ℤ}
use Rattle.numbers.specs.Whole.{plus}
use Rattle.definitions.specs.Limits.{header_length, record_length, depth_at, rate_at, balance_at, waiting_at, port_at, queue_at, queue_length, grain_scale}
use Rattle.definitions.specs.Places.{place, put, header, count, rate, port, depth_grains}
use Rattle.definitions.specs.Tree.{tree_of}
use Rattle.definitions.proofs.Places.{length_put, header_put, place_put_place}
use Rattle.treelaws.proofs.Renewed.{same_tree_law}

-- The places of a record by what they hold: tree and rate, balance, waiting count, port and spare places, waiting places.
pub by_place {ℓ} : (P : ℕ → Type ℓ) → ((p : ℕ) → p < balance_at → P p) → P balance_at → P waiting_at → ((p : ℕ) → waiting_at < p → p < queue_at → P p) → ((p : ℕ) → p < queue_length → P (queue_at + p)) → (p : ℕ) → p < record_length → P p
by_place P early balance waits later queue p hp =
    elim (dec_lt p balance_at) [
      | yes l ↦ early p l
      | no l ↦ elim (ℕ_discrete p balance_at) [
        | yes e ↦ rw e balance
        | no e ↦ elim (ℕ_discrete p waiting_at) [
          | yes d ↦ rw d waits
          | no d ↦ elim (dec_lt p queue_at) [
            | yes m ↦ later p (omega arith) m
            | no m ↦ subst P (omega arith) (queue (p - queue_at) (omega arith))
          ]
        ]
      ]
    ]

pub record Frame (t u : List ℤ) : Type 0 where
  pub long : length u ≡ length t
  pub heading : (q : ℕ) → q < header_length → header u q ≡ header t q
  pub early : (k p : ℕ) → p < balance_at → place u k p ≡ place t k p
  pub later : (k p : ℕ) → waiting_at < p → p < queue_at → place u k p ≡ place t k p

pub frame_refl : (t : List ℤ) → Frame t t
frame_refl t = record { long = refl; heading = λ q h. refl; early = λ k p h. refl; later = λ k p low h. refl }

pub frame_trans : {t u v : List ℤ} → Frame t u → Frame u v → Frame t v
frame_trans f g =
    record {
      long = g.long ∙ f.long;
      heading = λ q h. g.heading q h ∙ f.heading q h;
      early = λ k p h. g.early k p h ∙ f.early k p h;
      later = λ k p low h. g.later k p low h ∙ f.later k p low h;
    }

-- Nothing but balances is changed.
pub record OnlyBalances (t u : List ℤ) : Type 0 where
  pub long : length u ≡ length t
  pub heading : (q : ℕ) → q < header_length → header u q ≡ header t q
  pub others : (k p : ℕ) → p < record_length → (p ≡ balance_at → ⊥) → place u k p ≡ place t k p

pub only_refl : (t : List ℤ) → OnlyBalances t t
only_refl t = record { long = refl; heading = λ q h. refl; others = λ k p h ne. refl }

pub only_trans : {t u v : List ℤ} → OnlyBalances t u → OnlyBalances u v → OnlyBalances t v
only_trans f g =
    record {
      long = g.long ∙ f.long;
      heading = λ q h. g.heading q h ∙ f.heading q h;
      others = λ k p h ne. g.others k p h ne ∙ f.others k p h ne;
    }

pub only_put : (t : List ℤ) (k : ℕ) (v : ℤ) → OnlyBalances t (put t k balance_at v)
only_put t k v =
    record {
      long = length_put t k balance_at v;
      heading = λ q h. header_put t k balance_at v q h;
      others = λ j p h ne. place_put_place t k balance_at v j p (omega arith) h ne;
    }

pub only_frame : {t u : List ℤ} → OnlyBalances t u → Frame t u
only_frame f =
    record {
      long = f.long;
      heading = f.heading;
      early = λ k p h. f.others k p (omega arith) (λ e. omega arith);
      later = λ k p low h. f.others k p (omega arith) (λ e. omega arith);
    }

pub frame_tree : (t u : List ℤ) → Frame t u → tree_of u ≡ tree_of t
frame_tree t u f = same_tree_law u t (λ k p h. f.early k p (omega arith))

pub frame_rate : (t u : List ℤ) → Frame t u → (k : ℕ) → rate u k ≡ rate t k
unfolding rate
frame_rate t u f k = ap plus (f.early k rate_at (omega arith))

pub frame_port : (t u : List ℤ) → Frame t u → (k : ℕ) → port u k ≡ port t k
unfolding port
frame_port t u f k = ap plus (f.later k port_at (omega arith) (omega arith))

pub frame_depth : (t u : List ℤ) → Frame t u → (k : ℕ) → depth_grains u k ≡ depth_grains t k
unfolding depth_grains
frame_depth t u f k = rw (f.early k depth_at (omega arith))

pub frame_grains : (t u : List ℤ) → Frame t u → (k : ℕ) → depth_grains u k ≡ (tree_of t).depth k * grain_scale
unfolding depth_grains tree_of
frame_grains t u f k = frame_depth t u f k

pub frame_count : (t u : List ℤ) → Frame t u → count u ≡ count t
unfolding count
frame_count t u f = ap plus (f.heading 0 (omega arith))
