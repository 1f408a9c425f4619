-- What look shows, in any table: as many numbers as `seen_length` says; of a class the lost grains that make up its rate with
-- its children's rates, of a client none. How many a class loses in a table in order is in treelaws (Lost).
use Prim.Native.Nat.{ℕ}
use mathlib.Core.Path.{◌≡◌, refl}
use mathlib.Core.Bool.{true, false}
use mathlib.Core.List.{List}
use lib.ListN.{length}
use lib.IntN.{ℤ, pos, ◌+ℤ◌}
use Rattle.numbers.proofs.Parts.{add_of_sub}
use Rattle.definitions.specs.Limits.{rate_at, seen_length}
use Rattle.definitions.specs.Places.{place, rate}
use Rattle.definitions.specs.Tree.{tree_of, is_class, child_of, sum_under}
use Rattle.definitions.specs.Refusals.{accepted}
use Rattle.definitions.specs.Calls.{lost_grains, look_refusal, look_answer}
use Rattle.definitions.proofs.Refusals.{outcome_accepted}

-- The numbers that an accepted look shows.
pub record Shown (t : List ℤ) (node : ℤ) : Type 0 where
  pub values : List ℤ
  pub answer : look_answer t node ≡ accepted values
  pub long : length values ≡ seen_length

pub look_shows : (t : List ℤ) (node : ℤ) → look_refusal t node ≡ 0 → Shown t node
unfolding look_answer
look_shows t node none = record { values = _; answer = outcome_accepted _ _ none; long = refl }

-- Both sums are computed to where they agree, so the definition may write its sum in other words.
pub class_rate_law : (t : List ℤ) (c : ℕ) → is_class (tree_of t) c ≡ true → place t c rate_at ≡ pos (sum_under (tree_of t) c (rate t)) +ℤ lost_grains t c
unfolding lost_grains sum_under child_of rate
class_rate_law t c e = rw e (add_of_sub (place t c rate_at) (pos (sum_under (tree_of t) c (rate t))))

pub client_loses : (t : List ℤ) (k : ℕ) → is_class (tree_of t) k ≡ false → lost_grains t k ≡ pos 0
unfolding lost_grains
client_loses t k e = rw e
