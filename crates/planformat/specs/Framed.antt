-- What the functions over plan bytes ask of them before they read an entry.
use Rattle.std.specs.Prelude.{ℕ, ◌≤◌, ◌≡◌, List, length}
use Rattle.planformat.specs.declared.Edition.{Edition}
use Rattle.planformat.specs.Format.{last_count, plan_length, edition_in, count_in}

-- The bytes s are of edition e and have n entries, as far as mark, count and length tell.
pub record Framed (s : List ℕ) (e : Edition) (n : ℕ) : Type 0 where
  pub edition : e ≡ edition_in s
  pub counted : n ≡ count_in s
  pub few : n ≤ last_count
  pub long : length s ≡ plan_length e n
