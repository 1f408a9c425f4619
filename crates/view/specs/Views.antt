-- What the view of a plan holds, and what it hands out of entry i and its body.
use Rattle.std.specs.Prelude.{ℕ, ◌≡◌, true, List}
use Rattle.planformat.specs.declared.Edition.{Edition}
use Rattle.planformat.specs.Format.{edition_in, count_in, entry_in, formed}
use Rattle.planformat.specs.Nodes.{share_in, held_by, kind_in}
use Rattle.view.specs.declared.Entry.{Entry}
use Rattle.view.specs.declared.Body.{Body}

-- The bytes s are a plan's, e is their edition, and n is how many entries they have.
pub record Views (s : List ℕ) (e : Edition) (n : ℕ) : Type 0 where
  pub right : formed s ≡ true
  pub edition : e ≡ edition_in s
  pub counted : n ≡ count_in s

-- e is what stands in entry i, and b what stands in its body.
pub record EntryAt (s : List ℕ) (i : ℕ) (e : Entry) : Type 0 where
  pub node : e.number ≡ (entry_in s i).node
  pub parent : e.parent ≡ (entry_in s i).parent

pub record BodyAt (s : List ℕ) (i : ℕ) (b : Body) : Type 0 where
  pub kind : kind_in b.sort ≡ (entry_in s i).kind
  pub share : share_in (held_by b.sort) ≡ (entry_in s i).share
  pub depth : b.depth ≡ (entry_in s i).depth
