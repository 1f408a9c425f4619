-- The body that a plan lists for a node.
use Rattle.std.specs.Prelude.{ℕ, zero, suc, ◌+◌, cond, List, [], ◌∷◌, eqb, ℤ, pos, Option, Some, None, Result, Ok, Err}
use Rattle.definitions.specs.Refusals.{Outcome, accepted, refused}
use Rattle.answers.specs.Answers.{number_of}
use Rattle.answers.specs.declared.Refusal.{Refusal}
use Rattle.answers.specs.declared.Refusal.TheVariants.{PlanWrong}
use Rattle.planformat.specs.Format.{Entry, count_in, entry_in, formed}
use Rattle.planformat.specs.Nodes.{share_in, held_by, kind_in}
use Rattle.view.specs.declared.Body.{Body}

-- The values of an entry's body: kind, share and depth.
unfoldable pub body_values : Entry → List ℤ
body_values e = pos e.kind ∷ pos e.share ∷ pos e.depth ∷ []

-- The values of the first body, of the n entries from i on, that is listed for the node; none where none is.
unfoldable pub listed_from : List ℕ → ℕ → ℕ → ℕ → List ℤ
listed_from s number i zero = []
listed_from s number i (suc n) =
    cond (eqb (entry_in s i).node number) (body_values (entry_in s i)) (listed_from s number (i + 1) n)

-- What is answered for plan bytes and a node: the refusal of a wrong plan where the bytes are not well formed.
unfoldable pub body_answer : List ℕ → ℕ → Outcome
body_answer s number = cond (formed s) (accepted (listed_from s number 0 (count_in s))) (refused (number_of PlanWrong))

-- What an answer tells: the body's values, no values where the node is not listed, the refusal for bytes that are no plan.
unfoldable pub told_found : Result (Option Body) Refusal → Outcome
told_found (Ok (Some b)) = accepted (pos (kind_in b.sort) ∷ pos (share_in (held_by b.sort)) ∷ pos b.depth ∷ [])
told_found (Ok None) = accepted []
told_found (Err why) = refused (number_of why)
