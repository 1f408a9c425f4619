-- The requests of a load. Document 02, (d).
use Rattle.std.specs.Prelude.{ℕ, zero, suc, ◌+◌, ◌%◌, cond, List, [], ◌∷◌, ◌++◌, length, get_or, eqb, ℤ, pos}
use Rattle.definitions.specs.Limits.{nodes}
use Rattle.definitions.specs.Tree.{Tree, tree_of, is_client}
use Rattle.definitions.specs.Calls.{request_table}
use Rattle.draws.specs.Draws.{state_after, draw}

-- The clients whose numbers are below n, by rising number, and all clients.
unfoldable pub clients_below : Tree → ℕ → List ℕ
clients_below tree zero = []
clients_below tree (suc n) = clients_below tree n ++ cond (is_client tree n) (n ∷ []) []

unfoldable pub clients : List ℤ → List ℕ
clients t = clients_below (tree_of t) nodes

-- The request that three draws from a state give: the first modulo the number of clients picks the client by rising number, the
-- second modulo its depth, plus 1, is the size, the third is the tag.
unfoldable pub client_drawn : List ℤ → ℕ → ℕ
client_drawn t state = get_or (clients t) (draw 1 state % length (clients t)) 0

unfoldable pub size_drawn : List ℤ → ℕ → ℕ
size_drawn t state = draw 2 state % (tree_of t).depth (client_drawn t state) + 1

unfoldable pub tag_drawn : ℕ → ℕ
tag_drawn state = draw 3 state

-- A load under way: its table, and the state of its draws.
pub record Load : Type 0 where
  pub table : List ℤ
  pub state : ℕ

abbrev pub load_of : List ℤ → ℕ → Load
load_of t state = record { table = t; state = state }

-- A load after its next request. Where the request is refused, it is dropped: the table is as before.
unfoldable pub after_request : Load → Load
after_request load =
    load_of
    (request_table load.table (pos (client_drawn load.table load.state)) (pos (tag_drawn load.state)) (pos (size_drawn load.table load.state)))
    (state_after 3 load.state)

-- The same for every tree: one without clients gets no requests, and nothing is drawn.
unfoldable pub asked : Load → Load
asked load = cond (eqb (length (clients load.table)) 0) load (after_request load)
