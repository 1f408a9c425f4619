-- What a caller sees of controllers that break their promise, each just beyond one claim of demand 3: a tick that lists nothing, one
-- that dispatches too much, and one that charges a class too much. Document 01, "Slips that the paper itself invites", and document 02,
-- (g). A request here asks for one token, which costs 8: a rate of 8000 is one request a tick, a depth of 8 is one request.
use Rattle.std.specs.Prelude.{ℕ, zero, suc, List, [], ◌∷◌, ◌++◌, ℤ, pos}
use Rattle.definitions.specs.Limits.{root, last_node, class, client, weighted, most_waiting, first_port, second_port}
use Rattle.definitions.specs.Refusals.{Outcome, accepted, refused}
use Rattle.runs.specs.Runs.{Call, join, leave, change_share, request, tick, Event}
use Rattle.bounds.specs.Observer.{Observer, start, observed_all}

-- A call without lists and its answer.
unfoldable pub plain_event : Call → Outcome → Event
plain_event call answer = record { call = call; answer = answer; first = []; second = [] }

-- A node joins with weight 1 and depth 8, on a port.
unfoldable pub joins : (node parent sort port : ℕ) → Event
joins node parent sort port =
    plain_event (join (pos node) (pos parent) (pos sort) (pos weighted) (pos 1) (pos 8) (pos port)) (accepted (pos 0 ∷ []))

-- A client asks n times; nobody has asked before.
unfoldable pub asks : (node n : ℕ) → List Event
asks node zero = []
asks node (suc n) = asks node n ++ plain_event (request (pos node) (pos 0) (pos 1)) (accepted (pos (suc n) ∷ [])) ∷ []

-- Entries of n dispatches of a client's requests that name a supplier.
unfoldable pub entries_of : (node supplier n : ℕ) → List ℤ
entries_of node supplier zero = []
entries_of node supplier (suc n) = pos node ∷ pos 0 ∷ pos 1 ∷ pos supplier ∷ entries_of node supplier n

-- A tick that is lent two lists with room for all that wait, and answers that so many were dispatched to each port. The lists hold
-- such entries before and after it.
unfoldable pub dispatches : (node supplier first second : ℕ) → Event
dispatches node supplier first second =
    record {
      call = tick (entries_of node supplier most_waiting) (entries_of node supplier most_waiting);
      answer = accepted (pos first ∷ pos second ∷ []);
      first = entries_of node supplier most_waiting;
      second = entries_of node supplier most_waiting;
    }

-- The fakes by name.
pub data Fake : Type 0 where
  -- One tick lists nothing, although requests wait.
  lists_nothing : Fake
  -- The last client asks in the stretch, and one tick lists nothing.
  overlooks_new : Fake
  -- One tick dispatches seven requests, to the first port or to the second. The entries name as supplier node 2, which is not there.
  seven_to_first seven_to_second : Fake
  -- One tick dispatches seven requests to both ports that name class 3, in class 1, as supplier: too much for class 3, and for class 1
  -- above it. Before it a leave of the one or the other is refused, and its share is changed.
  low_class_overdrawn high_class_overdrawn : Fake

-- Client 1 joins on a port, and asks as often as may wait.
unfoldable pub busy : ℕ → List Event
busy port = joins 1 root client port ∷ asks 1 most_waiting

-- Class 1 joins, class 3 in it and client 2 in that, which asks as often as may wait.
unfoldable pub in_classes : List Event
in_classes = joins 1 root class first_port ∷ joins 3 1 class first_port ∷ joins 2 3 client first_port ∷ asks 2 most_waiting

-- What the observer knows before the stretch.
unfoldable pub observer_of : Fake → Observer
observer_of lists_nothing = observed_all (start (pos 8000) (pos 8)) (busy first_port)
observer_of overlooks_new = observed_all (start (pos 8000) (pos 8)) (joins last_node root client first_port ∷ [])
observer_of seven_to_first = observed_all (start (pos 8000) (pos 8)) (busy first_port)
observer_of seven_to_second = observed_all (start (pos 8000) (pos 8)) (busy second_port)
observer_of low_class_overdrawn = observed_all (start (pos 8000) (pos 40)) in_classes
observer_of high_class_overdrawn = observed_all (start (pos 8000) (pos 40)) in_classes

-- A leave of class c that is refused, a change of its share, and a tick that dispatches seven requests of client 2 from class 3.
unfoldable pub overdrawn : ℕ → List Event
overdrawn c =
    plain_event (leave (pos c)) (refused 9)
    ∷ plain_event (change_share (pos c) (pos weighted) (pos 2)) (accepted (pos 0 ∷ []))
    ∷ dispatches 2 3 4 3
    ∷ []

-- The stretch.
unfoldable pub stretch_of : Fake → List Event
stretch_of lists_nothing = dispatches 1 2 0 0 ∷ []
stretch_of overlooks_new = asks last_node 1 ++ dispatches last_node 2 0 0 ∷ []
stretch_of seven_to_first = dispatches 1 2 7 0 ∷ []
stretch_of seven_to_second = dispatches 1 2 0 7 ∷ []
stretch_of low_class_overdrawn = overdrawn 3
stretch_of high_class_overdrawn = overdrawn 1
