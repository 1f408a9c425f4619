-- What demand 3 counts over a stretch of events that an observer o follows: rates, grains dispatched and charged, and who
-- waits or stays throughout. Document 01, "What demand 3 counts".
use Rattle.std.specs.Prelude.{ℕ, ◌+◌, Bool, true, not, cond, List, [], ◌∷◌, eqb, ltb}
use Rattle.numbers.specs.Tests.{every}
use Rattle.definitions.specs.Tree.{Tree, at_or_above}
use Rattle.definitions.specs.Rates.{rate_in}
use Rattle.definitions.specs.Tick.{grains}
use Rattle.runs.specs.Runs.{is_tick, leaves, accepts, Event}
use Rattle.bounds.specs.Observer.{Entry, entries, Observer, observed}

-- Whether an event is an accepted tick.
unfoldable pub accepted_tick : Event → Bool
accepted_tick e = every (is_tick e.call ∷ accepts e.answer ∷ [])

-- A node's rate at an event: at an accepted tick the one that the tree before it gives, else 0.
unfoldable pub rate_at : Observer → ℕ → Event → ℕ
rate_at o k e = cond (accepted_tick e) (rate_in o.tree o.disk k) 0

-- The sum of node k's rates over a stretch.
unfoldable pub rates_over : Observer → ℕ → List Event → ℕ
rates_over o k [] = 0
rates_over o k (e ∷ stretch) = rate_at o k e + rates_over (observed o e) k stretch

-- The grains that an entry counts.
unfoldable pub entry_grains : Entry → ℕ
entry_grains e = grains e.size

-- Those that it counts for client k: all of them where it is dispatched for k.
unfoldable pub grains_for_client : ℕ → Entry → ℕ
grains_for_client k e = cond (eqb e.client k) (entry_grains e) 0

-- Those that it charges to node x: all of them where x is its supplier or stands above that.
unfoldable pub grains_to_node : Tree → ℕ → Entry → ℕ
grains_to_node tree x e = cond (at_or_above tree e.supplier x) (entry_grains e) 0

-- The sum of f over entries.
unfoldable pub sum_over : (Entry → ℕ) → List Entry → ℕ
sum_over f [] = 0
sum_over f (e ∷ list) = f e + sum_over f list

-- The grains dispatched over a stretch: all of them, whatever the entries name; those for client k; those charged to node x.
unfoldable pub grains_over : List Event → ℕ
grains_over [] = 0
grains_over (e ∷ stretch) = sum_over entry_grains (entries e) + grains_over stretch

unfoldable pub dispatched_over : ℕ → List Event → ℕ
dispatched_over k [] = 0
dispatched_over k (e ∷ stretch) = sum_over (grains_for_client k) (entries e) + dispatched_over k stretch

unfoldable pub charged_over : Observer → ℕ → List Event → ℕ
charged_over o x [] = 0
charged_over o x (e ∷ stretch) = sum_over (grains_to_node o.tree x) (entries e) + charged_over (observed o e) x stretch

-- A client has a request waiting when, since its join, more requests were accepted for it than entries dispatched.
unfoldable pub waits : Observer → ℕ → Bool
waits o k = ltb (o.sent k) (o.asked k)

-- After each call of the stretch client k has a request waiting.
unfoldable pub waits_throughout : Observer → ℕ → List Event → Bool
waits_throughout o k [] = true
waits_throughout o k (e ∷ stretch) = every (waits (observed o e) k ∷ waits_throughout (observed o e) k stretch ∷ [])

-- Whether an event is an accepted leave that takes node c out.
unfoldable pub takes_out : ℕ → Event → Bool
takes_out c e = every (leaves c e.call ∷ accepts e.answer ∷ [])

-- No accepted leave of the stretch takes node c out.
unfoldable pub stays_throughout : ℕ → List Event → Bool
stays_throughout c [] = true
stays_throughout c (e ∷ stretch) = every (not (takes_out c e) ∷ stays_throughout c stretch ∷ [])
