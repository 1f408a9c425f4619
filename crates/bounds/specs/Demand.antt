-- Demand 3: over every list of calls from a freshly opened table, and every stretch of it, a waiting client never falls
-- below its reservation, and disk and classes never exceed theirs by more than five depths.
use Rattle.std.specs.Prelude.{ℕ, ◌+◌, ◌*◌, ◌≤◌, ◌<◌, ◌≡◌, true, List, ℤ}
use Rattle.definitions.specs.Limits.{root, grain_scale}
use Rattle.definitions.specs.Tree.{is_class, is_client}
use Rattle.definitions.specs.Calls.{open_refusal, open_table}
use Rattle.runs.specs.Runs.{Call, Event, events, table_after_all}
use Rattle.bounds.specs.Observer.{Observer, start, observed_all}
use Rattle.bounds.specs.Counts.{rates_over, grains_over, dispatched_over, charged_over, waits_throughout, stays_throughout}

-- The three claims about a stretch of events, for the observer before it. A depth in grains is depth x 1000.
pub record Bounds (o : Observer) (stretch : List Event) : Type 0 where
  -- A client joined at the stretch's end that has a request waiting after each of its calls: it receives more than its
  -- rates less one depth.
  pub clients :
      (k : ℕ) → is_client (observed_all o stretch).tree k ≡ true → waits_throughout o k stretch ≡ true
      → rates_over o k stretch < dispatched_over k stretch + (observed_all o stretch).tree.depth k * grain_scale
  -- The disk: all grains dispatched in the stretch are at most its rates and five root depths.
  pub disk : grains_over stretch ≤ rates_over o root stretch + 5 * (o.tree.depth root * grain_scale)
  -- A class joined throughout: what is charged to it is at most its rates and five of its depths.
  pub classes :
      (c : ℕ) → is_class o.tree c ≡ true → stays_throughout c stretch ≡ true
      → charged_over o c stretch ≤ rates_over o c stretch + 5 * (o.tree.depth c * grain_scale)

-- The whole claim: for the lent contents t before an accepted open with any arguments, any calls before the stretch and
-- any calls of it.
unfoldable pub Demand3 : Type 0
Demand3 =
    (t : List ℤ) (rate depth : ℤ) (before stretch : List Call) → open_refusal t rate depth ≡ 0
    → Bounds (observed_all (start rate depth) (events (open_table t rate depth) before))
    (events (table_after_all (open_table t rate depth) before) stretch)
