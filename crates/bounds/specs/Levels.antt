-- A sharper claim on classes than demand 3's, by the class's level: a class has at most one depth saved when the stretch begins, and at
-- level l it owes at most 4 - l depths when it ends. So the disk, at level 0, exceeds its rates by at most five depths, a class at level
-- 3 by at most two.
use Rattle.std.specs.Prelude.{ℕ, suc, ◌+◌, ◌*◌, ◌-◌, ◌≤◌, ◌≡◌, true, List, ℤ}
use Rattle.definitions.specs.Limits.{last_level, grain_scale}
use Rattle.definitions.specs.Tree.{is_class}
use Rattle.definitions.specs.Calls.{open_refusal, open_table}
use Rattle.runs.specs.Runs.{Call, Event, events, table_after_all}
use Rattle.bounds.specs.Observer.{Observer, start, observed_all}
use Rattle.bounds.specs.Counts.{rates_over, charged_over, stays_throughout}

-- A class joined throughout: what is charged to it is at most its rates and five, less its level, of its depths.
unfoldable pub LevelBounds : Observer → List Event → Type 0
LevelBounds o stretch =
    (c : ℕ) → is_class o.tree c ≡ true → stays_throughout c stretch ≡ true
    → charged_over o c stretch ≤ rates_over o c stretch + suc (last_level - o.tree.level c) * (o.tree.depth c * grain_scale)

-- Over every list of calls and every stretch of it, as demand 3.
unfoldable pub ByLevel : Type 0
ByLevel =
    (t : List ℤ) (rate depth : ℤ) (before stretch : List Call) → open_refusal t rate depth ≡ 0
    → LevelBounds (observed_all (start rate depth) (events (open_table t rate depth) before))
    (events (table_after_all (open_table t rate depth) before) stretch)
