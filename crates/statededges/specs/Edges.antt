-- The edges of document 02's request (f), stated rates, each a scenario under its words. They are part of the joint table of edges.
use Rattle.std.specs.Prelude.{suc, [], ◌∷◌, pos}
use Rattle.definitions.specs.Limits.{root, class, client, fixed, weighted, stated, whole_share, greatest_rate}
use Rattle.definitions.specs.Refusals.{refused}
use Rattle.scenarios.specs.Scenario.{Scenario, disk, join, change_share, change_rate, look, ◌gives◌, number, seen}

-- The edges by name.
pub data StatedEdge : Type 0 where
  stated_first stated_whole stated_class stated_elsewhere stated_shares : StatedEdge

unfoldable pub stated_scenario : StatedEdge → Scenario
-- Stated 300 under a disk of 1000. Alone it leaves 700 to nobody. Beside it fixed and weighted work on these 700: fixed 5000 gets
-- 350, and the weight the 350 that are left. A disk of 299 gets 16; one of 300 has nothing for the others.
stated_scenario stated_first =
    disk 1000 40 gives number 0
    ∷ join 1 root client stated 300 10 gives number 0
    ∷ look root gives seen 1000 (pos 0) 0 700
    ∷ join 2 root client fixed 5000 10 gives number 0
    ∷ join 3 root client weighted 1 10 gives number 0
    ∷ look 1 gives seen 300 (pos 0) 0 0
    ∷ look 2 gives seen 350 (pos 0) 0 0
    ∷ look 3 gives seen 350 (pos 0) 0 0
    ∷ look root gives seen 1000 (pos 0) 0 0
    ∷ change_rate 299 gives refused 16
    ∷ change_rate 300 gives number 0
    ∷ look 1 gives seen 300 (pos 0) 0 0
    ∷ look 2 gives seen 0 (pos 0) 0 0
    ∷ look 3 gives seen 0 (pos 0) 0 0
    ∷ look root gives seen 300 (pos 0) 0 0
    ∷ []
-- Stated rates of 600 and 400 are just the disk's 1000, and fixed 10,000 beside them gets 0. A grain more gets 16, at join and at
-- change share; with a grain less for the first, the second may have it.
stated_scenario stated_whole =
    disk 1000 40 gives number 0
    ∷ join 1 root client stated 600 10 gives number 0
    ∷ join 2 root client stated 401 10 gives refused 16
    ∷ join 2 root client stated 400 10 gives number 0
    ∷ change_share 2 stated 401 gives refused 16
    ∷ join 3 root client fixed whole_share 10 gives number 0
    ∷ look 2 gives seen 400 (pos 0) 0 0
    ∷ look 3 gives seen 0 (pos 0) 0 0
    ∷ look root gives seen 1000 (pos 0) 0 0
    ∷ change_share 1 stated 599 gives number 0
    ∷ change_share 2 stated 401 gives number 0
    ∷ look 2 gives seen 401 (pos 0) 0 0
    ∷ []
-- A class of stated 500 divides that among its children as any other class: fixed 4000 gets 200, weights 4 and 6 get 120 and 180,
-- whatever the disk's rate becomes.
stated_scenario stated_class =
    disk 1000 40 gives number 0
    ∷ join 1 root class stated 500 40 gives number 0
    ∷ join 2 1 client fixed 4000 10 gives number 0
    ∷ join 3 1 client weighted 4 10 gives number 0
    ∷ join 4 1 client weighted 6 10 gives number 0
    ∷ change_rate 2000 gives number 0
    ∷ look root gives seen 2000 (pos 0) 0 1500
    ∷ look 1 gives seen 500 (pos 0) 0 0
    ∷ look 2 gives seen 200 (pos 0) 0 0
    ∷ look 3 gives seen 120 (pos 0) 0 0
    ∷ look 4 gives seen 180 (pos 0) 0 0
    ∷ []
-- Stated elsewhere than under the root gets 16, at join and at change share.
stated_scenario stated_elsewhere =
    disk 1000 40 gives number 0
    ∷ join 1 root class stated 500 40 gives number 0
    ∷ join 2 1 client stated 1 10 gives refused 16
    ∷ join 2 1 client weighted 1 10 gives number 0
    ∷ change_share 2 stated 1 gives refused 16
    ∷ look 2 gives seen 500 (pos 0) 0 0
    ∷ []
-- A share of 10,001: stated under a disk of 10,000 it gets 16, under one of 10,001 it is the whole disk; fixed it gets 2. The
-- greatest rate may be stated.
stated_scenario stated_shares =
    disk whole_share 40 gives number 0
    ∷ join 1 root client stated (suc whole_share) 10 gives refused 16
    ∷ join 1 root client fixed (suc whole_share) 10 gives refused 2
    ∷ change_rate (suc whole_share) gives number 0
    ∷ join 1 root client stated (suc whole_share) 10 gives number 0
    ∷ look 1 gives seen (suc whole_share) (pos 0) 0 0
    ∷ disk greatest_rate 40 gives number 0
    ∷ join 1 root client stated greatest_rate 10 gives number 0
    ∷ look 1 gives seen greatest_rate (pos 0) 0 0
    ∷ []
