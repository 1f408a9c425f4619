use Rattle.std.proofs.Common.{refl}
use mir.Facts.{to_z-of_z}
use Rattle.definitions.specs.Limits.{kind_at, share_at}
use Rattle.definitions.specs.Calls.{reshared}
use Rattle.definitions.proofs.Places.{put_then}
use Rattle.sharing.proofs.write_share.Goals as goal

pub returns : goal.returns
unfolding reshared
returns c =
    put_then c.args.k share_at c.put-2.ensures (to_z-of_z c.ranges.share)
    (put_then c.args.k kind_at c.put.ensures (to_z-of_z c.ranges.kind) refl)
