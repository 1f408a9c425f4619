-- Three writes.
use Rattle.std.proofs.Common.{◌+◌, refl}
use mir.Facts.{to_z-of_z}
use Rattle.definitions.specs.Limits.{tag_at, size_at, arrival_at}
use Rattle.definitions.specs.Places.{queue_place}
use Rattle.definitions.proofs.Places.{put_then}
use Rattle.requesting.proofs.write_place.Goals as goal

pub returns : goal.returns
returns c =
    let place = queue_place c.args.i in
    put_then c.args.k (place + arrival_at) c.put_natural.ensures refl
    (put_then c.args.k (place + size_at) c.put-2.ensures (to_z-of_z c.ranges.size)
    (put_then c.args.k (place + tag_at) c.put.ensures (to_z-of_z c.ranges.tag) refl))
