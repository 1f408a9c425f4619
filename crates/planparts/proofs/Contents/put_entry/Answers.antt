-- The node listed stands for the entry.
use Rattle.std.proofs.Common.{arith}
use Rattle.listing.proofs.Members.{entry_written}
use Rattle.planparts.proofs.Contents.put_entry.Goals as goal

pub returns : goal.returns
returns c =
    entry_written _ _ _ c.args.self.listed _ _ _ _ _ _ _ c.requires.0 c.node_of-node.ensures.entry
    (omega (arith, c.body_at-offset.ensures)) c.entry_at-at.ensures c.put_entry.ensures
