-- The node listed stands for the body.
use Rattle.std.proofs.Common.{ap, ◌∙◌}
use Rattle.planformat.specs.Nodes.{share_in}
use Rattle.listing.proofs.Members.{body_written}
use Rattle.planparts.proofs.Contents.put_body.Goals as goal

pub returns : goal.returns
returns c =
    body_written _ _ _ c.args.self.listed _ _ _ _ _ _ _ _ c.requires.0 c.node_of-node.ensures.entry (c.from.ensures ∙ c.kind_in-kind.ensures.kind)
    (c.share_in-share.ensures ∙ ap share_in c.held_by.ensures) c.body_at-at.ensures c.put_body.ensures
