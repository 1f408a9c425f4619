use Rattle.std.proofs.Common.{refl, arith}
use Rattle.definitions.specs.Tree.{tree_of}
use Rattle.planformat.specs.Nodes.{entry_by}
use Rattle.planformat.proofs.Codec.{same_entry}
use Rattle.planlaws.specs.Writing.{entry_of}
use Rattle.planlaws.proofs.Joinable.{limited_parent}
use Rattle.listing.proofs.Members.{standing_limits}
use Rattle.listing.proofs.node_of.Goals as goal

pub returns-clause-entry : goal.returns-clause-entry
unfolding entry_by entry_of tree_of
returns-clause-entry c =
    same_entry _ _ refl c.natural-parent.ensures c.sort_at-sort.ensures.kind c.sort_at-sort.ensures.share c.natural-depth.ensures

pub returns-clause-small : goal.returns-clause-small
unfolding tree_of
returns-clause-small c =
    (c.requires.small, omega (arith, limited_parent _ _ (standing_limits _ _ c.requires), c.natural-parent.ensures))
