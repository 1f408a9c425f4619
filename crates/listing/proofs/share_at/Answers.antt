use Rattle.std.proofs.Common.{arith}
use Rattle.numbers.proofs.Parts.{zarith}
use Rattle.definitions.specs.Tree.{tree_of}
use Rattle.planformat.specs.Nodes.{share_kind_in}
use Rattle.listing.proofs.Members.{standing_limits}
use Rattle.listing.proofs.share_at.Goals as goal

pub returns-in_default-clause-kind : goal.returns-in_default-clause-kind
unfolding share_kind_in tree_of
returns-in_default-clause-kind c = omega (arith, zarith, (standing_limits _ _ c.requires).kind)
