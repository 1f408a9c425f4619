use Rattle.std.proofs.Common.{ap₂, sym, ◌∙◌, arith, eqb-true}
use Rattle.std.proofs.lemmas.Bool.{eqb-false}
use Rattle.numbers.proofs.Parts.{zarith}
use Rattle.definitions.specs.Limits.{class}
use Rattle.definitions.specs.Tree.{tree_of, is_class}
use Rattle.planformat.specs.Kinds.{kind_of}
use Rattle.planformat.specs.Nodes.{held_by, sort_in, kind_in}
use Rattle.listing.proofs.Members.{standing_limits}
use Rattle.listing.proofs.sort_at.Goals as goal

pub returns-then-is_class-clause-kind : goal.returns-then-is_class-clause-kind
unfolding held_by sort_in kind_in tree_of is_class
returns-then-is_class-clause-kind c =
    ap₂ kind_of (sym (eqb-true _ class (sym c.is_class.ensures ∙ c.if-is_class.true))) c.share_at-share.ensures.kind

pub returns-else-is_class-clause-kind : goal.returns-else-is_class-clause-kind
unfolding held_by sort_in kind_in tree_of is_class
returns-else-is_class-clause-kind c =
    let other = eqb-false _ class (sym c.is_class.ensures ∙ c.if-is_class.false) in
    ap₂ kind_of (omega (arith, zarith, (standing_limits _ _ c.requires).sort)) c.share_at-share.ensures.kind
