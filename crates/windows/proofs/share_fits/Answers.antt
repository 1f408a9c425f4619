use Rattle.std.proofs.Common.{◌∙◌, rules}
use mir.Syntax.{w64}
use mir.Val.{SFits}
use mir.ValLaws.{to_z-of_z}
use Rattle.definitions.specs.Tree.{tree_of}
use Rattle.hourlaws.specs.Windows.{window_number, share_fits}
use Rattle.windows.proofs.share_fits.Goals as goal

pub returns : goal.returns
unfolding share_fits window_number tree_of
returns c =
    let fits : SFits w64 c.args.window.share = search rules in
    rw (to_z-of_z w64 _ fits) at c.within.ensures ∙ cc
