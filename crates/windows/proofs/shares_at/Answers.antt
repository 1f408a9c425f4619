use Rattle.std.proofs.Common.{◌≡◌, refl, sym, ap, ◌∙◌, ℕ, arith}
use Rattle.definitions.specs.Tree.{tree_of}
use Rattle.hourlaws.specs.Windows.{window_count, window_share, value_by, share_in}
use Rattle.hourlaws.proofs.Values.{value_none, value_grows}
use Rattle.windows.proofs.Written.{share_alone}
use Rattle.windows.proofs.shares_at.Goals as goal

pub loop-i-init : goal.loop-i-init
loop-i-init c = λ k hk. c.plan_shares.ensures k hk ∙ sym (value_none _ _ k _ _)

pub loop-i-preserved : goal.loop-i-preserved
loop-i-preserved c = λ k hk.
    c.share_by.ensures k hk
    ∙ share_alone c.args.windows.now c.loop-i.i c.at.result c.at.ensures.node c.at.ensures.start c.at.ensures.end c.at.ensures.share k c.args.m _
    ∙ value_grows c.args.windows.now (window_share c.args.windows.now) k c.args.m _ c.loop-i.i _ _ refl (c.loop-i.invariant k hk)

pub returns : goal.returns
unfolding share_in
returns c =
    let ws = c.args.windows.now in
    let end : c.loop-i.i ≡ window_count ws = omega arith in
    λ k hk. c.loop-i.invariant k hk ∙ ap (λ (n : ℕ). value_by ws (window_share ws) n k c.args.m ((tree_of c.args.plan.now).share k)) end
