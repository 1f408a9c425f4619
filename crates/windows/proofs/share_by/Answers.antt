use Rattle.std.proofs.Common.{◌≡◌, sym, ap₂, ◌∙◌, ℕ, get_or, set, arith}
use Rattle.numbers.specs.Whole.{plus}
use Rattle.hourlaws.specs.Windows.{window_number}
use Rattle.windows.specs.Alone.{alone}
use Rattle.windows.proofs.Written.{share_stays, share_given}
use Rattle.windows.proofs.share_by.Goals as goal

pub returns-then-covers : goal.returns-then-covers
unfolding window_number
returns-then-covers c =
    let ws = alone c.args.window in
    let shares = c.args.shares.now in
    let node : c.natural_node.result ≡ plus c.args.window.node = cc in
    let share : c.natural_share.result ≡ plus c.args.window.share = cc in
    λ k hk.
    ap₂ (λ (n v : ℕ). get_or (set shares n v) k 0) node share
    ∙ share_given ws 0 c.args.m shares k (omega (arith, c.told-shares)) (sym c.covers.ensures ∙ c.if-covers.true)

pub returns-else-covers : goal.returns-else-covers
unfolding window_number
returns-else-covers c = λ k hk.
    share_stays (alone c.args.window) 0 c.args.m c.args.shares.now k (sym c.covers.ensures ∙ c.if-covers.false)
