use Rattle.std.proofs.Common.{◌≡◌, refl, sym, ap, true, ℕ, leb, ltb, eq-eqb}
use Rattle.numbers.specs.Whole.{plus}
use Rattle.numbers.proofs.Every.{joined_as, same_tests, last_test}
use Rattle.hourlaws.specs.Windows.{window_number, covers}
use Rattle.windows.proofs.covers.Goals as goal

pub returns : goal.returns
unfolding covers window_number
returns c =
    let start : c.natural_start.result ≡ plus c.args.window.start = cc in
    let end : c.natural_end.result ≡ plus c.args.window.end = cc in
    joined_as
    (same_tests {a = true} (sym (eq-eqb (plus c.args.window.node) (plus c.args.window.node) refl))
    (same_tests (ap (λ (n : ℕ). leb n c.args.m) start) (last_test (ap (ltb c.args.m) end))))
