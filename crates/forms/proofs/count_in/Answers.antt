use Rattle.std.proofs.Common.{ℕ, ◌+◌, ap, ◌∙◌}
use Rattle.planformat.specs.Bytes.{byte_at}
use Rattle.planformat.specs.Format.{start_of, count_at, count_in}
use Rattle.forms.proofs.count_in.Goals as goal

pub returns : goal.returns
unfolding count_in
returns c =
    c.byte.ensures.byte ∙ ap (λ (n : ℕ). byte_at c.args.s.now (n + count_at)) (c.start_of.ensures.start ∙ ap start_of c.requires.0)
