-- Both tests together.
use Rattle.std.proofs.Common.{ℕ, ◌+◌, ap, ap₂, ◌∙◌, eqb, leb}
use Rattle.numbers.proofs.Every.{joined_as, same_tests, last_test}
use Rattle.planformat.specs.declared.Edition.{Edition}
use Rattle.planformat.specs.Bytes.{byte_at, le2}
use Rattle.planformat.specs.Format.{last_kind, entry_offset_at, entry_at, body_at, entry_in, entry_formed}
use Rattle.forms.proofs.entry_formed.Goals as goal

pub returns : goal.returns
unfolding entry_formed entry_in
returns c =
    let s = c.args.s.now in
    let i = c.args.i in
    let edition = c.requires.0.edition in
    let body = c.body_at-body.ensures ∙ ap₂ (λ (e : Edition) (n : ℕ). body_at e n i) edition c.requires.0.counted in
    let entry = c.entry_at.ensures ∙ ap (λ (e : Edition). entry_at e i) edition in
    joined_as
    (same_tests (ap₂ eqb (c.pair-offset.ensures.pair ∙ ap (λ (a : ℕ). le2 s (a + entry_offset_at)) entry) body)
    (last_test (ap₂ leb (c.byte.ensures.byte ∙ ap (byte_at s) body) (c.from.ensures ∙ c.last_kind.ensures ∙ ap last_kind edition))))
