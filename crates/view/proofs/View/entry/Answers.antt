-- What stands in the entry.
use Rattle.std.proofs.Common.{ℕ, ◌+◌, ap, ◌∙◌, arith}
use Rattle.planformat.specs.declared.Edition.{Edition}
use Rattle.planformat.specs.Bytes.{byte_at}
use Rattle.planformat.specs.Format.{entry_parent_at, entry_at, entry_in}
use Rattle.view.proofs.Viewed.{within}
use Rattle.view.proofs.View.entry.Goals as goal

pub entry_at-at-requires : goal.entry_at-at-requires
entry_at-at-requires c = omega (arith, (within _ _ _ c.args.i c.args.self.views c.requires).few)

pub byte-number-requires : goal.byte-number-requires
byte-number-requires c = omega (arith, (within _ _ _ c.args.i c.args.self.views c.requires).room, c.entry_at-at.ensures)

pub byte-parent-requires : goal.byte-parent-requires
byte-parent-requires c = omega (arith, (within _ _ _ c.args.i c.args.self.views c.requires).room, c.entry_at-at.ensures)

pub overflow_add-at : goal.overflow_add-at
overflow_add-at c = omega (arith, (within _ _ _ c.args.i c.args.self.views c.requires).low, c.entry_at-at.ensures)

pub returns-clause-told : goal.returns-clause-told
unfolding entry_in
returns-clause-told c =
    let s = c.args.self.bytes.now in
    let at = c.entry_at-at.ensures ∙ ap (λ (e : Edition). entry_at e c.args.i) c.args.self.views.edition in
    record {
      node = c.byte-number.ensures.byte ∙ ap (byte_at s) at;
      parent = c.byte-parent.ensures.byte ∙ ap (λ (a : ℕ). byte_at s (a + entry_parent_at)) at;
    }
