use Rattle.std.proofs.Common.{◌≡◌, sym, ap, ◌∙◌, refl}
use Rattle.planformat.specs.declared.Edition.{Edition}
use Rattle.planformat.specs.declared.Edition.TheVariants.{Second}
use Rattle.planformat.specs.Bytes.{bytes2, bytes4}
use Rattle.planformat.specs.Format.{mark_bytes}
use Rattle.planformat.specs.Written.{written}
use Rattle.planformat.proofs.Editions.{mark_value}
use Rattle.putting.proofs.put_mark.Goals as goal

-- Four bytes FF as one integer.
mark_bytes_law : bytes4 mark_value ≡ mark_bytes Second
unfolding mark_bytes bytes4 bytes2
mark_bytes_law = refl

pub returns-in-Second : goal.returns-in-Second
returns-in-Second c =
    c.put_four.ensures ∙ ap (written _ 0) mark_bytes_law ∙ ap (λ (x : Edition). written c.args.buffer.now 0 (mark_bytes x)) (sym c.in-Second.is)
