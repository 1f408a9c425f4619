-- The numbers of the node are given to join as they are.
use Rattle.std.proofs.Common.{sym, ap, ◌∙◌}
use borrow.Author.Rules.{sfits_of}
use mir.Syntax.{w64}
use mir.ValLaws.{to_z-of_z}
use Rattle.definitions.specs.Calls.{join_answer}
use Rattle.planformat.specs.Nodes.{share_in, share_kind_in, entry_by}
use Rattle.planformat.proofs.EachKind.{sort_in_kind, share_in_kind}
use Rattle.planlaws.proofs.Accepted.{join_by}
use Rattle.entering.proofs.Told.{number_of_told}
use Rattle.entering.proofs.join_node.Goals as goal

pub returns : goal.returns
unfolding join_answer entry_by
returns c =
    let node = to_z-of_z w64 _ (sfits_of c.whole.type_inv) ∙ c.whole.ensures in
    let parent = to_z-of_z w64 _ (sfits_of c.whole-2.type_inv) ∙ c.whole-2.ensures in
    let sort = to_z-of_z w64 _ (sfits_of c.whole-3.type_inv) ∙ c.whole-3.ensures in
    let kind = to_z-of_z w64 _ (sfits_of c.whole-4.type_inv) ∙ c.whole-4.ensures in
    let share = to_z-of_z w64 _ (sfits_of c.whole-5.type_inv) ∙ c.whole-5.ensures in
    let depth = to_z-of_z w64 _ (sfits_of c.whole-6.type_inv) ∙ c.whole-6.ensures in
    let port = to_z-of_z w64 _ (sfits_of c.whole-7.type_inv) ∙ c.whole-7.ensures in
    let joined = rw (node, parent, sort, kind, share, depth, port) at c.join.ensures in
    let held = c.held_by-held.ensures in
    let x = c.args.node.sort in
    let same =
    join_by c.args.table.now (entry_by c.args.node)
    (c.sort_number.ensures.sort ∙ sym (sort_in_kind x))
    (c.share_kind_in.ensures.kind ∙ ap share_kind_in held ∙ sym (share_in_kind x))
    (c.share_in.ensures ∙ ap share_in held)
    (number_of_told _ _ _ joined.answer)
    joined.table in
    record { number = same.0; table = same.1 }
