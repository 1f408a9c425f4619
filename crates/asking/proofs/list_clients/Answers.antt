-- Each turn lists node k where it is a client.
use Rattle.std.proofs.Common.{sym, ◌∙◌, arith}
use Rattle.asking.proofs.Listing.{lists_none, lists_more, lists_stay, lists_all}
use Rattle.asking.proofs.list_clients.Goals as goal
use Rattle.asking.proofs.list_clients.Goals.{then-is_client, else-is_client}

pub loop-k-init : goal.loop-k-init
loop-k-init c = lists_none _ _ (omega arith)

pub loop-k-preserved : goal.loop-k-preserved
loop-k-preserved c =
    elim c.if-is_client.branch [
      | then-is_client w ↦
          rw (w.list-is, w.count-is) (lists_more _ _ _ _ c.loop-k.invariant (omega arith) (sym c.is_client.ensures ∙ w.if-is_client.true))
      | else-is_client w ↦
          rw (w.list-is, w.count-is) (lists_stay _ _ _ _ c.loop-k.invariant (sym c.is_client.ensures ∙ w.if-is_client.false))
    ]

pub returns : goal.returns
returns c =
    let listed = lists_all _ _ _ _ (omega arith) c.loop-k.invariant in
    record { count = listed.0; clients = listed.1 }
