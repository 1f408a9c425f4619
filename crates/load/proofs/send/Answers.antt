-- What is handed on is the opening, and then part by part the text up to the last tick.
use Rattle.std.proofs.Common.{◌<◌, length, sym, ap, ◌∙◌, refl, arith}
use Rattle.definitions.specs.Calls.{blank}
use Rattle.text.proofs.Appending.{appended_front, appended_counts}
use Rattle.loadformat.proofs.Whole.{begins_way, goes_way, part_stands}
use Rattle.load.proofs.send.Goals as goal

pub begin-progress-requires : goal.begin-progress-requires
unfolding blank
begin-progress-requires c = (omega (arith, ap length c.new-text.ensures.bytes), refl)

pub so_far-requires : goal.so_far-requires
so_far-requires c = (appended_counts _ _ _ _ c.begin-progress.ensures.begins.text).0

pub send_opening-requires : goal.send_opening-requires
send_opening-requires c = c.so_far.ensures ∙ appended_front _ _ _ _ c.begin-progress.ensures.begins.text

pub loop-progress-init : goal.loop-progress-init
loop-progress-init c =
    let begins = c.begin-progress.ensures.begins in
    record {
      way = begins_way _ _ _ _ _ _ _ begins c.begin-progress.result.few;
      sent = c.in_ok-sent.ensures ∙ sym begins.none;
      all = begins.all;
      room = omega (arith, c.begin-progress.ensures.same.long, ap length c.new-text.ensures.bytes);
    }

pub go_on-progress-requires : goal.go_on-progress-requires
go_on-progress-requires c =
    let at = c.loop-progress.invariant in
    let left : c.loop-progress.progress.made < c.loop-progress.progress.ticks = omega arith in
    (at.room, at.way.loaded left, left)

pub so_far-requires-in-loop-progress : goal.so_far-requires-in-loop-progress
so_far-requires-in-loop-progress c = (appended_counts _ _ _ _ c.go_on-progress.ensures.part.text).0

pub send_part-requires : goal.send_part-requires
send_part-requires c =
    let at = c.loop-progress.invariant in
    let part = c.go_on-progress.ensures.part in
    let left : c.loop-progress.progress.made < c.loop-progress.progress.ticks = omega arith in
    (omega arith, c.so_far-in-loop-progress.ensures ∙ part_stands _ _ _ _ _ _ _ _ _ at.way left part _ at.sent)

pub loop-progress-preserved : goal.loop-progress-preserved
loop-progress-preserved c =
    let at = c.loop-progress.invariant in
    let on = c.go_on-progress.ensures in
    let left : c.loop-progress.progress.made < c.loop-progress.progress.ticks = omega arith in
    record {
      way = rw on.ticks.2 (goes_way _ _ _ _ _ _ _ _ _ at.way left on.part);
      sent = c.in_ok-sent-2.ensures;
      all = on.ticks.2 ∙ at.all;
      room = omega (arith, at.room, on.same.long);
    }
