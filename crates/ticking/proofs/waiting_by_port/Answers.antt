use Rattle.std.proofs.Common.{arith}
use Rattle.numbers.proofs.Sums.{sum_grows, sum_upto}
use Rattle.definitions.specs.Limits.{nodes}
use Rattle.definitions.specs.Places.{waiting}
use Rattle.definitions.proofs.Facts.{facts}
use Rattle.definitions.proofs.Ports.{port_whole_number}
use Rattle.ticking.proofs.Waiting.{adds, added, waiting_whole, by_ports}
use Rattle.steps.proofs.Within.{waiting_few}
use Rattle.ticking.proofs.waiting_by_port.Goals as goal

pub unsigned-waiting-requires : goal.unsigned-waiting-requires
unsigned-waiting-requires c =
    let f = facts _ c.args.ordered.in_order in
    omega (arith, waiting_whole _ f c.loop-k.k (omega arith), port_whole_number _ f c.loop-k.k (omega arith))

pub overflow_add-all : goal.overflow_add-all
overflow_add-all c = omega (arith, waiting_few _ (facts _ c.args.ordered.in_order) c.loop-k.k (omega arith))

pub unsigned-requires : goal.unsigned-requires
unsigned-requires c = omega (arith, port_whole_number _ (facts _ c.args.ordered.in_order) c.loop-k.k (omega arith))

pub overflow_mul-second : goal.overflow_mul-second
overflow_mul-second c =
    let a = added _ c.args.ordered.in_order c.loop-k.k _ _ (omega arith) c.unsigned-waiting.ensures c.unsigned.ensures in omega arith

pub overflow_add-second : goal.overflow_add-second
overflow_add-second c =
    let a = added _ c.args.ordered.in_order c.loop-k.k _ _ (omega arith) c.unsigned-waiting.ensures c.unsigned.ensures in omega arith

pub loop-k-preserved : goal.loop-k-preserved
loop-k-preserved c =
    let a = added _ c.args.ordered.in_order c.loop-k.k _ _ (omega arith) c.unsigned-waiting.ensures c.unsigned.ensures in
    let sums = c.loop-k.invariant in
    let t = c.args.ordered.table.now in
    record {
      few = omega arith;
      less = omega arith;
      all = sum_grows c.loop-k.k (waiting t) c.loop-k.all _ sums.all a.all;
      second = sum_grows c.loop-k.k (adds t) c.loop-k.second _ sums.second a.second;
    }

pub returns : goal.returns
returns c =
    let sums = c.loop-k.invariant in
    by_ports _ c.args.ordered.in_order _ _
    (sum_upto c.loop-k.k nodes _ _ sums.all (omega arith) (omega arith))
    (sum_upto c.loop-k.k nodes _ _ sums.second (omega arith) (omega arith))
