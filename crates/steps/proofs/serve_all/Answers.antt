use Rattle.std.proofs.Common.{◌≡◌, arith}
use Rattle.definitions.specs.Limits.{nodes}
use Rattle.definitions.specs.Tick.{served_all}
use Rattle.steps.specs.Steps.{serving}
use Rattle.steps.proofs.serve_all.Goals as goal

pub returns-clause-follows : goal.returns-clause-follows
unfolding served_all serving
returns-clause-follows c =
    let end : c.loop-k.k ≡ nodes = omega arith in
    rw end at c.loop-k.invariant.follows
