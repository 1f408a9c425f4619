-- Each number from 1 to the last has a refusal.
use Rattle.std.proofs.Common.{arith}
use Rattle.answers.specs.declared.Refusal.TheVariants.{NotInOrder, OutsideLimits, NotThere, InUse, WrongNode, LevelTooLow, SharesAbove, DepthAbove, NotEmpty, InDebt, QueueFull, CountAtEnd, BufferShort, PlanWrong, PlanOutOfOrder, StatedWrong, TimetableWrong}
use Rattle.answers.proofs.refusal_of.Goals as goal

pub unreachable-requires : goal.unreachable-requires
unreachable-requires c =
    let none = c.in-Err.ensures.1 in
    omega (arith, none NotInOrder, none OutsideLimits, none NotThere, none InUse, none WrongNode, none LevelTooLow, none SharesAbove, none DepthAbove, none NotEmpty, none InDebt, none QueueFull, none CountAtEnd, none BufferShort, none PlanWrong, none PlanOutOfOrder, none StatedWrong, none TimetableWrong)
