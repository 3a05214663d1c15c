use Rattle.std.proofs.Common.{◌<◌, length, arith}
use Rattle.slots.specs.Timed.{fallen}
use Rattle.slots.proofs.Mapped.{mapped_more}
use Rattle.slots.proofs.timed.fall_each.Goals as goal

pub loop-slot-preserved : goal.loop-slot-preserved
loop-slot-preserved c =
    let l = c.loop-slot in
    let hn : l.slot-index < length l.slots = omega arith in
    let ho : l.slot-index < length c.args.slots.now = omega arith in
    mapped_more fallen c.args.slots.now l.slots l.slot-index _ _ ho hn l.invariant.0 l.invariant.1 c.fall.ensures
