use Rattle.std.proofs.Common.{◌≡◌, map, take, drop}
use Rattle.slots.specs.Timed.{fallen}
use Rattle.slots.proofs.timed.fall_each.Given as goal

abbrev pub invariant-loop-slot : goal.invariant-loop-slot
invariant-loop-slot l =
    (take l.slot-index l.slots ≡ map fallen (take l.slot-index l.initial.slots))
    × (drop l.slot-index l.slots ≡ drop l.slot-index l.initial.slots)
