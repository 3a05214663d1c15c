use Rattle.std.proofs.Common.{◌≡◌, drop}
use Rattle.slots.specs.Priority.{present}
use Rattle.slots.proofs.priority.present_value.Given as goal

abbrev pub invariant-loop-slot : goal.invariant-loop-slot
invariant-loop-slot g l = present l.slots l.default ≡ present (drop l.slot-index l.slots) l.default
