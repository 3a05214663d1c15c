use Rattle.std.proofs.Common.{◌≡◌, map, length, take}
use Rattle.door.specs.Shown.{report_row}
use Rattle.panel.proofs.panel.Panel.rows_now.Given as goal

abbrev pub invariant-loop-door : goal.invariant-loop-door
invariant-loop-door g l = (take l.door l.rows ≡ map report_row (take l.door l.of_doors)) × (length l.rows ≡ 64)
