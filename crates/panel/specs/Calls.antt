-- Calls on a door, by what they make of its row. Assumes nothing.
use Rattle.std.specs.Prelude.{◌≡◌, Result}
use Rattle.board.specs.declared.refusal.Cause.{Cause}
use Rattle.door.specs.declared.door.Door.{Door}
use Rattle.door.specs.declared.row.Row.{Row}
use Rattle.door.specs.Calls.{row_of}
use Rattle.history.specs.Kept.{Same}

-- a call makes f of the row of any door
abbrev pub Makes : {F : Type 0} → (F → Door → Result Door Cause → Type 0) → F → (Row → Result Row Cause) → Type 0
Makes post call f = (d : Door) (made : Result Door Cause) → post call d made → row_of made ≡ f d.row

-- it leaves the released tenths of any door
abbrev pub LeavesTenths : {F : Type 0} → (F → Door → Result Door Cause → Type 0) → F → Type 0
LeavesTenths post call = (d : Door) (made : Result Door Cause) → post call d made → Same d.row (row_of made)
