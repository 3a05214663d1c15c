-- The numbers and the names of what a contact says, a lock monitor reads and an output is driven to. Assumes nothing.
use Rattle.std.specs.Prelude.{ℕ, cond, List, codes, Option, None, Some, ◌==◌}
use Rattle.board.specs.declared.status.DoorStatus.{DoorStatus}
use Rattle.board.specs.declared.status.DoorStatus.TheVariants.{Closed, Opened}
use Rattle.board.specs.declared.status.DoorStatus.TheVariants as door
use Rattle.board.specs.declared.status.LockStatus.{LockStatus}
use Rattle.board.specs.declared.status.LockStatus.TheVariants.{Locked, Unlocked, Fault}
use Rattle.board.specs.declared.status.LockStatus.TheVariants as lock
use Rattle.board.specs.declared.status.Output.{Output}
use Rattle.board.specs.declared.status.Output.TheVariants.{Held, Released}

abbrev pub door_status_number : DoorStatus → ℕ
door_status_number Closed = 0
door_status_number Opened = 1
door_status_number door.Unknown = 2

abbrev pub lock_status_number : LockStatus → ℕ
lock_status_number Locked = 0
lock_status_number Unlocked = 1
lock_status_number Fault = 2
lock_status_number lock.Unknown = 3

abbrev pub output_number : Output → ℕ
output_number Held = 0
output_number Released = 1

-- the one with a number, if there is one
abbrev pub door_status_of : ℕ → Option DoorStatus
door_status_of n = cond (n == 0) (Some Closed) (cond (n == 1) (Some Opened) (cond (n == 2) (Some door.Unknown) None))

abbrev pub lock_status_of : ℕ → Option LockStatus
lock_status_of n = cond (n == 0) (Some Locked) (cond (n == 1) (Some Unlocked) (cond (n == 2) (Some Fault) (cond (n == 3) (Some lock.Unknown) None)))

abbrev pub output_of : ℕ → Option Output
output_of n = cond (n == 0) (Some Held) (cond (n == 1) (Some Released) None)

abbrev pub door_status_name : DoorStatus → List ℕ
door_status_name Closed = codes "CLOSED"
door_status_name Opened = codes "OPENED"
door_status_name door.Unknown = codes "UNKNOWN"

abbrev pub lock_status_name : LockStatus → List ℕ
lock_status_name Locked = codes "LOCKED"
lock_status_name Unlocked = codes "UNLOCKED"
lock_status_name Fault = codes "FAULT"
lock_status_name lock.Unknown = codes "UNKNOWN"

abbrev pub output_name : Output → List ℕ
output_name Held = codes "held"
output_name Released = codes "released"
