-- The loop board's rule: a contact byte and a lock byte for each door. Assumes nothing.
use Rattle.std.specs.Prelude.{ℕ, ◌+◌, ◌*◌, Bool, cond, ◌&&◌, List, nat_le, slice_index}
use Rattle.board.specs.declared.status.DoorStatus.{DoorStatus}
use Rattle.board.specs.declared.status.DoorStatus.TheVariants as contact
use Rattle.board.specs.declared.status.LockStatus.{LockStatus}
use Rattle.board.specs.declared.status.LockStatus.TheVariants as reading
use Rattle.boards.specs.declared.loop_board.Band.{Band}
use Rattle.boards.specs.declared.loop_board.Band.TheVariants.{Shut, Open, Trouble}

abbrev between : ℕ → ℕ → ℕ → Bool
between low high b = nat_le low b && nat_le b high

abbrev pub band : ℕ → Band
band b = cond (between 32 127 b) Shut (cond (between 128 223 b) Open Trouble)

abbrev pub loop_contact : Band → DoorStatus
loop_contact Shut = contact.Closed
loop_contact Open = contact.Opened
loop_contact Trouble = contact.Unknown

abbrev pub loop_reading : Band → LockStatus
loop_reading Shut = reading.Locked
loop_reading Open = reading.Unlocked
loop_reading Trouble = reading.Fault

-- door d has bytes 2d and 2d + 1
abbrev pub loop_contact_at : List ℕ → ℕ → DoorStatus
loop_contact_at bs d = loop_contact (band (slice_index bs (2 * d)))

abbrev pub loop_reading_at : List ℕ → ℕ → LockStatus
loop_reading_at bs d = loop_reading (band (slice_index bs (2 * d + 1)))
