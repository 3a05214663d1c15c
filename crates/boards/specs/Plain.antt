-- The plain board's rule: one byte for each door. Assumes nothing.
use Rattle.std.specs.Prelude.{ℕ, Bool, cond, not, List, ◌==◌, bit_and, slice_index}
use Rattle.board.specs.declared.status.DoorStatus.{DoorStatus}
use Rattle.board.specs.declared.status.DoorStatus.TheVariants as contact
use Rattle.board.specs.declared.status.LockStatus.{LockStatus}
use Rattle.board.specs.declared.status.LockStatus.TheVariants as reading

abbrev pub contact_fitted : ℕ → Bool
contact_fitted b = not (bit_and b 1 == 0)

abbrev pub reads_open : ℕ → Bool
reads_open b = not (bit_and b 2 == 0)

abbrev pub monitor_fitted : ℕ → Bool
monitor_fitted b = not (bit_and b 4 == 0)

abbrev pub unlocked : ℕ → Bool
unlocked b = not (bit_and b 8 == 0)

abbrev pub monitor_trouble : ℕ → Bool
monitor_trouble b = not (bit_and b 16 == 0)

abbrev pub plain_contact : ℕ → DoorStatus
plain_contact b = cond (contact_fitted b) (cond (reads_open b) contact.Opened contact.Closed) contact.Unknown

abbrev pub plain_reading : ℕ → LockStatus
plain_reading b = cond (monitor_fitted b) (cond (monitor_trouble b) reading.Fault (cond (unlocked b) reading.Unlocked reading.Locked)) reading.Unknown

-- door d reads byte d
abbrev pub plain_contact_at : List ℕ → ℕ → DoorStatus
plain_contact_at bs d = plain_contact (slice_index bs d)

abbrev pub plain_reading_at : List ℕ → ℕ → LockStatus
plain_reading_at bs d = plain_reading (slice_index bs d)
