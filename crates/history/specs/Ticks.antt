-- A tick of a panel, door by door in rising number, and the notices that it raises. Assumes nothing.
use Rattle.std.specs.Prelude.{ℕ, zero, suc, ◌+◌, Bool, cond, not, ◌&&◌, List, length, Some, None, Ok, Err, Option, Result, ◌==◌, nat_lt, slice_index_or, slice_set}
use Rattle.board.specs.Held.{Inputs, with_inputs}
use Rattle.board.specs.Refusals.{wrong_tick_length}
use Rattle.board.specs.declared.refusal.Cause.TheVariants.{LastTenth}
use Rattle.board.specs.declared.refusal.Refusal.{Refusal}
use Rattle.board.specs.declared.status.DoorStatus.{DoorStatus}
use Rattle.board.specs.declared.status.DoorStatus.TheVariants.{Closed}
use Rattle.board.specs.declared.status.LockStatus.{LockStatus}
use Rattle.board.specs.declared.status.LockStatus.TheVariants.{Locked}
use Rattle.board.specs.declared.status.Output.{Output}
use Rattle.events.specs.declared.event.Transition.{Transition}
use Rattle.events.specs.Event.{enabled}
use Rattle.door.specs.declared.door.Ticked.{Ticked}
use Rattle.door.specs.declared.row.Row.{Row}
use Rattle.door.specs.Shown.{flags_of}
use Rattle.door.specs.Tick.{TickedRow, ticked_row, held_row}
use Rattle.notices.specs.declared.notice.Notice.{Notice}
use Rattle.notices.specs.Waiting.{none_waiting, with_notice}
use Rattle.history.specs.Views.{Notices, View, doors_of, row_at, with_row, with_notices, drives_door}
use Rattle.history.specs.DoorCalls.{refused_at}

-- the notice of a transition of door d that led to this row
abbrev pub notice_of : ℕ → ℕ → Row → Transition → Notice
notice_of serial d r t = record { serial = serial; door = d; transition = t; alarm_state = r.sensed.alarm_state; status_flags = flags_of r }

-- a notice waits, in place of one of its door and transition that waited already, which is overtaken
abbrev pub raised : Notices → Notice → Notices
raised q n = record { waiting = slice_set q.waiting n.door (with_notice (slice_index_or q.waiting n.door none_waiting) n); next = q.next + 1 }

-- only an enabled transition raises a notice
abbrev pub raised_by : Notices → ℕ → Row → Option Transition → Notices
raised_by q d r None = q
raised_by q d r (Some t) = cond (enabled r.settings.event_enable t) (raised q (notice_of q.next d r t)) q

abbrev pub contact_at : View → ℕ → DoorStatus
contact_at v d = slice_index_or v.board.inputs.contacts d Closed

abbrev pub reading_at : View → ℕ → LockStatus
reading_at v d = slice_index_or v.board.inputs.readings d Locked

-- what a tick makes of the row of door d, with its transition
unfoldable pub door_ticked : View → ℕ → TickedRow
door_ticked v d = ticked_row (held_row (row_at v d) (contact_at v d) (reading_at v d)) v.tenth

unfoldable pub door_stepped : View → ℕ → View
door_stepped v d = with_notices (with_row v d (door_ticked v d).row) (raised_by v.notices d (door_ticked v d).row (door_ticked v d).transition)

-- the doors below i, in rising number
abbrev pub doors_stepped : ℕ → View → View
doors_stepped zero v = v
doors_stepped (suc i) v = door_stepped (doors_stepped i v) i

-- a tick begins: these are the inputs that the board then has, and the tenth is the next
abbrev pub begun : View → Inputs → View
begun v ins = record {
  board = with_inputs v.board ins;
  rows = v.rows;
  sounder = v.sounder;
  notices = v.notices;
  reported = v.reported;
  number = v.number;
  tenth = v.tenth + 1;
}

abbrev pub fits : View → List ℕ → Bool
fits v bs = length bs == v.board.width

abbrev pub is_before_last : View → Bool
is_before_last v = nat_lt v.tenth 2000000000

abbrev pub is_late : View → List ℕ → Bool
is_late v bs = fits v bs && not (is_before_last v)

-- only an accepted tick begins
abbrev pub begun_if : View → Inputs → List ℕ → View
begun_if v ins bs = cond (fits v bs) (cond (is_before_last v) (begun v ins) v) v

abbrev pub told_if : {M : Type 0} → View → List ℕ → M → M → M
told_if v bs told m = cond (fits v bs) (cond (is_before_last v) told m) m

-- a wrong length is the board's own refusal and goes before the last tenth
abbrev pub tick_answer : View → List ℕ → Result Unit Refusal
tick_answer v bs = cond (fits v bs) (cond (is_before_last v) (Ok tt) (Err (refused_at 0 LastTenth))) (Err (wrong_tick_length (length bs)))

unfoldable pub tick_after : View → Inputs → List ℕ → View
tick_after v ins bs = cond (fits v bs) (cond (is_before_last v) (doors_stepped (doors_of v) (begun v ins)) v) v

module _ {M : Type 0} (driven : M → ℕ → Output → M) where
  -- the doors below i are driven, each as its row then says
  abbrev pub doors_driven : ℕ → View → M → M
  doors_driven zero v m = m
  doors_driven (suc i) v m = drives_door driven (doors_driven i v m) i (door_ticked (doors_stepped i v) i).row

  -- `told` is the memory after the board was given the bytes, which has these inputs
  unfoldable pub tick_memory : View → Inputs → List ℕ → M → M → M
  tick_memory v ins bs told m = cond (fits v bs) (cond (is_before_last v) (doors_driven (doors_of v) (begun v ins) told) m) m

-- what a tick made of a door, as a row
abbrev pub ticked_door : Ticked → TickedRow
ticked_door t = record { row = t.door.row; transition = t.transition }
