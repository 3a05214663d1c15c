-- A panel as plain values. Assumes nothing.
use Rattle.std.specs.Prelude.{ℕ, zero, suc, ◌+◌, cond, List, replicate, slice_index_or, slice_set}
use Rattle.board.specs.Held.{Held, with_output}
use Rattle.board.specs.declared.status.Output.{Output}
use Rattle.board.specs.declared.status.Output.TheVariants as output
use Rattle.slots.specs.declared.sounder.Sounder.{Sounder}
use Rattle.slots.specs.Sounder.{sounder_empty}
use Rattle.door.specs.declared.row.Row.{Row}
use Rattle.door.specs.declared.shown.ReportRow.{ReportRow}
use Rattle.door.specs.Row.{row_at_making}
use Rattle.door.specs.Shown.{report_row}
use Rattle.notices.specs.declared.waiting.Waiting.{Waiting}
use Rattle.notices.specs.Waiting.{none_waiting}

-- the notices that wait, door by door, and the serial of the next one
pub record Notices : Type 0 where
  pub waiting : List Waiting
  pub next : ℕ

-- what a panel is: what its board holds, a row for each door, the sounder, the notices, the rows last reported, its number and
-- the tenth that it has come to
pub record View : Type 0 where
  pub board : Held
  pub rows : List Row
  pub sounder : Sounder
  pub notices : Notices
  pub reported : List ReportRow
  pub number : ℕ
  pub tenth : ℕ

abbrev pub doors_of : View → ℕ
doors_of v = v.board.doors

-- outputs 0 to i - 1 driven to held, from the first
abbrev pub all_held : ℕ → Held → Held
all_held zero h = h
all_held (suc i) h = with_output (all_held i h) i output.Held

-- at making: every output held, slots empty, each door as it is at making
abbrev pub fresh_view : Held → ℕ → ℕ → View
fresh_view h n t = record {
  board = all_held (h.doors + 1) h;
  rows = replicate h.doors row_at_making;
  sounder = sounder_empty;
  notices = record { waiting = replicate h.doors none_waiting; next = 1 };
  reported = replicate h.doors (report_row row_at_making);
  number = n;
  tenth = t;
}

abbrev pub row_at : View → ℕ → Row
row_at v d = slice_index_or v.rows d row_at_making

abbrev pub with_board : View → Held → View
with_board v h = record { board = h; rows = v.rows; sounder = v.sounder; notices = v.notices; reported = v.reported; number = v.number; tenth = v.tenth }

-- out of service a door's output is not driven
abbrev pub door_driven : Held → ℕ → Row → Held
door_driven h d r = cond r.out_of_service h (with_output h d r.commanded.output)

-- door d has this row now, and its output is driven as the row says
abbrev pub with_row : View → ℕ → Row → View
with_row v d r = record {
  board = door_driven v.board d r;
  rows = slice_set v.rows d r;
  sounder = v.sounder;
  notices = v.notices;
  reported = v.reported;
  number = v.number;
  tenth = v.tenth;
}

abbrev pub with_notices : View → Notices → View
with_notices v q = record { board = v.board; rows = v.rows; sounder = v.sounder; notices = q; reported = v.reported; number = v.number; tenth = v.tenth }

-- the same for the memory of a board, by its own rule for a drive
module _ {M : Type 0} (driven : M → ℕ → Output → M) where
  abbrev pub all_driven : ℕ → M → M
  all_driven zero m = m
  all_driven (suc i) m = driven (all_driven i m) i output.Held

  abbrev pub drives_door : M → ℕ → Row → M
  drives_door m d r = cond r.out_of_service m (driven m d r.commanded.output)
