-- What is kept of one door's contact. Assumes nothing.
use Rattle.std.specs.Prelude.{ℕ, ◌+◌, Bool, cond, ◌==◌, nat_le, nat_lt}
use Rattle.board.specs.declared.status.DoorStatus.{DoorStatus}
use Rattle.board.specs.declared.status.DoorStatus.TheVariants.{Closed, Unknown}
use Rattle.board.specs.Status.{door_status_number}
use Rattle.steady.specs.declared.run.Run.{Run}

abbrev pub same_status : DoorStatus → DoorStatus → Bool
same_status a b = door_status_number a == door_status_number b

abbrev pub run_at_making : Run
run_at_making = record { shown = Unknown; last = Unknown; ticks = 0 }

-- what a table gives past its end; no call reaches it
abbrev pub no_run : Run
no_run = record { shown = Closed; last = Closed; ticks = 0 }

-- for how many ticks in a row c has come, when it comes once more; 255 at most
abbrev pub ticks_after : Run → DoorStatus → ℕ
ticks_after r c = cond (same_status r.last c) (cond (nat_lt r.ticks 255) (r.ticks + 1) 255) 1

abbrev pub run_after : ℕ → Run → DoorStatus → Run
run_after k r c = record { shown = cond (nat_le k (ticks_after r c)) c r.shown; last = c; ticks = ticks_after r c }
