-- A tick of one door, step by step. Assumes nothing.
use Rattle.std.specs.Prelude.{ℕ, ◌+◌, cond, Ok, Err, Option, Result, nat_le}
use Rattle.board.specs.declared.refusal.Cause.{Cause}
use Rattle.board.specs.declared.refusal.Cause.TheVariants.{LastTenth}
use Rattle.board.specs.declared.status.DoorStatus.{DoorStatus}
use Rattle.board.specs.declared.status.LockStatus.{LockStatus}
use Rattle.board.specs.declared.status.Output.{Output}
use Rattle.board.specs.declared.status.Output.TheVariants.{Held, Released}
use Rattle.events.specs.declared.event.EventState.{EventState}
use Rattle.events.specs.declared.event.Transition.{Transition}
use Rattle.events.specs.Event.{class_of, event_after, transition_of, stepped}
use Rattle.door_parts.specs.declared.sensed.Sensed.{Sensed}
use Rattle.door_parts.specs.Commanded.{ticked_command}
use Rattle.door_parts.specs.Sensed.{with_status, with_lock, counted_open, open_under, held_longer}
use Rattle.door.specs.declared.door.Ticked.{Ticked}
use Rattle.door.specs.declared.row.Row.{Row}
use Rattle.door.specs.Row.{settled, with_sensed, with_events}

-- 1: a tick that finds the output released counts
abbrev pub released_after : Output → ℕ → ℕ
released_after Held n = n
released_after Released n = n + 1

-- 2: in service the states follow the board, under the value that ruled before the tick
abbrev pub followed : Row → DoorStatus → LockStatus → Sensed
followed r c l = cond r.out_of_service r.sensed (with_lock (with_status r.sensed r.commanded.present_value c) l)

-- 4: open under LOCK before the tick, and open still
abbrev pub sensed_at_tick : Row → DoorStatus → LockStatus → Sensed
sensed_at_tick r c l = counted_open (followed r c l) (open_under r.sensed r.commanded.present_value)

-- 3: times left and delay left fall
abbrev pub timed_row : Row → DoorStatus → LockStatus → Row
timed_row r c l = record {
  settings = r.settings;
  commanded = ticked_command r.commanded;
  out_of_service = r.out_of_service;
  sensed = sensed_at_tick r c l;
  events = r.events;
  released_tenths = released_after r.commanded.output r.released_tenths;
}

abbrev pub longer : Row → Row → Row
longer r before = with_sensed r (held_longer r.sensed before.sensed.alarm_state)

-- 5: it settles, and an alarm state that stayed has been held for one tick more
abbrev pub held_row : Row → DoorStatus → LockStatus → Row
held_row r c l = longer (settled (timed_row r c l) r.sensed.alarm_state) r

-- 6: where the alarm state, as it is held, leads the Event_State
abbrev pub event_next : Row → EventState
event_next r = event_after r.events.event_state (class_of r.sensed.alarm_state r.settings.alarm_values r.settings.fault_values) r.sensed.held_count r.settings.time_delay

abbrev pub evented_row : Row → ℕ → Row
evented_row r tenth = with_events r (stepped r.events (event_next r) r.settings.event_enable tenth)

abbrev pub transition_at : Row → Option Transition
transition_at r = transition_of r.events.event_state (event_next r)

-- what a tick made of a record, and the transition
pub record TickedRow : Type 0 where
  pub row : Row
  pub transition : Option Transition

abbrev pub ticked_row : Row → ℕ → TickedRow
ticked_row r tenth = record { row = evented_row r tenth; transition = transition_at r }

-- a door that was released for 2,000,000,000 tenths is not ticked again, whatever the tenth
abbrev pub tick_answer : Row → DoorStatus → LockStatus → ℕ → Result TickedRow Cause
tick_answer r c l tenth = cond (nat_le 2000000000 r.released_tenths) (Err LastTenth) (Ok (ticked_row (held_row r c l) tenth))

abbrev pub ticked_of : Result Ticked Cause → Result TickedRow Cause
ticked_of (Ok t) = Ok (record { row = t.door.row; transition = t.transition })
ticked_of (Err e) = Err e
