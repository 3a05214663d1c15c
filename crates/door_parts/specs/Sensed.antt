-- What is sensed of a door: the states that follow the board, the forced mark, the open count, and the alarm. Assumes nothing.
use Rattle.std.specs.Prelude.{ℕ, ◌+◌, Bool, true, false, cond, not, ◌&&◌, ◌==◌, nat_le, nat_lt}
use Rattle.board.specs.declared.status.DoorStatus.{DoorStatus}
use Rattle.board.specs.declared.status.DoorStatus.TheVariants as door
use Rattle.board.specs.declared.status.LockStatus.{LockStatus}
use Rattle.board.specs.declared.status.LockStatus.TheVariants as lock
use Rattle.slots.specs.declared.value.DoorValue.{DoorValue}
use Rattle.slots.specs.Value.{is_lock}
use Rattle.events.specs.declared.alarm.AlarmState.{AlarmState}
use Rattle.events.specs.declared.alarm.AlarmState.TheVariants.{Normal, DoorOpenTooLong, ForcedOpen, DoorFault}
use Rattle.door_parts.specs.declared.sensed.Sensed.{Sensed}
use Rattle.door_parts.specs.declared.settings.Settings.{Settings}
use Rattle.events.specs.Alarm.{alarm_number, in_set}

abbrev pub sensed_at_making : Sensed
sensed_at_making = record { door_status = door.Unknown; lock_status = lock.Unknown; forced = false; open_count = 0; alarm_state = Normal; held_count = 0 }

abbrev pub is_opened : DoorStatus → Bool
is_opened door.Closed = false
is_opened door.Opened = true
is_opened door.Unknown = false

abbrev pub is_fault : LockStatus → Bool
is_fault lock.Locked = false
is_fault lock.Unlocked = false
is_fault lock.Fault = true
is_fault lock.Unknown = false

-- counts stop at 864,000
abbrev pub one_more : ℕ → ℕ
one_more n = cond (nat_lt n 864000) (n + 1) n

-- Door_Status becomes c while v rules: opening marks the door as forced under LOCK and starts the open count; a door that
-- is not open has no mark and no count
abbrev pub with_status : Sensed → DoorValue → DoorStatus → Sensed
with_status x v c = record {
  door_status = c;
  lock_status = x.lock_status;
  forced = cond (is_opened c) (cond (is_opened x.door_status) x.forced (is_lock v)) false;
  open_count = cond (is_opened c && is_opened x.door_status) x.open_count 0;
  alarm_state = x.alarm_state;
  held_count = x.held_count;
}

abbrev pub with_lock : Sensed → LockStatus → Sensed
with_lock x l = record {
  door_status = x.door_status;
  lock_status = l;
  forced = x.forced;
  open_count = x.open_count;
  alarm_state = x.alarm_state;
  held_count = x.held_count;
}

abbrev pub with_alarm : Sensed → AlarmState → Sensed
with_alarm x a = record {
  door_status = x.door_status;
  lock_status = x.lock_status;
  forced = x.forced;
  open_count = x.open_count;
  alarm_state = a;
  held_count = x.held_count;
}

-- at a tick, a door that was open under LOCK and is open still counts one more
abbrev pub counted_open : Sensed → Bool → Sensed
counted_open x was = record {
  door_status = x.door_status;
  lock_status = x.lock_status;
  forced = x.forced;
  open_count = cond (was && is_opened x.door_status) (one_more x.open_count) x.open_count;
  alarm_state = x.alarm_state;
  held_count = x.held_count;
}

-- open while v rules, and v is LOCK
abbrev pub open_under : Sensed → DoorValue → Bool
open_under x v = is_opened x.door_status && is_lock v

-- an alarm is shown where it holds and is not masked
abbrev pub shows : Settings → AlarmState → Bool → Bool
shows s a holds = holds && not (in_set s.masked_alarm_values a)

-- the first that holds and is not masked
abbrev pub alarm_of_door : Settings → LockStatus → DoorStatus → DoorValue → Bool → ℕ → AlarmState
alarm_of_door s l c v forced count =
    cond (shows s DoorFault (is_fault l)) DoorFault
    (cond (shows s ForcedOpen forced) ForcedOpen
    (cond (shows s DoorOpenTooLong ((is_opened c && is_lock v) && (not forced && nat_le s.door_open_too_long_time count))) DoorOpenTooLong
    Normal))

abbrev pub same_alarm : AlarmState → AlarmState → Bool
same_alarm a b = alarm_number a == alarm_number b

abbrev pub forced_settled : Sensed → DoorValue → Bool
forced_settled x v = x.forced && is_lock v

abbrev pub open_settled : Sensed → DoorValue → ℕ
open_settled x v = cond (is_lock v) x.open_count 0

abbrev pub alarm_kept : Sensed → Settings → AlarmState
alarm_kept x s = cond (in_set s.masked_alarm_values x.alarm_state) Normal x.alarm_state

-- out of service the alarm state stays, or is NORMAL where it is masked
abbrev pub alarm_settled : Sensed → Settings → Bool → DoorValue → AlarmState
alarm_settled x s out v =
    cond out
    (alarm_kept x s)
    (alarm_of_door s x.lock_status x.door_status v (forced_settled x v) (open_settled x v))

-- settling under v, where `before` was the alarm state when the call began: a changed one has been held for no tick
abbrev pub settled_sense : Sensed → Settings → Bool → DoorValue → AlarmState → Sensed
settled_sense x s out v before = record {
  door_status = x.door_status;
  lock_status = x.lock_status;
  forced = forced_settled x v;
  open_count = open_settled x v;
  alarm_state = alarm_settled x s out v;
  held_count = cond (same_alarm before (alarm_settled x s out v)) x.held_count 0;
}

-- at a tick that leaves the alarm state as it was, it has been held for one more
abbrev pub held_longer : Sensed → AlarmState → Sensed
held_longer x before = record {
  door_status = x.door_status;
  lock_status = x.lock_status;
  forced = x.forced;
  open_count = x.open_count;
  alarm_state = x.alarm_state;
  held_count = cond (same_alarm before x.alarm_state) (one_more x.held_count) x.held_count;
}
