-- What a door shows beside its record. Assumes nothing.
use Rattle.std.specs.Prelude.{ℕ, ◌+◌, Bool, true, false, cond, not, ◌||◌, List, codes, Some, None, Option, ◌==◌}
use Rattle.board.specs.Status.{door_status_number, lock_status_number, output_number}
use Rattle.board.specs.declared.status.DoorStatus.{DoorStatus}
use Rattle.board.specs.declared.status.DoorStatus.TheVariants as door
use Rattle.board.specs.declared.status.LockStatus.{LockStatus}
use Rattle.board.specs.declared.status.LockStatus.TheVariants as lock
use Rattle.slots.specs.Value.{door_value_number, is_lock}
use Rattle.events.specs.declared.event.EventState.{EventState}
use Rattle.events.specs.declared.event.EventState.TheVariants.{Normal, Fault, Offnormal}
use Rattle.events.specs.Alarm.{alarm_number, in_set}
use Rattle.events.specs.PerTransition.{bit_number}
use Rattle.door_parts.specs.Sensed.{is_opened}
use Rattle.door.specs.declared.row.Row.{Row}
use Rattle.door.specs.declared.shown.Reliability.{Reliability}
use Rattle.door.specs.declared.shown.Reliability.TheVariants.{NoFaultDetected, MultiStateFault}
use Rattle.door.specs.declared.shown.SecuredStatus.{SecuredStatus}
use Rattle.door.specs.declared.shown.SecuredStatus.TheVariants.{Secured, Unsecured}
use Rattle.door.specs.declared.shown.SecuredStatus.TheVariants as secured
use Rattle.door.specs.declared.shown.StatusFlags.{StatusFlags}
use Rattle.door.specs.declared.shown.ReportRow.{ReportRow}

abbrev pub reliability_number : Reliability → ℕ
reliability_number NoFaultDetected = 0
reliability_number MultiStateFault = 9

abbrev pub secured_number : SecuredStatus → ℕ
secured_number Secured = 0
secured_number Unsecured = 1
secured_number secured.Unknown = 2

-- the one with a number, if there is one
abbrev pub secured_numbered : ℕ → Option SecuredStatus
secured_numbered n = cond (n == 0) (Some Secured) (cond (n == 1) (Some Unsecured) (cond (n == 2) (Some secured.Unknown) None))

abbrev pub secured_status_name : SecuredStatus → List ℕ
secured_status_name Secured = codes "SECURED"
secured_status_name Unsecured = codes "UNSECURED"
secured_status_name secured.Unknown = codes "UNKNOWN"

-- IN_ALARM in bit 0, then FAULT, OVERRIDDEN, OUT_OF_SERVICE
abbrev pub flags_number : StatusFlags → ℕ
flags_number f = bit_number f.in_alarm 1 + bit_number f.fault 2 + bit_number f.overridden 4 + bit_number f.out_of_service 8

abbrev pub is_normal : EventState → Bool
is_normal Normal = true
is_normal Fault = false
is_normal Offnormal = false

-- an alarm state that is a fault value is a fault
abbrev pub has_fault : Row → Bool
has_fault r = in_set r.settings.fault_values r.sensed.alarm_state

abbrev pub reliability_of : Row → Reliability
reliability_of r = cond (has_fault r) MultiStateFault NoFaultDetected

abbrev pub flags_of : Row → StatusFlags
flags_of r = record { in_alarm = not (is_normal r.events.event_state); fault = has_fault r; overridden = false; out_of_service = r.out_of_service }

abbrev pub lock_unsecures : LockStatus → Bool
lock_unsecures lock.Locked = false
lock_unsecures lock.Unlocked = true
lock_unsecures lock.Fault = true
lock_unsecures lock.Unknown = false

abbrev pub closed_or_unknown : DoorStatus → SecuredStatus
closed_or_unknown door.Closed = Secured
closed_or_unknown door.Opened = Unsecured
closed_or_unknown door.Unknown = secured.Unknown

-- in alarm, masked in any way, not under LOCK, open, or with a lock that says unlocked or is in fault
abbrev pub is_unsecured : Row → Bool
is_unsecured r =
    not (is_normal r.events.event_state)
    || (not (r.settings.masked_alarm_values == 0)
    || (not (is_lock r.commanded.present_value)
    || (is_opened r.sensed.door_status || lock_unsecures r.sensed.lock_status)))

abbrev pub secured_of : Row → SecuredStatus
secured_of r = cond (is_unsecured r) Unsecured (closed_or_unknown r.sensed.door_status)

abbrev pub report_row : Row → ReportRow
report_row r = record {
  present_value = door_value_number r.commanded.present_value;
  status_flags = flags_number (flags_of r);
  door_alarm_state = alarm_number r.sensed.alarm_state;
  door_status = door_status_number r.sensed.door_status;
  lock_status = lock_status_number r.sensed.lock_status;
  secured_status = secured_number (secured_of r);
  output = output_number r.commanded.output;
  released_tenths = r.released_tenths;
}
