use Rattle.std.proofs.Common.{refl, rules, string_bytes}
use Rattle.board.specs.Status.{door_status_of, door_status_name, lock_status_of, lock_status_name, output_of, output_name}
use Rattle.slots.specs.Value.{door_value_of, door_value_name}
use Rattle.events.specs.Alarm.{alarm_of, alarm_state_name}
use Rattle.door.specs.Shown.{secured_numbered, secured_status_name}
use Rattle.decoding.specs.Field.{value_text}
use Rattle.decoding.proofs.Named.{said}
use Rattle.decoding.proofs.field.Field.push_value.Goals as goal

pub returns-in-PresentValue : goal.returns-in-PresentValue
unfolding value_text
returns-in-PresentValue c = said door_value_name door_value_of (string_bytes c.args.out.now) (string_bytes c.push_name_or_number.new.out) c.args.self _ c.args.number c.push_name_or_number.result c.in-PresentValue.is refl c.push_name_or_number.ensures

pub returns-in-DoorAlarmState : goal.returns-in-DoorAlarmState
unfolding value_text
returns-in-DoorAlarmState c = said alarm_state_name alarm_of (string_bytes c.args.out.now) (string_bytes c.push_name_or_number-in-DoorAlarmState.new.out) c.args.self _ c.args.number c.push_name_or_number-in-DoorAlarmState.result c.in-DoorAlarmState.is refl c.push_name_or_number-in-DoorAlarmState.ensures

pub returns-in-DoorStatus : goal.returns-in-DoorStatus
unfolding value_text
returns-in-DoorStatus c = said door_status_name door_status_of (string_bytes c.args.out.now) (string_bytes c.push_name_or_number-in-DoorStatus.new.out) c.args.self _ c.args.number c.push_name_or_number-in-DoorStatus.result c.in-DoorStatus.is refl c.push_name_or_number-in-DoorStatus.ensures

pub returns-in-LockStatus : goal.returns-in-LockStatus
unfolding value_text
returns-in-LockStatus c = said lock_status_name lock_status_of (string_bytes c.args.out.now) (string_bytes c.push_name_or_number-in-LockStatus.new.out) c.args.self _ c.args.number c.push_name_or_number-in-LockStatus.result c.in-LockStatus.is refl c.push_name_or_number-in-LockStatus.ensures

pub returns-in-SecuredStatus : goal.returns-in-SecuredStatus
unfolding value_text
returns-in-SecuredStatus c = said secured_status_name secured_numbered (string_bytes c.args.out.now) (string_bytes c.push_name_or_number-in-SecuredStatus.new.out) c.args.self _ c.args.number c.push_name_or_number-in-SecuredStatus.result c.in-SecuredStatus.is refl c.push_name_or_number-in-SecuredStatus.ensures

pub returns-in-Output : goal.returns-in-Output
unfolding value_text
returns-in-Output c = said output_name output_of (string_bytes c.args.out.now) (string_bytes c.push_name_or_number-in-Output.new.out) c.args.self _ c.args.number c.push_name_or_number-in-Output.result c.in-Output.is refl c.push_name_or_number-in-Output.ensures

pub returns-in-StatusFlags : goal.returns-in-StatusFlags
unfolding value_text
returns-in-StatusFlags c = search rules
