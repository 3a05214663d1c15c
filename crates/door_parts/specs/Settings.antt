-- The settings of a door. Assumes nothing.
use Rattle.std.specs.Prelude.{ℕ, ◌%◌, cond, ◌||◌, Some, None, Ok, Err, Option, Result, ◌==◌, nat_lt}
use Rattle.board.specs.declared.refusal.Cause.{Cause}
use Rattle.board.specs.declared.refusal.Cause.TheVariants.{ValueOutOfRange, NoSuchItem}
use Rattle.slots.specs.declared.value.DoorValue.{DoorValue}
use Rattle.slots.specs.declared.value.DoorValue.TheVariants.{Lock, Unlock}
use Rattle.door_parts.specs.declared.settings.Item.{Item}
use Rattle.door_parts.specs.declared.settings.Item.TheVariants.{AlarmValues, EventEnable, FaultValues, RelinquishDefault, TimeDelay, DoorExtendedPulseTime, DoorOpenTooLongTime, DoorPulseTime, DoorUnlockDelayTime, MaskedAlarmValues}
use Rattle.door_parts.specs.declared.settings.Settings.{Settings}

abbrev pub item_number : Item → ℕ
item_number AlarmValues = 7
item_number EventEnable = 35
item_number FaultValues = 39
item_number RelinquishDefault = 104
item_number TimeDelay = 113
item_number DoorExtendedPulseTime = 227
item_number DoorOpenTooLongTime = 229
item_number DoorPulseTime = 230
item_number DoorUnlockDelayTime = 232
item_number MaskedAlarmValues = 234

abbrev pub item_of : ℕ → Option Item
item_of n =
    cond (n == 7) (Some AlarmValues)
    (cond (n == 35) (Some EventEnable)
    (cond (n == 39) (Some FaultValues)
    (cond (n == 104) (Some RelinquishDefault)
    (cond (n == 113) (Some TimeDelay)
    (cond (n == 227) (Some DoorExtendedPulseTime)
    (cond (n == 229) (Some DoorOpenTooLongTime)
    (cond (n == 230) (Some DoorPulseTime)
    (cond (n == 232) (Some DoorUnlockDelayTime)
    (cond (n == 234) (Some MaskedAlarmValues)
    None)))))))))

abbrev pub settings_at_making : Settings
settings_at_making = record {
  door_pulse_time = 60;
  door_extended_pulse_time = 300;
  door_unlock_delay_time = 0;
  door_open_too_long_time = 300;
  time_delay = 0;
  relinquish_default = Lock;
  masked_alarm_values = 0;
  alarm_values = 28;
  fault_values = 32;
  event_enable = 7;
}

-- what each kind of item takes
abbrev pub number_answer : ℕ → ℕ → Result ℕ Cause
number_answer most n = cond (nat_lt most n) (Err ValueOutOfRange) (Ok n)

-- bits 1 to 8 alone: no bit above 8, and not bit 0
abbrev pub set_of_answer : ℕ → Result ℕ Cause
set_of_answer n = cond (nat_lt 510 n || n % 2 == 1) (Err ValueOutOfRange) (Ok n)

abbrev pub default_answer : ℕ → Result DoorValue Cause
default_answer n = cond (n == 0) (Ok Lock) (cond (n == 1) (Ok Unlock) (Err ValueOutOfRange))

abbrev pub then_set : {X Y : Type 0} → Result X Cause → (X → Y) → Result Y Cause
then_set (Ok x) f = Ok (f x)
then_set (Err e) f = Err e

-- item i is n where it is the one that is set, else as before
abbrev pub if_item : {X : Type 0} → Item → Item → X → X → X
if_item i j new old = cond (item_number i == item_number j) new old

abbrev pub with_number : Settings → Item → ℕ → Settings
with_number s i n = record {
  door_pulse_time = if_item i DoorPulseTime n s.door_pulse_time;
  door_extended_pulse_time = if_item i DoorExtendedPulseTime n s.door_extended_pulse_time;
  door_unlock_delay_time = if_item i DoorUnlockDelayTime n s.door_unlock_delay_time;
  door_open_too_long_time = if_item i DoorOpenTooLongTime n s.door_open_too_long_time;
  time_delay = if_item i TimeDelay n s.time_delay;
  relinquish_default = s.relinquish_default;
  masked_alarm_values = if_item i MaskedAlarmValues n s.masked_alarm_values;
  alarm_values = if_item i AlarmValues n s.alarm_values;
  fault_values = if_item i FaultValues n s.fault_values;
  event_enable = if_item i EventEnable n s.event_enable;
}

abbrev pub with_default : Settings → DoorValue → Settings
with_default s v = record {
  door_pulse_time = s.door_pulse_time;
  door_extended_pulse_time = s.door_extended_pulse_time;
  door_unlock_delay_time = s.door_unlock_delay_time;
  door_open_too_long_time = s.door_open_too_long_time;
  time_delay = s.time_delay;
  relinquish_default = v;
  masked_alarm_values = s.masked_alarm_values;
  alarm_values = s.alarm_values;
  fault_values = s.fault_values;
  event_enable = s.event_enable;
}

abbrev pub set_answer : Settings → Item → ℕ → Result Settings Cause
set_answer s AlarmValues n = then_set (set_of_answer n) (with_number s AlarmValues)
set_answer s EventEnable n = then_set (number_answer 7 n) (with_number s EventEnable)
set_answer s FaultValues n = then_set (set_of_answer n) (with_number s FaultValues)
set_answer s RelinquishDefault n = then_set (default_answer n) (with_default s)
set_answer s TimeDelay n = then_set (number_answer 86400 n) (with_number s TimeDelay)
set_answer s DoorExtendedPulseTime n = then_set (number_answer 864000 n) (with_number s DoorExtendedPulseTime)
set_answer s DoorOpenTooLongTime n = then_set (number_answer 864000 n) (with_number s DoorOpenTooLongTime)
set_answer s DoorPulseTime n = then_set (number_answer 864000 n) (with_number s DoorPulseTime)
set_answer s DoorUnlockDelayTime n = then_set (number_answer 864000 n) (with_number s DoorUnlockDelayTime)
set_answer s MaskedAlarmValues n = then_set (set_of_answer n) (with_number s MaskedAlarmValues)

abbrev pub set_known : Option Item → Settings → ℕ → Result Settings Cause
set_known None s n = Err NoSuchItem
set_known (Some i) s n = set_answer s i n

-- an item that there is not is refused before any number
abbrev pub set_item_answer : Settings → ℕ → ℕ → Result Settings Cause
set_item_answer s i n = set_known (item_of i) s n
