-- A door's record, and how it settles. Assumes nothing.
use Rattle.std.specs.Prelude.{Bool, false, not, ◌&&◌}
use Rattle.slots.specs.Timed.{all_timed}
use Rattle.slots.specs.Value.{is_pulse}
use Rattle.events.specs.declared.alarm.AlarmState.{AlarmState}
use Rattle.events.specs.declared.event.Events.{Events}
use Rattle.events.specs.Event.{events_at_making}
use Rattle.door_parts.specs.declared.commanded.Commanded.{Commanded}
use Rattle.door_parts.specs.declared.sensed.Sensed.{Sensed}
use Rattle.door_parts.specs.declared.settings.Settings.{Settings}
use Rattle.door_parts.specs.Settings.{settings_at_making}
use Rattle.door_parts.specs.Commanded.{commanded_at_making, settled_command, ruling}
use Rattle.door_parts.specs.Sensed.{sensed_at_making, settled_sense}
use Rattle.door.specs.declared.row.Row.{Row}

abbrev pub row_at_making : Row
row_at_making = record {
  settings = settings_at_making;
  commanded = commanded_at_making;
  out_of_service = false;
  sensed = sensed_at_making;
  events = events_at_making;
  released_tenths = 0;
}

-- no pulse as the default, and time left of 1 or more for each pulse in a slot
abbrev pub legal : Row → Bool
legal r = not (is_pulse r.settings.relinquish_default) && all_timed r.commanded.slots.at

abbrev pub with_settings : Row → Settings → Row
with_settings r s = record { settings = s; commanded = r.commanded; out_of_service = r.out_of_service; sensed = r.sensed; events = r.events; released_tenths = r.released_tenths }

abbrev pub with_commanded : Row → Commanded → Row
with_commanded r c = record { settings = r.settings; commanded = c; out_of_service = r.out_of_service; sensed = r.sensed; events = r.events; released_tenths = r.released_tenths }

abbrev pub with_service : Row → Bool → Row
with_service r out = record { settings = r.settings; commanded = r.commanded; out_of_service = out; sensed = r.sensed; events = r.events; released_tenths = r.released_tenths }

abbrev pub with_sensed : Row → Sensed → Row
with_sensed r x = record { settings = r.settings; commanded = r.commanded; out_of_service = r.out_of_service; sensed = x; events = r.events; released_tenths = r.released_tenths }

abbrev pub with_events : Row → Events → Row
with_events r v = record { settings = r.settings; commanded = r.commanded; out_of_service = r.out_of_service; sensed = r.sensed; events = v; released_tenths = r.released_tenths }

-- settling, where `before` was the alarm state as the call began: first what was commanded, then, under the value that now
-- rules, what is sensed
abbrev pub settled : Row → AlarmState → Row
settled r before = record {
  settings = r.settings;
  commanded = settled_command r.commanded r.settings r.out_of_service;
  out_of_service = r.out_of_service;
  sensed = settled_sense r.sensed r.settings r.out_of_service (ruling r.commanded r.settings) before;
  events = r.events;
  released_tenths = r.released_tenths;
}
