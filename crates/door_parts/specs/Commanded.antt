-- What follows from commands, settings, service and ticks; no contact, no reading. Assumes nothing.
use Rattle.std.specs.Prelude.{ℕ, ◌-◌, Bool, cond, List, map, Option, ◌==◌}
use Rattle.board.specs.declared.status.Output.{Output}
use Rattle.board.specs.declared.status.Output.TheVariants.{Held, Released}
use Rattle.slots.specs.declared.value.DoorValue.{DoorValue}
use Rattle.slots.specs.declared.value.DoorValue.TheVariants.{Lock, Unlock, PulseUnlock, ExtendedPulseUnlock}
use Rattle.slots.specs.declared.timed.Timed.{Timed}
use Rattle.slots.specs.PriorityArray.{none_filled, written_at, before, any_filled}
use Rattle.slots.specs.Timed.{door_present, fallen, stored}
use Rattle.slots.specs.Value.{is_lock, is_pulse}
use Rattle.door_parts.specs.declared.commanded.Commanded.{Commanded}
use Rattle.door_parts.specs.declared.settings.Settings.{Settings}

abbrev pub commanded_at_making : Commanded
commanded_at_making = record { slots = record { at = none_filled }; present_value = Lock; delay_left = 0; output = Held }

-- released under UNLOCK, and under a pulse that has no delay left
abbrev pub output_for : DoorValue → ℕ → Output
output_for Lock d = Held
output_for Unlock d = Released
output_for PulseUnlock d = cond (d == 0) Released Held
output_for ExtendedPulseUnlock d = cond (d == 0) Released Held

-- from LOCK to a pulse the delay starts, from pulse to pulse it goes on, under LOCK and UNLOCK it is 0
abbrev pub delay_after : DoorValue → DoorValue → ℕ → ℕ → ℕ
delay_after ruled v left setting = cond (is_pulse v) (cond (is_lock ruled) setting left) 0

abbrev pub ruling : Commanded → Settings → DoorValue
ruling c s = door_present c.slots.at s.relinquish_default

abbrev pub delay_settled : Commanded → Settings → ℕ
delay_settled c s = delay_after c.present_value (ruling c s) c.delay_left s.door_unlock_delay_time

abbrev pub settled_command : Commanded → Settings → Bool → Commanded
settled_command c s out = record {
  slots = c.slots;
  present_value = ruling c s;
  delay_left = delay_settled c s;
  output = cond out c.output (output_for (ruling c s) (delay_settled c s));
}

abbrev pub with_slots : Commanded → List (Option Timed) → ℕ → Commanded
with_slots c at d = record { slots = record { at = at }; present_value = c.present_value; delay_left = d; output = c.output }

-- a command stores its value in its slot
abbrev pub written : Commanded → Settings → ℕ → Option DoorValue → Commanded
written c s i v = with_slots c (written_at c.slots.at i (stored (any_filled (before i c.slots.at)) s.door_pulse_time s.door_extended_pulse_time v)) c.delay_left

-- at a tick the times left and the delay left fall
abbrev pub ticked_command : Commanded → Commanded
ticked_command c = with_slots c (map fallen c.slots.at) (c.delay_left - 1)
