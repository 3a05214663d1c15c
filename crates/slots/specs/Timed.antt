-- Values with their running times in the slots of a door, and what a tick makes of them. Assumes nothing.
use Rattle.std.specs.Prelude.{ℕ, ◌-◌, Bool, true, cond, not, ◌||◌, List, Some, None, Option, ◌==◌, nat_le, nat_lt}
use Rattle.std.specs.List.{list_all}
use Rattle.slots.specs.declared.value.DoorValue.{DoorValue}
use Rattle.slots.specs.declared.value.DoorValue.TheVariants.{Lock, Unlock, PulseUnlock, ExtendedPulseUnlock}
use Rattle.slots.specs.declared.timed.Timed.{Timed}
use Rattle.slots.specs.Priority.{present}
use Rattle.slots.specs.Value.{is_pulse}

abbrev pub with_time : DoorValue → ℕ → Timed
with_time v n = record { value = v; left = n }

abbrev pub door_present : List (Option Timed) → DoorValue → DoorValue
door_present slots d = (present slots (with_time d 0)).value

-- a pulse that stands has time left of 1 or more
abbrev pub timed : Option Timed → Bool
timed None = true
timed (Some t) = not (is_pulse t.value) || nat_lt 0 t.left

abbrev pub all_timed : List (Option Timed) → Bool
all_timed slots = list_all timed slots

-- one tick on: a pulse's time falls by 1, and a pulse whose time is up is NULL
abbrev pub fallen : Option Timed → Option Timed
fallen None = None
fallen (Some t) = cond (is_pulse t.value) (cond (nat_le t.left 1) None (Some (with_time t.value (t.left - 1)))) (Some t)

-- what a pulse is stored as: NULL where its time is 0 or something stands at a lower number
abbrev pub pulse_stored : Bool → DoorValue → ℕ → Option Timed
pulse_stored outranked v time = cond (outranked || time == 0) None (Some (with_time v time))

-- what a command stores in its slot, given whether something stands at a lower number, and the two pulse times
abbrev pub stored : Bool → ℕ → ℕ → Option DoorValue → Option Timed
stored outranked pulse extended None = None
stored outranked pulse extended (Some Lock) = Some (with_time Lock 0)
stored outranked pulse extended (Some Unlock) = Some (with_time Unlock 0)
stored outranked pulse extended (Some PulseUnlock) = pulse_stored outranked PulseUnlock pulse
stored outranked pulse extended (Some ExtendedPulseUnlock) = pulse_stored outranked ExtendedPulseUnlock extended
