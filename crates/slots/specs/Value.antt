-- Door values: their numbers and names, and which of them end by themselves. A value or NULL by its number. Assumes nothing.
use Rattle.std.specs.Prelude.{◌≡◌, ℕ, Bool, true, false, cond, List, codes, Some, None, Ok, Option, Result, ◌==◌, ok_or}
use Rattle.std.specs.Option.{option_map, option_transpose}
use Rattle.board.specs.declared.refusal.Cause.{Cause}
use Rattle.board.specs.declared.refusal.Cause.TheVariants.{ValueOutOfRange}
use Rattle.slots.specs.declared.value.DoorValue.{DoorValue}
use Rattle.slots.specs.declared.value.DoorValue.TheVariants.{Lock, Unlock, PulseUnlock, ExtendedPulseUnlock}

abbrev pub door_value_number : DoorValue → ℕ
door_value_number Lock = 0
door_value_number Unlock = 1
door_value_number PulseUnlock = 2
door_value_number ExtendedPulseUnlock = 3

abbrev pub door_value_of : ℕ → Option DoorValue
door_value_of n = cond (n == 0) (Some Lock) (cond (n == 1) (Some Unlock) (cond (n == 2) (Some PulseUnlock) (cond (n == 3) (Some ExtendedPulseUnlock) None)))

abbrev pub door_value_name : DoorValue → List ℕ
door_value_name Lock = codes "LOCK"
door_value_name Unlock = codes "UNLOCK"
door_value_name PulseUnlock = codes "PULSE_UNLOCK"
door_value_name ExtendedPulseUnlock = codes "EXTENDED_PULSE_UNLOCK"

abbrev pub is_lock : DoorValue → Bool
is_lock Lock = true
is_lock Unlock = false
is_lock PulseUnlock = false
is_lock ExtendedPulseUnlock = false

abbrev pub is_pulse : DoorValue → Bool
is_pulse Lock = false
is_pulse Unlock = false
is_pulse PulseUnlock = true
is_pulse ExtendedPulseUnlock = true

-- the answer where NULL stays NULL, and a number becomes what a conversion gives for it
abbrev pub ValueAnswer : {V : Type 0} → (ℕ → Result V Cause → Type 0) → Option ℕ → Result (Option V) Cause → Type 0
ValueAnswer gives None r = r ≡ Ok None
ValueAnswer {V} gives (Some n) r = (a : Result V Cause) × gives n a × (r ≡ option_transpose (Some a))

-- NULL, or the value with a number
abbrev pub known_value : {V : Type 0} → (ℕ → Option V) → Option ℕ → Result (Option V) Cause
known_value of number = option_transpose (option_map (λ n. ok_or (of n) ValueOutOfRange) number)
