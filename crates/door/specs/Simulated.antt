-- What simulate writes. Assumes nothing.
use Rattle.std.specs.Prelude.{ℕ, Bool, false, cond, Some, None, Ok, Err, Option, Result, ◌==◌}
use Rattle.board.specs.declared.refusal.Cause.{Cause}
use Rattle.board.specs.declared.refusal.Cause.TheVariants.{ValueOutOfRange, NoSuchItem}
use Rattle.board.specs.Status.{door_status_of, lock_status_of}
use Rattle.events.specs.Alarm.{alarm_of, in_set}
use Rattle.door_parts.specs.declared.settings.Settings.{Settings}
use Rattle.door.specs.declared.simulated.Simulated.{Simulated}
use Rattle.door.specs.declared.simulated.Simulated.TheVariants.{Door, Lock, Alarm}

abbrev pub in_range : {X : Type 0} → Option X → (X → Simulated) → Result Simulated Cause
in_range None f = Err ValueOutOfRange
in_range (Some x) f = Ok (f x)

-- item 231 is Door_Status, 233 Lock_Status, 226 Door_Alarm_State
abbrev pub simulated_of : ℕ → ℕ → Result Simulated Cause
simulated_of i n =
    cond (i == 231) (in_range (door_status_of n) Door)
    (cond (i == 233) (in_range (lock_status_of n) Lock)
    (cond (i == 226) (in_range (alarm_of n) Alarm)
    (Err NoSuchItem)))

abbrev pub masks : Settings → Simulated → Bool
masks s (Door c) = false
masks s (Lock l) = false
masks s (Alarm a) = in_set s.masked_alarm_values a
