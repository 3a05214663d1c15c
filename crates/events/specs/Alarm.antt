-- Alarm states: their numbers and names, and sets of them. Assumes nothing.
use Rattle.std.specs.Prelude.{ℕ, ◌^◌, Bool, cond, not, List, codes, Some, None, Option, ◌==◌, bit_and}
use Rattle.events.specs.declared.alarm.AlarmState.{AlarmState}
use Rattle.events.specs.declared.alarm.AlarmState.TheVariants.{Normal, Alarm, DoorOpenTooLong, ForcedOpen, Tamper, DoorFault, LockDown, FreeAccess, EgressOpen}

abbrev pub alarm_number : AlarmState → ℕ
alarm_number Normal = 0
alarm_number Alarm = 1
alarm_number DoorOpenTooLong = 2
alarm_number ForcedOpen = 3
alarm_number Tamper = 4
alarm_number DoorFault = 5
alarm_number LockDown = 6
alarm_number FreeAccess = 7
alarm_number EgressOpen = 8

abbrev pub alarm_of : ℕ → Option AlarmState
alarm_of n =
    cond (n == 0) (Some Normal)
    (cond (n == 1) (Some Alarm)
    (cond (n == 2) (Some DoorOpenTooLong)
    (cond (n == 3) (Some ForcedOpen)
    (cond (n == 4) (Some Tamper)
    (cond (n == 5) (Some DoorFault)
    (cond (n == 6) (Some LockDown)
    (cond (n == 7) (Some FreeAccess)
    (cond (n == 8) (Some EgressOpen)
    None))))))))

abbrev pub alarm_state_name : AlarmState → List ℕ
alarm_state_name Normal = codes "NORMAL"
alarm_state_name Alarm = codes "ALARM"
alarm_state_name DoorOpenTooLong = codes "DOOR_OPEN_TOO_LONG"
alarm_state_name ForcedOpen = codes "FORCED_OPEN"
alarm_state_name Tamper = codes "TAMPER"
alarm_state_name DoorFault = codes "DOOR_FAULT"
alarm_state_name LockDown = codes "LOCK_DOWN"
alarm_state_name FreeAccess = codes "FREE_ACCESS"
alarm_state_name EgressOpen = codes "EGRESS_OPEN"

-- in a set of alarm states, bit k is the state with number k
abbrev pub alarm_bit : AlarmState → ℕ
alarm_bit a = 2 ^ alarm_number a

abbrev pub in_set : ℕ → AlarmState → Bool
in_set set a = not ((bit_and set (alarm_bit a)) == 0)
