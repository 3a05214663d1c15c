-- Events: the states, the step on state and alarm together, and transitions. Assumes nothing.
use Rattle.std.specs.Prelude.{ℕ, ◌*◌, ◌^◌, Bool, true, cond, not, Some, None, Option, ◌==◌, bit_and, nat_le}
use Rattle.events.specs.declared.alarm.AlarmState.{AlarmState}
use Rattle.events.specs.declared.event.EventState.{EventState}
use Rattle.events.specs.declared.event.EventState.TheVariants.{Normal, Fault, Offnormal}
use Rattle.events.specs.declared.event.Transition.{Transition}
use Rattle.events.specs.declared.event.Transition.TheVariants.{ToOffnormal, ToFault, ToNormal}
use Rattle.events.specs.declared.event.Class.{Class}
use Rattle.events.specs.declared.event.Class.TheVariants.{FaultValue, AlarmValue, NeitherValue}
use Rattle.events.specs.declared.event.Events.{Events}
use Rattle.events.specs.Alarm.{in_set}
use Rattle.events.specs.PerTransition.{transition_number, with_transition}

abbrev pub event_number : EventState → ℕ
event_number Normal = 0
event_number Fault = 1
event_number Offnormal = 2

-- a value in both sets is a fault value
abbrev pub class_of : AlarmState → ℕ → ℕ → Class
class_of a alarms faults = cond (in_set faults a) FaultValue (cond (in_set alarms a) AlarmValue NeitherValue)

-- held for at least the delay: the count is in ticks of a tenth, the delay in seconds
abbrev pub held_long : ℕ → ℕ → Bool
held_long held delay = nat_le (10 * delay) held

abbrev pub event_after : EventState → Class → ℕ → ℕ → EventState
event_after Normal FaultValue h d = Fault
event_after Normal AlarmValue h d = cond (held_long h d) Offnormal Normal
event_after Normal NeitherValue h d = Normal
event_after Fault FaultValue h d = Fault
event_after Fault AlarmValue h d = cond (held_long h d) Offnormal Fault
event_after Fault NeitherValue h d = cond (held_long h d) Normal Fault
event_after Offnormal FaultValue h d = Fault
event_after Offnormal AlarmValue h d = Offnormal
event_after Offnormal NeitherValue h d = cond (held_long h d) Normal Offnormal

-- a change is named by where it leads
abbrev pub transition_of : EventState → EventState → Option Transition
transition_of Normal Normal = None
transition_of Normal Fault = Some ToFault
transition_of Normal Offnormal = Some ToOffnormal
transition_of Fault Normal = Some ToNormal
transition_of Fault Fault = None
transition_of Fault Offnormal = Some ToOffnormal
transition_of Offnormal Normal = Some ToNormal
transition_of Offnormal Fault = Some ToFault
transition_of Offnormal Offnormal = None

abbrev pub transition_numbered : ℕ → Option Transition
transition_numbered n = cond (n == 0) (Some ToOffnormal) (cond (n == 1) (Some ToFault) (cond (n == 2) (Some ToNormal) None))

-- of Event_Enable, bit k is the transition with number k
abbrev pub transition_bit : Transition → ℕ
transition_bit t = 2 ^ transition_number t

abbrev pub enabled : ℕ → Transition → Bool
enabled e t = not (bit_and e (transition_bit t) == 0)

abbrev pub events_at_making : Events
events_at_making = record {
  event_state = Normal;
  acked = record { to_offnormal = true; to_fault = true; to_normal = true };
  stamps = record { to_offnormal = 0; to_fault = 0; to_normal = 0 };
}

abbrev pub acknowledged : Events → Transition → Events
acknowledged v t = record { event_state = v.event_state; acked = with_transition v.acked t true; stamps = v.stamps }

-- a transition that is enabled is stamped with the tenth and is no longer acknowledged; another counts as acknowledged
abbrev pub noted : Events → EventState → ℕ → ℕ → Option Transition → Events
noted v next e tenth None = v
noted v next e tenth (Some t) = record {
  event_state = next;
  acked = with_transition v.acked t (not (enabled e t));
  stamps = cond (enabled e t) (with_transition v.stamps t tenth) v.stamps;
}

abbrev pub stepped : Events → EventState → ℕ → ℕ → Events
stepped v next e tenth = noted v next e tenth (transition_of v.event_state next)
