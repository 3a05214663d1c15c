-- The calls on a door: what each makes of its record, or why it is refused. Assumes nothing.
use Rattle.std.specs.Prelude.{ℕ, Bool, true, false, cond, Some, None, Ok, Err, Option, Result, ◌==◌}
use Rattle.board.specs.declared.refusal.Cause.{Cause}
use Rattle.board.specs.declared.refusal.Cause.TheVariants.{ValueOutOfRange, SimulateInService, AlarmStateMasked}
use Rattle.slots.specs.declared.value.DoorValue.{DoorValue}
use Rattle.slots.specs.Priority.{slot_answer}
use Rattle.slots.specs.Value.{door_value_of, known_value}
use Rattle.events.specs.declared.event.Transition.{Transition}
use Rattle.events.specs.Event.{transition_numbered, acknowledged}
use Rattle.door_parts.specs.Settings.{set_item_answer}
use Rattle.door_parts.specs.Commanded.{written}
use Rattle.door_parts.specs.Sensed.{with_status, with_lock, with_alarm}
use Rattle.door.specs.declared.door.Door.{Door}
use Rattle.door.specs.declared.row.Row.{Row}
use Rattle.door.specs.declared.simulated.Simulated.{Simulated}
use Rattle.door.specs.declared.simulated.Simulated.TheVariants as simulated
use Rattle.door.specs.Row.{settled, with_commanded, with_settings, with_service, with_sensed, with_events}
use Rattle.door.specs.Simulated.{simulated_of, masks}

-- the first refusal stands; without one, what comes next
abbrev pub then : {X Y : Type 0} → Result X Cause → (X → Result Y Cause) → Result Y Cause
then (Ok x) f = f x
then (Err e) f = Err e

-- an accepted call: the door settles
abbrev pub done : Row → Row → Result Row Cause
done r changed = Ok (settled changed r.sensed.alarm_state)

-- NULL, or the number of a value
abbrev pub value_answer : Option ℕ → Result (Option DoorValue) Cause
value_answer v = known_value door_value_of v

abbrev pub command_answer : Row → ℕ → Option ℕ → Result Row Cause
command_answer r p v = then (slot_answer p) (λ i. then (value_answer v) (λ w. done r (with_commanded r (written r.commanded r.settings i w))))

abbrev pub set_row_answer : Row → ℕ → ℕ → Result Row Cause
set_row_answer r i n = then (set_item_answer r.settings i n) (λ s. done r (with_settings r s))

abbrev pub with_simulated : Row → Simulated → Row
with_simulated r (simulated.Door c) = with_sensed r (with_status r.sensed r.commanded.present_value c)
with_simulated r (simulated.Lock l) = with_sensed r (with_lock r.sensed l)
with_simulated r (simulated.Alarm a) = with_sensed r (with_alarm r.sensed a)

abbrev pub simulate_answer : Row → ℕ → ℕ → Result Row Cause
simulate_answer r i n = then (simulated_of i n) (λ x. cond r.out_of_service (cond (masks r.settings x) (Err AlarmStateMasked) (done r (with_simulated r x))) (Err SimulateInService))

-- 1 is out of service, 0 in
abbrev pub out_answer : ℕ → Result Bool Cause
out_answer n = cond (n == 0) (Ok false) (cond (n == 1) (Ok true) (Err ValueOutOfRange))

abbrev pub service_answer : Row → ℕ → Result Row Cause
service_answer r n = then (out_answer n) (λ out. done r (with_service r out))

abbrev pub acknowledge_known : Row → Option Transition → Result Row Cause
acknowledge_known r None = Err ValueOutOfRange
acknowledge_known r (Some t) = done r (with_events r (acknowledged r.events t))

abbrev pub acknowledge_answer : Row → ℕ → Result Row Cause
acknowledge_answer r n = acknowledge_known r (transition_numbered n)

-- the record of the door that a call gave
abbrev pub row_of : Result Door Cause → Result Row Cause
row_of (Ok d) = Ok d.row
row_of (Err e) = Err e
