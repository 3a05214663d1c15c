-- The fields of a row by name, and the text of what they hold. Assumes nothing.
use Rattle.std.specs.Prelude.{ℕ, List, [], ◌∷◌, Some, None, codes, decimal, Option, Result, IfSome, MatchResult}
use Rattle.board.specs.Status.{door_status_of, door_status_name, lock_status_of, lock_status_name, output_of, output_name}
use Rattle.board.specs.declared.refusal.Cause.{Cause}
use Rattle.slots.specs.Value.{door_value_of, door_value_name}
use Rattle.events.specs.Alarm.{alarm_of, alarm_state_name}
use Rattle.door.specs.Shown.{secured_numbered, secured_status_name}
use Rattle.report.specs.declared.fields.Fields.{Fields}
use Rattle.decoding.specs.declared.field.Field.{Field}
use Rattle.decoding.specs.declared.field.Field.TheVariants as field

abbrev pub fields_in_order : List Field
fields_in_order = field.PresentValue ∷ field.StatusFlags ∷ field.DoorAlarmState ∷ field.DoorStatus ∷ field.LockStatus ∷ field.SecuredStatus ∷ field.Output ∷ field.ReleasedTenths ∷ []

abbrev pub field_name : Field → List ℕ
field_name field.PresentValue = codes "Present_Value"
field_name field.StatusFlags = codes "Status_Flags"
field_name field.DoorAlarmState = codes "Door_Alarm_State"
field_name field.DoorStatus = codes "Door_Status"
field_name field.LockStatus = codes "Lock_Status"
field_name field.SecuredStatus = codes "Secured_Status"
field_name field.Output = codes "output"
field_name field.ReleasedTenths = codes "released_tenths"

abbrev pub field_value : Field → Fields → Option ℕ
field_value field.PresentValue f = f.present_value
field_value field.StatusFlags f = f.status_flags
field_value field.DoorAlarmState f = f.door_alarm_state
field_value field.DoorStatus f = f.door_status
field_value field.LockStatus f = f.lock_status
field_value field.SecuredStatus f = f.secured_status
field_value field.Output f = f.output
field_value field.ReleasedTenths f = f.released_tenths

-- the name of a value, or the number where there is no value
abbrev pub name_or_number : {V : Type 0} → (V → List ℕ) → Option V → ℕ → List ℕ
name_or_number name (Some v) n = name v
name_or_number name None n = decimal n

-- the same of what a conversion gives for the number and what a value prints: `is` holds of that text
abbrev pub NamesOrNumbers : {V : Type 0} → (ℕ → Result V Cause → Type 0) → (V → Option (List ℕ)) → ℕ → (List ℕ → Type 0) → Type 0
NamesOrNumbers {V} gives output n is = (r : Result V Cause) × gives n r × MatchResult r (λ v. IfSome (output v) is) (λ _. is (decimal n))

unfoldable pub value_text : Field → ℕ → List ℕ
value_text field.PresentValue n = name_or_number door_value_name (door_value_of n) n
value_text field.StatusFlags n = decimal n
value_text field.DoorAlarmState n = name_or_number alarm_state_name (alarm_of n) n
value_text field.DoorStatus n = name_or_number door_status_name (door_status_of n) n
value_text field.LockStatus n = name_or_number lock_status_name (lock_status_of n) n
value_text field.SecuredStatus n = name_or_number secured_status_name (secured_numbered n) n
value_text field.Output n = name_or_number output_name (output_of n) n
value_text field.ReleasedTenths n = decimal n
