-- The sounder: its values, its slots, and what rules them. Assumes nothing.
use Rattle.std.specs.Prelude.{ℕ, cond, Some, None, Ok, Err, Option, Result, ◌==◌}
use Rattle.board.specs.declared.refusal.Cause.{Cause}
use Rattle.slots.specs.Priority.{present, slot_answer}
use Rattle.slots.specs.PriorityArray.{none_filled, written_at}
use Rattle.slots.specs.Value.{known_value}
use Rattle.slots.specs.declared.sounder.Sounder.{Sounder}
use Rattle.slots.specs.declared.sounder.SounderValue.{SounderValue}
use Rattle.slots.specs.declared.sounder.SounderValue.TheVariants.{Inactive, Active}

abbrev pub sounder_value_number : SounderValue → ℕ
sounder_value_number Inactive = 0
sounder_value_number Active = 1

abbrev pub sounder_value_of : ℕ → Option SounderValue
sounder_value_of n = cond (n == 0) (Some Inactive) (cond (n == 1) (Some Active) None)

abbrev pub sounder_empty : Sounder
sounder_empty = record { slots = record { at = none_filled } }

-- the default is INACTIVE
abbrev pub sounder_present : Sounder → SounderValue
sounder_present x = present x.slots.at Inactive

-- NULL, or the number of a value
abbrev pub sounder_known : Option ℕ → Result (Option SounderValue) Cause
sounder_known v = known_value sounder_value_of v

abbrev pub with_slot : Sounder → ℕ → Result (Option SounderValue) Cause → Result Sounder Cause
with_slot x i (Ok v) = Ok (record { slots = record { at = written_at x.slots.at i v } })
with_slot x i (Err e) = Err e

abbrev pub at_slot : Sounder → Result ℕ Cause → Option ℕ → Result Sounder Cause
at_slot x (Ok i) v = with_slot x i (sounder_known v)
at_slot x (Err e) v = Err e

-- the priority is looked at before the value
abbrev pub sounder_answer : Sounder → ℕ → Option ℕ → Result Sounder Cause
sounder_answer x p v = at_slot x (slot_answer p) v
