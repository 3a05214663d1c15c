-- The limits of the fields of a record. Assumes nothing.
use Rattle.std.specs.Prelude.{ℕ, Bool, true, ◌&&◌, Some, None, Option, nat_le}
use Rattle.report.specs.declared.fields.Fields.{Fields}

-- a field that is there is at most that, by the order `le`
abbrev pub is_at_most : {V : Type 0} → (V → V → Bool) → Option V → V → Bool
is_at_most le None most = true
is_at_most le (Some v) most = le v most

abbrev pub in_range : Option ℕ → ℕ → Bool
in_range value most = is_at_most nat_le value most

unfoldable pub fields_in_range : Fields → Bool
fields_in_range f =
    in_range f.present_value 3
    && (in_range f.status_flags 15
    && (in_range f.door_alarm_state 8
    && (in_range f.door_status 2
    && (in_range f.lock_status 3
    && (in_range f.secured_status 2
    && (in_range f.output 1
    && in_range f.released_tenths 2000000000))))))
