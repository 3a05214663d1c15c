-- The fields of a record, and how many bytes they take. Assumes nothing.
use Rattle.std.specs.Prelude.{ℕ, ◌+◌, ◌*◌, ◌/◌, ◌%◌, cond, List, [], ◌∷◌, Some, None, Option, ◌==◌, slice_index}
use Rattle.door.specs.declared.shown.ReportRow.{ReportRow}
use Rattle.report.specs.declared.fields.Fields.{Fields}

-- a field that differs from the one last reported
abbrev pub if_new : ℕ → ℕ → Option ℕ
if_new old new = cond (old == new) None (Some new)

abbrev pub fields_between : ReportRow → ReportRow → Fields
fields_between old new = record {
  present_value = if_new old.present_value new.present_value;
  status_flags = if_new old.status_flags new.status_flags;
  door_alarm_state = if_new old.door_alarm_state new.door_alarm_state;
  door_status = if_new old.door_status new.door_status;
  lock_status = if_new old.lock_status new.lock_status;
  secured_status = if_new old.secured_status new.secured_status;
  output = if_new old.output new.output;
  released_tenths = if_new old.released_tenths new.released_tenths;
}

-- the bit of a field stands where the field is there
abbrev pub bit_of : {V : Type 0} → Option V → ℕ → ℕ
bit_of None b = 0
bit_of (Some v) b = b

abbrev pub map_of : Fields → ℕ
map_of f =
    bit_of f.present_value 1 + bit_of f.status_flags 2 + bit_of f.door_alarm_state 4 + bit_of f.door_status 8
    + bit_of f.lock_status 16 + bit_of f.secured_status 32 + bit_of f.output 64 + bit_of f.released_tenths 128

-- the bytes of a value: one, or, of released tenths, four, high first
abbrev pub one_byte : ℕ → List ℕ
one_byte v = v ∷ []

abbrev pub four_bytes : ℕ → List ℕ
four_bytes v = (v / 16777216) ∷ (v / 65536 % 256) ∷ (v / 256 % 256) ∷ (v % 256) ∷ []

-- the value that bytes say
abbrev pub of_one_byte : List ℕ → ℕ
of_one_byte bs = slice_index bs 0

abbrev pub of_four_bytes : List ℕ → ℕ
of_four_bytes bs = (slice_index bs 0 * 256 + slice_index bs 1) * 65536 + (slice_index bs 2 * 256 + slice_index bs 3)

-- a field that is not there has no bytes
abbrev pub field_bytes : {V : Type 0} → (V → List ℕ) → Option V → List ℕ
field_bytes bytes None = []
field_bytes bytes (Some v) = bytes v

-- how many bytes a field takes whose value takes n
abbrev pub width : {V : Type 0} → ℕ → Option V → ℕ
width n None = 0
width n (Some v) = n

abbrev pub record_size : Fields → ℕ
record_size f =
    2 + width 1 f.present_value + width 1 f.status_flags + width 1 f.door_alarm_state + width 1 f.door_status
    + width 1 f.lock_status + width 1 f.secured_status + width 1 f.output + width 4 f.released_tenths
