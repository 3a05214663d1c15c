-- The bytes of a report. Assumes nothing.
use Rattle.std.specs.Prelude.{ℕ, min, cond, List, [], ◌∷◌, ◌++◌, length, drop, Ok, Err, Result, ◌==◌, nat_le, slice_index_or}
use Rattle.std.specs.List.{range_with_len, flat_map}
use Rattle.board.specs.declared.refusal.Cause.TheVariants.{ReportTooLong}
use Rattle.board.specs.declared.refusal.Layer.TheVariants.{Panel}
use Rattle.board.specs.declared.refusal.Refusal.{Refusal}
use Rattle.door.specs.declared.shown.ReportRow.{ReportRow}
use Rattle.report.specs.declared.fields.Fields.{Fields}
use Rattle.report.specs.Fields.{fields_between, map_of, one_byte, four_bytes, field_bytes, record_size}

-- bit map, door, and then the fields that are there, in order
unfoldable pub encoded : ℕ → Fields → List ℕ
encoded d f =
    ((((((((map_of f ∷ d ∷ []) ++ field_bytes one_byte f.present_value) ++ field_bytes one_byte f.status_flags) ++ field_bytes one_byte f.door_alarm_state) ++ field_bytes one_byte f.door_status)
    ++ field_bytes one_byte f.lock_status) ++ field_bytes one_byte f.secured_status) ++ field_bytes one_byte f.output) ++ field_bytes four_bytes f.released_tenths

-- a door whose row is as last reported has no record
abbrev pub door_bytes : ℕ → Fields → List ℕ
door_bytes d f = cond (map_of f == 0) [] (encoded d f)

abbrev pub door_size : Fields → ℕ
door_size f = cond (map_of f == 0) 0 (record_size f)

abbrev pub no_report_row : ReportRow
no_report_row = record { present_value = 0; status_flags = 0; door_alarm_state = 0; door_status = 0; lock_status = 0; secured_status = 0; output = 0; released_tenths = 0 }

-- the fields that door d has to report
abbrev pub door_fields : List ReportRow → List ReportRow → ℕ → Fields
door_fields last rows d = fields_between (slice_index_or last d no_report_row) (slice_index_or rows d no_report_row)

-- a report is of as many doors as both tables have, and of 64 at most
abbrev pub doors_in : List ReportRow → List ReportRow → ℕ
doors_in last rows = min (min (length last) (length rows)) 64

abbrev pub bytes_of_door : List ReportRow → List ReportRow → ℕ → List ℕ
bytes_of_door last rows d = door_bytes d (door_fields last rows d)

-- the records of the doors below n, in rising order
unfoldable pub report_below : List ReportRow → List ReportRow → ℕ → List ℕ
report_below last rows n = flat_map (bytes_of_door last rows) (range_with_len 0 n)

abbrev pub report_bytes : List ReportRow → List ReportRow → List ℕ
report_bytes last rows = report_below last rows (doors_in last rows)

abbrev pub too_long : Refusal
too_long = record { cause = ReportTooLong; layer = Panel; place = 0 }

-- the byte count, or the refusal where the buffer is too short
abbrev pub report_answer : List ReportRow → List ReportRow → List ℕ → Result ℕ Refusal
report_answer last rows buf = cond (nat_le (length (report_bytes last rows)) (length buf)) (Ok (length (report_bytes last rows))) (Err too_long)

-- the report stands at the front of the buffer, and later bytes stay; a refused report leaves the buffer
abbrev pub report_buffer : List ReportRow → List ReportRow → List ℕ → List ℕ
report_buffer last rows buf = cond (nat_le (length (report_bytes last rows)) (length buf)) (report_bytes last rows ++ drop (length (report_bytes last rows)) buf) buf
