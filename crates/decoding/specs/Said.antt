-- Records and rows as text. Assumes nothing.
use Rattle.std.specs.Prelude.{ℕ, List, [], ◌++◌, Some, None, codes, decimal, Option}
use Rattle.std.specs.List.{flat_map}
use Rattle.door.specs.declared.shown.ReportRow.{ReportRow}
use Rattle.report.specs.declared.fields.Fields.{Fields}
use Rattle.mirror.specs.declared.record.Record.{Record}
use Rattle.decoding.specs.declared.field.Field.{Field}
use Rattle.decoding.specs.Field.{fields_in_order, field_name, field_value, value_text}

-- a field that is there, behind a blank
abbrev pub field_text : Field → Option ℕ → List ℕ
field_text p None = []
field_text p (Some n) = codes " " ++ (field_name p ++ (codes "=" ++ value_text p n))

abbrev pub text_in : Fields → Field → List ℕ
text_in f p = field_text p (field_value p f)

unfoldable pub fields_text : Fields → List ℕ
fields_text f = flat_map (text_in f) fields_in_order

abbrev pub record_text : Record → List ℕ
record_text r = codes "record " ++ (decimal r.offset ++ (codes " door " ++ (decimal r.door ++ fields_text r.fields)))

-- all fields of a row
abbrev pub all_fields : ReportRow → Fields
all_fields w = record {
  present_value = Some w.present_value;
  status_flags = Some w.status_flags;
  door_alarm_state = Some w.door_alarm_state;
  door_status = Some w.door_status;
  lock_status = Some w.lock_status;
  secured_status = Some w.secured_status;
  output = Some w.output;
  released_tenths = Some w.released_tenths;
}

abbrev pub row_text : ℕ → ReportRow → List ℕ
row_text d w = codes "door " ++ (decimal d ++ fields_text (all_fields w))
