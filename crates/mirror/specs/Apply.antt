-- Applying a record to the caller's mirror. Assumes nothing.
use Rattle.std.specs.Prelude.{ℕ, Bool, cond, not, ◌||◌, List, length, Ok, Err, Result, nat_le, slice_index_or, slice_set}
use Rattle.std.specs.Option.{unwrap_or}
use Rattle.board.specs.declared.refusal.Cause.TheVariants.{BadRecord}
use Rattle.board.specs.declared.refusal.Layer.TheVariants.{Records}
use Rattle.board.specs.declared.refusal.Refusal.{Refusal}
use Rattle.door.specs.declared.shown.ReportRow.{ReportRow}
use Rattle.report.specs.declared.fields.Fields.{Fields}
use Rattle.report.specs.Writing.{no_report_row}
use Rattle.mirror.specs.declared.record.Record.{Record}
use Rattle.mirror.specs.Record.{fields_in_range}

-- the fields that are there replace those of the row
abbrev pub applied : ReportRow → Fields → ReportRow
applied w f = record {
  present_value = unwrap_or f.present_value w.present_value;
  status_flags = unwrap_or f.status_flags w.status_flags;
  door_alarm_state = unwrap_or f.door_alarm_state w.door_alarm_state;
  door_status = unwrap_or f.door_status w.door_status;
  lock_status = unwrap_or f.lock_status w.lock_status;
  secured_status = unwrap_or f.secured_status w.secured_status;
  output = unwrap_or f.output w.output;
  released_tenths = unwrap_or f.released_tenths w.released_tenths;
}

abbrev pub bad_record : ℕ → Refusal
bad_record offset = record { cause = BadRecord; layer = Records; place = offset }

-- a door that is not in a mirror of n rows, or a field past its limit
abbrev pub is_bad : ℕ → Record → Bool
is_bad n r = nat_le n r.door || not (fields_in_range r.fields)

abbrev pub apply_answer : ℕ → Record → Result Unit Refusal
apply_answer n r = cond (is_bad n r) (Err (bad_record r.offset)) (Ok tt)

-- one row changes, or none
abbrev pub mirror_after : List ReportRow → Record → List ReportRow
mirror_after ws r = cond (is_bad (length ws) r) ws (slice_set ws r.door (applied (slice_index_or ws r.door no_report_row) r.fields))
