-- Rows whose fields are within their limits. Assumes nothing.
use Rattle.std.specs.Prelude.{◌≡◌, ℕ, ◌<◌, Bool, true, ◌&&◌, List, length, nat_le, slice_index_or}
use Rattle.door.specs.declared.shown.ReportRow.{ReportRow}
use Rattle.report.specs.Writing.{no_report_row}

unfoldable pub row_in_range : ReportRow → Bool
row_in_range w =
    nat_le w.present_value 3
    && (nat_le w.status_flags 15
    && (nat_le w.door_alarm_state 8
    && (nat_le w.door_status 2
    && (nat_le w.lock_status 3
    && (nat_le w.secured_status 2
    && (nat_le w.output 1
    && nat_le w.released_tenths 2000000000))))))

abbrev pub InRange : List ReportRow → Type 0
InRange ws = (d : ℕ) → d < length ws → row_in_range (slice_index_or ws d no_report_row) ≡ true
