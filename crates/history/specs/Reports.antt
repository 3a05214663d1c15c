-- A report of a panel. Assumes nothing.
use Rattle.std.specs.Prelude.{ℕ, cond, List, map, length, Result, nat_le}
use Rattle.board.specs.declared.refusal.Refusal.{Refusal}
use Rattle.door.specs.declared.shown.ReportRow.{ReportRow}
use Rattle.door.specs.Shown.{report_row}
use Rattle.report.specs.Writing.{report_bytes, report_answer, report_buffer}
use Rattle.history.specs.Views.{View}

abbrev pub rows_now : View → List ReportRow
rows_now v = map report_row v.rows

abbrev pub reported_bytes : View → List ℕ
reported_bytes v = report_bytes v.reported (rows_now v)

abbrev pub panel_report : View → List ℕ → Result ℕ Refusal
panel_report v buf = report_answer v.reported (rows_now v) buf

abbrev pub panel_buffer : View → List ℕ → List ℕ
panel_buffer v buf = report_buffer v.reported (rows_now v) buf

abbrev pub with_reported : View → List ReportRow → View
with_reported v ws = record { board = v.board; rows = v.rows; sounder = v.sounder; notices = v.notices; reported = ws; number = v.number; tenth = v.tenth }

-- the rows are remembered where the report is accepted
abbrev pub report_after : View → List ℕ → View
report_after v buf = cond (nat_le (length (reported_bytes v)) (length buf)) (with_reported v (rows_now v)) v
