-- A whole report, read and applied record by record. Assumes nothing.
use Rattle.std.specs.Prelude.{◌≡◌, ℕ, zero, suc, ◌+◌, ◌≤◌, cond, List, length, Some, Ok, ◌==◌}
use Rattle.door.specs.declared.shown.ReportRow.{ReportRow}
use Rattle.report.specs.Fields.{map_of}
use Rattle.report.specs.Writing.{door_fields}
use Rattle.mirror.specs.declared.record.Record.{Record}
use Rattle.mirror.specs.Apply.{apply_answer, mirror_after}
use Rattle.mirror.specs.Reading.{next_answer, place_after}

-- reading bs from p on to its end, n records one after the other, and applying each, takes the mirror ws to us
pub data Mirrors (bs : List ℕ) : ℕ → List ReportRow → ℕ → List ReportRow → Type 0 where
  ended : {p : ℕ} {ws : List ReportRow} → length bs ≤ p → Mirrors bs p ws 0 ws
  applied_one : {p : ℕ} {ws us : List ReportRow} {n : ℕ} (r : Record) → next_answer bs p (length ws) ≡ Ok (Some r) → apply_answer (length ws) r ≡ Ok tt → Mirrors bs (place_after (Ok (Some r)) bs p) (mirror_after ws r) n us → Mirrors bs p ws (suc n) us

-- how many of the k doors from d on have a record
abbrev pub records_from : List ReportRow → List ReportRow → ℕ → ℕ → ℕ
records_from last rows d zero = 0
records_from last rows d (suc k) = cond (map_of (door_fields last rows d) == 0) 0 1 + records_from last rows (d + 1) k
