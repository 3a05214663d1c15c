-- What was written is what is read. Assumes nothing.
use Rattle.std.proofs.Common.{◌≡◌, ℕ, ◌≤◌, Bool, true, false, cond, leb, List, ◌++◌, length, take, drop, IfOk, Ok, Err, Result, sym, refl, ap, ◌∙◌, subst, arith}
use Rattle.std.proofs.lemmas.List.{take_at}
use Rattle.board.specs.declared.refusal.Refusal.{Refusal}
use Rattle.door.specs.declared.shown.ReportRow.{ReportRow}
use Rattle.report.specs.Writing.{report_below, report_bytes, report_answer, report_buffer, doors_in, too_long}
use Rattle.mirror.specs.Mirrored.{Mirrors, records_from}
use Rattle.mirror.specs.Ranges.{InRange}
use Rattle.mirror.proofs.Trip.{trip}

module _ (last rows : List ReportRow) where
  abbrev Goal : List ℕ → ℕ → Type 0
  Goal out n = length last ≡ length rows → length rows ≤ 64 → InRange rows → Mirrors (take n out) 0 last (records_from last rows 0 (length rows)) rows

  whole : length last ≡ length rows → length rows ≤ 64 → InRange rows → Mirrors (report_bytes last rows) 0 last (records_from last rows 0 (length rows)) rows
  unfolding report_below
  whole s f ok =
      let n : doors_in last rows ≡ length rows = omega arith in
      let bs = report_below last rows (doors_in last rows) in
      trip last rows bs s ok (length rows) 0 0 (omega arith) (ap (report_below last rows) n)

  by_room : (b : Bool) (r : Result ℕ Refusal) (out buf bs : List ℕ) → r ≡ cond b (Ok (length bs)) (Err too_long) → out ≡ cond b (bs ++ drop (length bs) buf) buf → (length last ≡ length rows → length rows ≤ 64 → InRange rows → Mirrors bs 0 last (records_from last rows 0 (length rows)) rows) → IfOk r (λ n. Goal out n)
  by_room true r out buf bs e w k =
      subst (λ (x : Result ℕ Refusal). IfOk x (λ n. Goal out n)) (sym e)
      (λ s f ok. subst (λ (x : List ℕ). Mirrors x 0 last (records_from last rows 0 (length rows)) rows) (sym (ap (take (length bs)) w ∙ take_at bs (drop (length bs) buf) (length bs) refl)) (k s f ok))
  by_room false r out buf bs e w k = subst (λ (x : Result ℕ Refusal). IfOk x (λ n. Goal out n)) (sym e) tt

  pub reads_back : (r : Result ℕ Refusal) (out buf : List ℕ) → r ≡ report_answer last rows buf → out ≡ report_buffer last rows buf → IfOk r (λ n. Goal out n)
  reads_back r out buf e w = by_room (leb (length (report_bytes last rows)) (length buf)) r out buf (report_bytes last rows) e w whole
