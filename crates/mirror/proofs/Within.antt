-- What differs between two rows is within its limits where the new row is. Assumes nothing.
use Rattle.std.proofs.Common.{◌≡◌, ℕ, true, leb, refl}
use Rattle.std.proofs.lemmas.Bool.{and_parts, and_from}
use Rattle.door.specs.declared.shown.ReportRow.{ReportRow}
use Rattle.report.specs.Fields.{if_new, fields_between}
use Rattle.mirror.specs.Record.{in_range, fields_in_range}
use Rattle.mirror.specs.Ranges.{row_in_range}
use Rattle.mirror.proofs.Changed.{of_new}

new_range : (o n most : ℕ) → leb n most ≡ true → in_range (if_new o n) most ≡ true
new_range o n most h = of_new (λ v. in_range v most ≡ true) o n (λ e. refl) h

pub between_in_range : (old new : ReportRow) → row_in_range new ≡ true → fields_in_range (fields_between old new) ≡ true
unfolding row_in_range fields_in_range
between_in_range old new h =
    let a = and_parts _ _ h in
    let b = and_parts _ _ a.1 in
    let c = and_parts _ _ b.1 in
    let d = and_parts _ _ c.1 in
    let e = and_parts _ _ d.1 in
    let f = and_parts _ _ e.1 in
    let g = and_parts _ _ f.1 in
    and_from _ _ (new_range old.present_value new.present_value 3 a.0)
    (and_from _ _ (new_range old.status_flags new.status_flags 15 b.0)
    (and_from _ _ (new_range old.door_alarm_state new.door_alarm_state 8 c.0)
    (and_from _ _ (new_range old.door_status new.door_status 2 d.0)
    (and_from _ _ (new_range old.lock_status new.lock_status 3 e.0)
    (and_from _ _ (new_range old.secured_status new.secured_status 2 f.0)
    (and_from _ _ (new_range old.output new.output 1 g.0)
    (new_range old.released_tenths new.released_tenths 2000000000 g.1)))))))
