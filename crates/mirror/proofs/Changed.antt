-- The fields between two rows take the one to the other. Assumes nothing.
use Rattle.std.proofs.Common.{◌≡◌, ℕ, ◌≤◌, Bool, true, false, cond, eqb, Some, None, Option, unwrap_or, refl, arith}
use Rattle.std.proofs.lemmas.Bool.{eqb-true}
use Rattle.door.specs.declared.shown.ReportRow.{ReportRow}
use Rattle.report.specs.Fields.{if_new, fields_between, bit_of, map_of}
use Rattle.mirror.specs.Apply.{applied}

by_test : (P : Option ℕ → Type 0) (b : Bool) (o n : ℕ) → (b ≡ true → o ≡ n) → (o ≡ n → P None) → P (Some n) → P (cond b None (Some n))
by_test P true o n h same new = same (h refl)
by_test P false o n h same new = new

-- what holds of no field where the values are the same, and of the new value
pub of_new : (P : Option ℕ → Type 0) (o n : ℕ) → (o ≡ n → P None) → P (Some n) → P (if_new o n)
of_new P o n = by_test P (eqb o n) o n (eqb-true o n)

new_value : (o n : ℕ) → unwrap_or (if_new o n) o ≡ n
new_value o n = of_new (λ v. unwrap_or v o ≡ n) o n (λ e. e) refl

abbrev row_of : ℕ → ℕ → ℕ → ℕ → ℕ → ℕ → ℕ → ℕ → ReportRow
row_of a b c d e g h i = record { present_value = a; status_flags = b; door_alarm_state = c; door_status = d; lock_status = e; secured_status = g; output = h; released_tenths = i }

same_rows : (a b c d e g h i a' b' c' d' e' g' h' i' : ℕ) → a ≡ a' → b ≡ b' → c ≡ c' → d ≡ d' → e ≡ e' → g ≡ g' → h ≡ h' → i ≡ i' → row_of a b c d e g h i ≡ row_of a' b' c' d' e' g' h' i'
same_rows a b c d e g h i a' b' c' d' e' g' h' i' p q r s t u v w = cc

-- applying what differs gives the new row
pub applied-between : (old new : ReportRow) → applied old (fields_between old new) ≡ new
applied-between old new =
    same_rows _ _ _ _ _ _ _ _ _ _ _ _ _ _ _ _
    (new_value old.present_value new.present_value)
    (new_value old.status_flags new.status_flags)
    (new_value old.door_alarm_state new.door_alarm_state)
    (new_value old.door_status new.door_status)
    (new_value old.lock_status new.lock_status)
    (new_value old.secured_status new.secured_status)
    (new_value old.output new.output)
    (new_value old.released_tenths new.released_tenths)

kept : (o n w : ℕ) → 1 ≤ w → bit_of (if_new o n) w ≡ 0 → o ≡ n
kept o n w l = of_new (λ v. bit_of v w ≡ 0 → o ≡ n) o n (λ e z. e) (λ z. absurd (omega arith))

-- where no field differs the rows are the same
pub same_between : (old new : ReportRow) → map_of (fields_between old new) ≡ 0 → old ≡ new
same_between old new e =
    same_rows _ _ _ _ _ _ _ _ _ _ _ _ _ _ _ _
    (kept old.present_value new.present_value 1 (omega arith) (omega arith))
    (kept old.status_flags new.status_flags 2 (omega arith) (omega arith))
    (kept old.door_alarm_state new.door_alarm_state 4 (omega arith) (omega arith))
    (kept old.door_status new.door_status 8 (omega arith) (omega arith))
    (kept old.lock_status new.lock_status 16 (omega arith) (omega arith))
    (kept old.secured_status new.secured_status 32 (omega arith) (omega arith))
    (kept old.output new.output 64 (omega arith) (omega arith))
    (kept old.released_tenths new.released_tenths 128 (omega arith) (omega arith))
