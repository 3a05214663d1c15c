-- The view of a panel after its tables are read or written. Assumes nothing.
use Rattle.std.proofs.Common.{◌≡◌, ℕ, ◌+◌, ◌<◌, ◌≤◌, Bool, true, false, cond, List, length, get_or, take, set, Result, sym, refl, ap, ◌∙◌, subst, arith}
use lib.Seq.{take-set-lt}
use Rattle.std.proofs.lemmas.List.{get_or-take, get_or_default}
use Rattle.board.specs.Held.{Held, with_output}
use Rattle.board.specs.declared.refusal.Cause.{Cause}
use Rattle.board.specs.declared.status.Output.{Output}
use Rattle.slots.specs.declared.sounder.Sounder.{Sounder}
use Rattle.door.specs.declared.door.Door.{Door}
use Rattle.door.specs.declared.row.Row.{Row}
use Rattle.door.specs.declared.shown.ReportRow.{ReportRow}
use Rattle.door.specs.Row.{row_at_making}
use Rattle.door.specs.Calls.{row_of}
use Rattle.notices.specs.declared.notice.Notice.{Notice}
use Rattle.notices.specs.declared.waiting.Waiting.{Waiting}
use Rattle.notices.specs.Waiting.{none_waiting, with_notice}
use Rattle.history.specs.Views.{View, door_driven, drives_door, with_row, with_notices}
use Rattle.history.specs.Ticks.{raised}
use Rattle.history.specs.Kept.{kept, all_kept, MadeKept, Same}
use Rattle.history.proofs.Rows.{kept_at}
use Rattle.history.proofs.Ticks.{doors_by}
use Rattle.history.proofs.DoorCalls.{stays_kept}

-- an element of a table is one of its part
pub of_part : {X : Type 0} (n : ℕ) (xs : List X) (i : ℕ) (d e : X) → i < n → i < length xs → get_or xs i d ≡ get_or (take n xs) i e
of_part n xs i d e l k = get_or_default xs i d e k ∙ sym (get_or-take n xs i e l)

-- all parts of a panel, of which the first n places of each table count
abbrev pub parts : Held → ℕ → List Row → Sounder → List Waiting → ℕ → List ReportRow → ℕ → ℕ → View
parts h n rs s ws next qs number tenth = record { board = h; rows = take n rs; sounder = s; notices = record { waiting = take n ws; next = next }; reported = take n qs; number = number; tenth = tenth }

driven_doors : (h : Held) (i : ℕ) (r : Row) → (door_driven h i r).doors ≡ h.doors
driven_doors h i r = doors_by r.out_of_service h i r.commanded.output

module _ {M : Type 0} (held : M → Held) (driven : M → ℕ → Output → M) (m : M) (i : ℕ) (r : Row) (law : held (driven m i r.commanded.output) ≡ with_output (held m) i r.commanded.output) where
  held_by : (b : Bool) → held (cond b m (driven m i r.commanded.output)) ≡ cond b (held m) (with_output (held m) i r.commanded.output)
  held_by true = refl
  held_by false = law

  pub held_driven : held (drives_door driven m i r) ≡ door_driven (held m) i r
  held_driven = held_by r.out_of_service

-- the row of a door is stored, and its output driven
pub put_view : (h k : Held) (rs : List Row) (s : Sounder) (ws : List Waiting) (next : ℕ) (qs : List ReportRow) (number tenth i : ℕ) (r : Row) → i < h.doors → k ≡ door_driven h i r → parts k k.doors (set rs i r) s ws next qs number tenth ≡ with_row (parts h h.doors rs s ws next qs number tenth) i r
put_view h k rs s ws next qs number tenth i r l e =
    let count : k.doors ≡ h.doors = ap (λ (x : Held). x.doors) e ∙ driven_doors h i r in
    let row : take h.doors (set rs i r) ≡ set (take h.doors rs) i r = take-set-lt h.doors rs i r l in
    ap (λ n. parts k n (set rs i r) s ws next qs number tenth) count
    ∙ ap (λ x. record { board = x; rows = take h.doors (set rs i r); sounder = s; notices = record { waiting = take h.doors ws; next = next }; reported = take h.doors qs; number = number; tenth = tenth }) e
    ∙ ap (λ x. record { board = door_driven h i r; rows = x; sounder = s; notices = record { waiting = take h.doors ws; next = next }; reported = take h.doors qs; number = number; tenth = tenth }) row

-- a row of the doors' part is kept
pub kept_row : (t n : ℕ) (rs : List Row) (i : ℕ) → i < n → n ≤ length rs → all_kept t rs ≡ true → kept t (get_or (take n rs) i row_at_making) ≡ true
kept_row t n rs i l k h =
    subst (λ (x : Row). kept t x ≡ true) (of_part n rs i row_at_making row_at_making l (omega arith)) (kept_at t rs i row_at_making (omega arith) h)

-- what a call made of a door's row can be stored
pub storable : (t n : ℕ) (rs : List Row) (i : ℕ) (o : Result Door Cause) (x : Result Row Cause) → i < n → n ≤ length rs → all_kept t rs ≡ true → row_of o ≡ x → Same (get_or (take n rs) i row_at_making) x → MadeKept t (row_of o)
storable t n rs i o x l k h e s = stays_kept t (get_or (take n rs) i row_at_making) (get_or (take n rs) i row_at_making) o x (kept_row t n rs i l k h) refl e s

-- a notice is kept
pub keep_view : (h : Held) (rs : List Row) (s : Sounder) (ws : List Waiting) (next : ℕ) (qs : List ReportRow) (number tenth : ℕ) (n : Notice) (w : Waiting) → n.door < h.doors → h.doors ≤ length ws → w ≡ with_notice (get_or ws n.door none_waiting) n → parts h h.doors rs s (set ws n.door w) (next + 1) qs number tenth ≡ with_notices (parts h h.doors rs s ws next qs number tenth) (raised (record { waiting = take h.doors ws; next = next }) n)
keep_view h rs s ws next qs number tenth n w l k e =
    let part = take-set-lt h.doors ws n.door w l in
    let same : w ≡ with_notice (get_or (take h.doors ws) n.door none_waiting) n = e ∙ ap (λ x. with_notice x n) (of_part h.doors ws n.door none_waiting none_waiting l (omega arith)) in
    ap (λ x. record { board = h; rows = take h.doors rs; sounder = s; notices = record { waiting = x; next = next + 1 }; reported = take h.doors qs; number = number; tenth = tenth }) (part ∙ ap (set (take h.doors ws) n.door) same)
