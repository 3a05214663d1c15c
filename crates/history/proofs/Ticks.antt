-- Ticks: one door's, and those of the doors below a number. Assumes nothing.
use Rattle.std.proofs.Common.{◌≡◌, ℕ, zero, suc, ◌+◌, ◌<◌, ◌≤◌, Bool, true, false, cond, leb, ◌≢◌, Some, None, Ok, Err, Option, Result, sym, refl, ap, ◌∙◌, add-one, arith, get_or-set_other}
use borrow.Author.Tests.{lt-leb}
use Rattle.board.specs.Held.{Held, with_output}
use Rattle.board.specs.declared.refusal.Cause.{Cause}
use Rattle.board.specs.declared.status.DoorStatus.{DoorStatus}
use Rattle.board.specs.declared.status.LockStatus.{LockStatus}
use Rattle.board.specs.declared.status.Output.{Output}
use Rattle.board.specs.declared.status.Output.TheVariants as output
use Rattle.events.specs.declared.event.Transition.{Transition}
use Rattle.events.specs.Event.{enabled}
use Rattle.door.specs.declared.door.Ticked.{Ticked}
use Rattle.door.specs.declared.row.Row.{Row}
use Rattle.door.specs.Row.{legal, row_at_making}
use Rattle.door.specs.Tick as door
use Rattle.history.specs.Kept.{kept}
use Rattle.history.specs.Views.{Notices, View, row_at, with_row, with_notices, drives_door}
use Rattle.history.specs.Ticks.{ticked_door, contact_at, reading_at, door_ticked, door_stepped, doors_stepped, doors_driven, raised, notice_of, raised_by}
use Rattle.history.proofs.Rows.{kept_from}

ok_same : {X : Type 0} (b : Bool) (e : Cause) (x y : X) → b ≡ false → Ok x ≡ cond b (Err e) (Ok y) → x ≡ y
ok_same true e x y q h = let z : ◌≡◌ {A = ℕ} 0 1 = cc in absurd (omega arith)
ok_same false e x y q h = cc

-- a door that was not released for too long is ticked
pub ticked_is : (o : Result Ticked Cause) (t : Ticked) (r : Row) (c : DoorStatus) (l : LockStatus) (tenth : ℕ) → o ≡ Ok t → door.ticked_of o ≡ door.tick_answer r c l tenth → r.released_tenths < 2000000000 → ticked_door t ≡ door.ticked_row (door.held_row r c l) tenth
ticked_is o t r c l tenth e h few =
    ok_same (leb 2000000000 r.released_tenths) _ (ticked_door t) (door.ticked_row (door.held_row r c l) tenth) (lt-leb 2000000000 r.released_tenths few) (sym (ap door.ticked_of e) ∙ h)

-- by what the board says of the door
pub door_ticked_is : (v : View) (d : ℕ) (x : door.TickedRow) (r : Row) (c : DoorStatus) (l : LockStatus) → x ≡ door.ticked_row (door.held_row r c l) v.tenth → r ≡ row_at v d → c ≡ contact_at v d → l ≡ reading_at v d → x ≡ door_ticked v d
unfolding door_ticked
door_ticked_is v d x r c l e er ec el =
    e ∙ ap (λ y. door.ticked_row (door.held_row y c l) v.tenth) er ∙ ap (λ y. door.ticked_row (door.held_row (row_at v d) y l) v.tenth) ec ∙ ap (λ y. door.ticked_row (door.held_row (row_at v d) (contact_at v d) y) v.tenth) el

released_most : (o : Output) (n : ℕ) → door.released_after o n ≤ n + 1
released_most output.Held n = omega arith
released_most output.Released n = omega arith

-- released tenths grow by 1 at most
pub ticked_tenths : (v : View) (d : ℕ) → (door_ticked v d).row.released_tenths ≤ (row_at v d).released_tenths + 1
unfolding door_ticked
ticked_tenths v d = released_most (row_at v d).commanded.output (row_at v d).released_tenths

pub ticked_kept : (v : View) (d : ℕ) (r : Row) → r ≡ (door_ticked v d).row → legal r ≡ true → (row_at v d).released_tenths < v.tenth → v.tenth ≤ 2000000000 → kept v.tenth r ≡ true
ticked_kept v d r e l few last =
    let a = ticked_tenths v d in
    let b : r.released_tenths ≡ (door_ticked v d).row.released_tenths = ap (λ (x : Row). x.released_tenths) e in
    kept_from v.tenth r l (omega arith) (omega arith)

-- the notices of a step: the next serial grows by 1 at most
by_test : (b : Bool) (q : Notices) (n : ℕ) (r : Notices) → r.next ≡ q.next + 1 → (cond b r q).next ≤ q.next + 1
by_test true q n r e = omega arith
by_test false q n r e = omega arith

raised_next : (q : Notices) (d : ℕ) (r : Row) (t : Option Transition) → (raised_by q d r t).next ≤ q.next + 1
raised_next q d r None = omega arith
raised_next q d r (Some t) = by_test (enabled r.settings.event_enable t) q 0 (raised q (notice_of q.next d r t)) refl

pub doors_by : (b : Bool) (h : Held) (d : ℕ) (o : Output) → (cond b h (with_output h d o)).doors ≡ h.doors
doors_by true h d o = refl
doors_by false h d o = refl

pub step_doors : (v : View) (d : ℕ) → (door_stepped v d).board.doors ≡ v.board.doors
unfolding door_stepped
step_doors v d = doors_by (door_ticked v d).row.out_of_service v.board d (door_ticked v d).row.commanded.output

step_tenth : (v : View) (d : ℕ) → (door_stepped v d).tenth ≡ v.tenth
unfolding door_stepped
step_tenth v d = refl

step_next : (v : View) (d : ℕ) → (door_stepped v d).notices.next ≤ v.notices.next + 1
unfolding door_stepped
step_next v d = raised_next v.notices d (door_ticked v d).row (door_ticked v d).transition

step_row : (v : View) (d j : ℕ) → j ≢ d → row_at (door_stepped v d) j ≡ row_at v j
unfolding door_stepped
step_row v d j h = get_or-set_other v.rows d j (door_ticked v d).row row_at_making h

-- after the doors below i
pub stepped_doors : (i : ℕ) (v : View) → (doors_stepped i v).board.doors ≡ v.board.doors
stepped_doors zero v = refl
stepped_doors (suc i) v = step_doors (doors_stepped i v) i ∙ stepped_doors i v

pub stepped_tenth : (i : ℕ) (v : View) → (doors_stepped i v).tenth ≡ v.tenth
stepped_tenth zero v = refl
stepped_tenth (suc i) v = step_tenth (doors_stepped i v) i ∙ stepped_tenth i v

pub stepped_next : (i : ℕ) (v : View) → (doors_stepped i v).notices.next ≤ v.notices.next + i
stepped_next zero v = omega arith
stepped_next (suc i) v = let a = step_next (doors_stepped i v) i in let b = stepped_next i v in omega arith

-- a door whose turn has not come has its row
pub stepped_row : (i : ℕ) (v : View) (j : ℕ) → i ≤ j → row_at (doors_stepped i v) j ≡ row_at v j
stepped_row zero v j l = refl
stepped_row (suc i) v j l = let ne : j ≢ i = omega arith in step_row (doors_stepped i v) i j ne ∙ stepped_row i v j (omega arith)

-- a door's row stored, and then its notice raised, is its step
pub stepped_is : (v w u : View) (d : ℕ) (x : door.TickedRow) (r : Row) (t : Option Transition) → x ≡ door_ticked v d → r ≡ x.row → t ≡ x.transition → w ≡ with_row v d r → u ≡ with_notices w (raised_by w.notices d r t) → u ≡ door_stepped v d
unfolding door_stepped
stepped_is v w u d x r t e er et ew eu =
    let row : r ≡ (door_ticked v d).row = er ∙ ap (λ (y : door.TickedRow). y.row) e in
    let tr : t ≡ (door_ticked v d).transition = et ∙ ap (λ (y : door.TickedRow). y.transition) e in
    eu ∙ ap (λ (y : View). with_notices y (raised_by y.notices d r t)) ew
    ∙ ap (λ y. with_notices (with_row v d y) (raised_by v.notices d y t)) row
    ∙ ap (λ y. with_notices (with_row v d (door_ticked v d).row) (raised_by v.notices d (door_ticked v d).row y)) tr
