-- What an accepted call on a board comes to. Assumes nothing.
use Rattle.std.proofs.Common.{◌≡◌, ℕ, ◌<◌, Bool, true, false, cond, get_or, Ok, Err, lt-ltb}
use Rattle.board.specs.Held.{Held, contact_answer, reading_answer}
use Rattle.board.specs.declared.status.DoorStatus.{DoorStatus}
use Rattle.board.specs.declared.status.DoorStatus.TheVariants.{Closed}
use Rattle.board.specs.declared.status.LockStatus.{LockStatus}
use Rattle.board.specs.declared.status.LockStatus.TheVariants.{Locked}
use Rattle.board.specs.declared.refusal.Refusal.{Refusal}

ok_is : {X : Type 0} (b : Bool) (r : Refusal) (x y : X) → b ≡ true → cond b (Ok y) (Err r) ≡ Ok x → x ≡ y
ok_is true r x y q e = cc
ok_is false r x y q e = cc

pub contact_is : (h : Held) (i : ℕ) (x : DoorStatus) → i < h.doors → contact_answer h i ≡ Ok x → x ≡ get_or h.inputs.contacts i Closed
contact_is h i x l e = ok_is _ _ x _ (lt-ltb i h.doors l) e

pub reading_is : (h : Held) (i : ℕ) (x : LockStatus) → i < h.doors → reading_answer h i ≡ Ok x → x ≡ get_or h.inputs.readings i Locked
reading_is h i x l e = ok_is _ _ x _ (lt-ltb i h.doors l) e
