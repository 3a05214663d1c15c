-- The latch board's rules: its locks read what was driven, its contacts go by a hidden count of drives. Assumes nothing.
use Rattle.std.specs.Prelude.{ℕ, ◌+◌, ◌%◌, cond, List, [], ◌∷◌, replicate, ◌==◌, nat_lt, slice_index_or}
use Rattle.board.specs.Held.{Held, with_output, with_inputs, each}
use Rattle.board.specs.declared.status.DoorStatus.{DoorStatus}
use Rattle.board.specs.declared.status.DoorStatus.TheVariants.{Closed, Opened}
use Rattle.board.specs.declared.status.LockStatus.{LockStatus}
use Rattle.board.specs.declared.status.LockStatus.TheVariants.{Locked, Unlocked, Fault}
use Rattle.board.specs.declared.status.Output.{Output}
use Rattle.board.specs.declared.status.Output.TheVariants as output
use Rattle.board_tests.specs.declared.latch.LatchBoard.{LatchBoard}

pub record Latch : Type 0 where
  pub shown : Held
  pub drives : ℕ

abbrev pub latch_held : Latch → Held
latch_held m = m.shown

abbrev pub latch_of : List Output → DoorStatus → List LockStatus → ℕ → Latch
latch_of os c rs n = record {
  shown = record { doors = 2; width = 0; outputs = os; inputs = record { contacts = replicate 2 c; readings = rs } };
  drives = n;
}

abbrev pub latch_memory : LatchBoard → Latch
latch_memory b = latch_of b.outputs b.contact b.readings b.drives

abbrev pub latch_fresh : Latch
latch_fresh = latch_of (replicate 3 output.Released) Opened (replicate 2 Fault) 0

abbrev pub drives_after : ℕ → ℕ
drives_after n = cond (nat_lt n 255) (n + 1) 0

abbrev pub contact_after : ℕ → DoorStatus
contact_after n = cond (n % 2 == 0) Closed Opened

abbrev pub lock_of : Output → LockStatus
lock_of output.Held = Locked
lock_of output.Released = Unlocked

abbrev pub latch_driven : Latch → ℕ → Output → Latch
latch_driven m i v = record { shown = with_output m.shown i v; drives = drives_after m.drives }

abbrev pub latch_told : Latch → List ℕ → Latch
latch_told m bs = record {
  shown = with_inputs m.shown (record {
    contacts = replicate 2 (contact_after m.drives);
    readings = each 2 (λ d. lock_of (slice_index_or m.shown.outputs d output.Held));
  });
  drives = m.drives;
}
