-- A board over the bytes of a tick: what it holds, and what a tick tells it, by a rule for what the bytes say. Assumes nothing.
use Rattle.std.specs.Prelude.{ℕ, List}
use Rattle.board.specs.Held.{Held, Inputs, with_inputs, each}
use Rattle.board.specs.declared.status.DoorStatus.{DoorStatus}
use Rattle.board.specs.declared.status.LockStatus.{LockStatus}
use Rattle.boards.specs.declared.door_bytes.DoorBytes.{Ghosts}
use Rattle.boards.specs.declared.byte_board.ByteBoard.{ByteBoard}
use Rattle.boards.specs.Terminals.{terminals}

-- the board holds what can be asked of it, and nothing else
abbrev pub board_memory : {W : Type 0} {rule : Ghosts W} → ByteBoard W rule → Held
board_memory b = terminals b.terminals

-- what the bytes say of n doors
abbrev pub inputs_by : (List ℕ → ℕ → DoorStatus) → (List ℕ → ℕ → LockStatus) → ℕ → List ℕ → Inputs
inputs_by contact reading n bs = record { contacts = each n (contact bs); readings = each n (reading bs) }

abbrev pub told_by : (List ℕ → ℕ → DoorStatus) → (List ℕ → ℕ → LockStatus) → Held → List ℕ → Held
told_by contact reading m bs = with_inputs m (inputs_by contact reading m.doors bs)
