-- What a board holds, what its calls answer, and what they leave. Assumes nothing.
use Rattle.std.specs.Prelude.{◌≡◌, ℕ, ◌+◌, ◌≤◌, cond, List, map, length, Ok, Err, Result, ◌==◌, nat_le, nat_lt, slice_index_or, slice_set}
use Rattle.std.specs.List.{range_with_len}
use Rattle.board.specs.declared.status.DoorStatus.{DoorStatus}
use Rattle.board.specs.declared.status.DoorStatus.TheVariants.{Closed}
use Rattle.board.specs.declared.status.LockStatus.{LockStatus}
use Rattle.board.specs.declared.status.LockStatus.TheVariants.{Locked}
use Rattle.board.specs.declared.status.Output.{Output}
use Rattle.board.specs.declared.status.Output.TheVariants as output
use Rattle.board.specs.declared.refusal.Refusal.{Refusal}
use Rattle.board.specs.Refusals.{no_such_output, wrong_tick_length}

-- what the doors' contacts and lock monitors say, door by door
pub record Inputs : Type 0 where
  pub contacts : List DoorStatus
  pub readings : List LockStatus

-- all that can be asked of a board: how many doors it has, how many bytes a tick takes, what each output is driven to
-- (one for each door's lock, then the sounder's), and the inputs
pub record Held : Type 0 where
  pub doors : ℕ
  pub width : ℕ
  pub outputs : List Output
  pub inputs : Inputs

-- the bounds that every board keeps
pub record Sound (h : Held) : Type 0 where
  pub some : 1 ≤ h.doors
  pub few : h.doors ≤ 64
  pub narrow : h.width ≤ 4096
  pub outputs : length h.outputs ≡ h.doors + 1
  pub contacts : length h.inputs.contacts ≡ h.doors
  pub readings : length h.inputs.readings ≡ h.doors

-- output i is set, and nothing else
abbrev pub with_output : Held → ℕ → Output → Held
with_output h i v = record { doors = h.doors; width = h.width; outputs = slice_set h.outputs i v; inputs = h.inputs }

-- the inputs are others, and nothing else
abbrev pub with_inputs : Held → Inputs → Held
with_inputs h ins = record { doors = h.doors; width = h.width; outputs = h.outputs; inputs = ins }

abbrev pub output_answer : Held → ℕ → Result Output Refusal
output_answer h i = cond (nat_le i h.doors) (Ok (slice_index_or h.outputs i output.Held)) (Err (no_such_output i))

abbrev pub contact_answer : Held → ℕ → Result DoorStatus Refusal
contact_answer h i = cond (nat_lt i h.doors) (Ok (slice_index_or h.inputs.contacts i Closed)) (Err (no_such_output i))

abbrev pub reading_answer : Held → ℕ → Result LockStatus Refusal
reading_answer h i = cond (nat_lt i h.doors) (Ok (slice_index_or h.inputs.readings i Locked)) (Err (no_such_output i))

abbrev pub drive_answer : Held → ℕ → Result Unit Refusal
drive_answer h i = cond (nat_le i h.doors) (Ok tt) (Err (no_such_output i))

abbrev pub tick_answer : Held → List ℕ → Result Unit Refusal
tick_answer h bs = cond (length bs == h.width) (Ok tt) (Err (wrong_tick_length (length bs)))

-- what a board holds after a drive or a tick: the new where the call is accepted, else the old
abbrev pub if_driven : {M : Type 0} → Held → ℕ → M → M → M
if_driven h i new old = cond (nat_le i h.doors) new old

abbrev pub if_told : {M : Type 0} → Held → List ℕ → M → M → M
if_told h bs new old = cond (length bs == h.width) new old

-- a list of n places with f d at place d
abbrev pub each : {X : Type 0} → ℕ → (ℕ → X) → List X
each n f = map f (range_with_len 0 n)
