-- What a board of at most 64 doors keeps, as what is held. Assumes nothing.
use Rattle.std.specs.Prelude.{ℕ, ◌+◌, cond, map, take, replicate, Ok, Err, Result, nat_lt, slice_index_or}
use Rattle.board.specs.Held.{Held}
use Rattle.board.specs.declared.status.DoorStatus.TheVariants as contact
use Rattle.board.specs.declared.status.LockStatus.TheVariants as reading
use Rattle.board.specs.declared.status.Output.TheVariants as output
use Rattle.board.specs.declared.refusal.Refusal.{Refusal}
use Rattle.board.specs.Refusals.{no_such_output}
use Rattle.boards.specs.declared.terminals.Input.{Input}
use Rattle.boards.specs.declared.terminals.Terminals.{Terminals}

abbrev pub terminals : Terminals → Held
terminals t = record {
  doors = t.doors;
  width = t.width;
  outputs = take (t.doors + 1) t.outputs;
  inputs = record { contacts = map (λ (i : Input). i.contact) (take t.doors t.inputs); readings = map (λ (i : Input). i.reading) (take t.doors t.inputs) };
}

-- at making: outputs held, all else unknown
abbrev pub fresh : ℕ → ℕ → Held
fresh n w = record {
  doors = n;
  width = w;
  outputs = replicate (n + 1) output.Held;
  inputs = record { contacts = replicate n contact.Unknown; readings = replicate n reading.Unknown };
}

-- what a table gives past its end; no call reaches it
abbrev pub no_input : Input
no_input = record { contact = contact.Closed; reading = reading.Locked }

abbrev pub input_answer : Terminals → ℕ → Result Input Refusal
input_answer t d = cond (nat_lt d t.doors) (Ok (slice_index_or (take t.doors t.inputs) d no_input)) (Err (no_such_output d))
